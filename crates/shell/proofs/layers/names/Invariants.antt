use Rattle.std.proofs.Common.{◌≡◌, map, vec_items, decimal}
use Rattle.shell.specs.Layered.{Wides}
use Rattle.shell.proofs.layers.names.Given as goal

-- the names so far are written by the entries so far
abbrev pub invariant-loop-entry : goal.invariant-loop-entry
invariant-loop-entry l = Wides (vec_items l.names) × (map decimal (vec_items l.names) ≡ map (λ e. e.now) l.yielded)
