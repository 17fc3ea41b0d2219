use Rattle.hull.specs.Rings.{listed}
use Rattle.hull.proofs.Layers.{Off}
use Rattle.hull.proofs.peeling.peel.Given as goal

abbrev pub invariant-loop-mark : goal.invariant-loop-mark
invariant-loop-mark l = Off (listed l.ring) l.round l.initial.flags l.initial.entries l.flags l.entries l.mark-index
