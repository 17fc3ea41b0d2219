use Rattle.std.proofs.Common.{◌≡◌, [], ◌∷◌, ◌++◌, get_or, string_bytes, codes}
use Rattle.reports.specs.Lines.{each, line}
use Rattle.reports.proofs.lines.write_pairs.Given as goal

abbrev pub invariant-loop-p : goal.invariant-loop-p
invariant-loop-p l = string_bytes l.out ≡ string_bytes l.initial.out ++ each (λ k. line (codes "star") ((get_or l.pairs k (0, 0)).0 ∷ (get_or l.pairs k (0, 0)).1 ∷ [])) l.p-index
