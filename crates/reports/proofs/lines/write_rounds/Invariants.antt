use Rattle.std.proofs.Common.{◌≡◌, [], ◌∷◌, ◌++◌, get_or, string_bytes, codes}
use Rattle.reports.specs.Lines.{each, line}
use Rattle.reports.proofs.lines.write_rounds.Given as goal

abbrev pub invariant-loop-mark : goal.invariant-loop-mark
invariant-loop-mark l = string_bytes l.out ≡ string_bytes l.initial.out ++ each (λ p. line (codes "round") (p ∷ get_or l.rounds p 0 ∷ [])) l.mark
