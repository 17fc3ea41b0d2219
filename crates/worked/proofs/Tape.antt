-- The tape around the outline of the section.
use Rattle.std.proofs.Common.{ℕ, zero, suc, ◌<◌, List, [], ◌∷◌, refl, lit≤, lit<, arith}
use Rattle.sections.specs.Tapes.{Root, squared_arc, entry, Parts, Taped}
use Rattle.worked.specs.Worked.{section, outline_of_five}

abbrev found : List ℕ
found = 10291 ∷ 8444 ∷ 7454 ∷ 7240 ∷ []

roots : (i : ℕ) → i < 4 → Root (squared_arc section outline_of_five i) (entry found i)
roots zero lt = record { low = lit≤ tt; high = lit< tt }
roots (suc zero) lt = record { low = lit≤ tt; high = lit< tt }
roots (suc (suc zero)) lt = record { low = lit≤ tt; high = lit< tt }
roots (suc (suc (suc zero))) lt = record { low = lit≤ tt; high = lit< tt }
roots (suc (suc (suc (suc i)))) lt = absurd (omega arith)

pub parts_of_five : Parts section outline_of_five 33429
parts_of_five = record { parts = found; one_each = refl; roots = roots; adds = refl }

pub tape_of_five : Taped section outline_of_five 33
tape_of_five = record { parts = 33429; around = parts_of_five; rounded = refl }
