-- The groups of four that each loop has passed keep the laws.
use Rattle.std.proofs.Common.{[], ◌∷◌}
use Rattle.systems.specs.Tables.{turn_table}
use Rattle.systems.proofs.Passing.{Passed}
use Rattle.systems.proofs.tables.Turns.check_fours.Given as goal

abbrev pub invariant-loop-a : goal.invariant-loop-a
invariant-loop-a l = Passed 4 (turn_table l.self.count l.self.list.now) (l.a ∷ [])

abbrev pub invariant-loop-b : goal.invariant-loop-b
invariant-loop-b l = Passed 4 (turn_table l.self.count l.self.list.now) (l.a ∷ l.b ∷ [])

abbrev pub invariant-loop-c : goal.invariant-loop-c
invariant-loop-c l = Passed 4 (turn_table l.self.count l.self.list.now) (l.a ∷ l.b ∷ l.c ∷ [])

abbrev pub invariant-loop-d : goal.invariant-loop-d
invariant-loop-d l = Passed 4 (turn_table l.self.count l.self.list.now) (l.a ∷ l.b ∷ l.c ∷ l.d ∷ [])
