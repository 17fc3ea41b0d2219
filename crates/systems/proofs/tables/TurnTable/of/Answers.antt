-- A table that is accepted passes the test of the laws.
use Rattle.std.proofs.Common.{refl}
use Rattle.systems.proofs.Judging.{table_tested, accepts}
use Rattle.systems.proofs.tables.TurnTable.of.Goals as goal

pub invariant_of-result : goal.invariant_of-result
invariant_of-result c =
    let t = c.in_ok-turns.turns in
    let h = (accepts t.count t.list.now _ c.in_ok-check_fives.ensures.judged).0 refl in
    record { kept = table_tested t.count t.list.now h.0 h.1 }
