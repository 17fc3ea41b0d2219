use Rattle.std.proofs.Common.{sym, subst}
use Rattle.systems.specs.Tables.{Judged}
use Rattle.systems.proofs.Judging.{accepts}
use Rattle.systems.proofs.tables.TurnTable.open.Goals as goal

pub returns-in-Ok-clause-lawful : goal.returns-in-Ok-clause-lawful
returns-in-Ok-clause-lawful c =
    let n = c.args.count in
    let ts = c.args.turns.now in
    let h = c.in-Ok.ensures.judged in
    accepts n ts _ (subst (Judged n ts) (sym h.1) h.0)

pub returns-clause-lawful : goal.returns-clause-lawful
returns-clause-lawful c = accepts c.args.count c.args.turns.now _ c.in-Err.ensures.judged
