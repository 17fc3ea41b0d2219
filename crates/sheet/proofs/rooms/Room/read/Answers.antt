use Rattle.std.proofs.Common.{refl, arith}
use Rattle.std.proofs.lemmas.Result.{err_from_is_err_and}
use Rattle.sheet.specs.declared.Kind.TheVariants.{Points, FlatPoints, Network, Table}
use Rattle.sheet.proofs.Readings.{due_taken, stops}
use Rattle.sheet.proofs.rooms.Room.read.Goals as goal

pub returns-in_err-read_places-in-Points : goal.returns-in_err-read_places-in-Points
returns-in_err-read_places-in-Points c =
    let p = err_from_is_err_and c.from_residual-in_err-read_places-in-Points.result c.from_residual-in_err-read_places-in-Points.ensures.1 in
    rw (p.1, p.2) (record { told = stops Points _ _ _ _ _ _ c.in-Points.is refl c.in_ok-kind.ensures.opened c.in_err-read_places-in-Points.ensures.read })

pub returns-in_err-read_places-in-FlatPoints : goal.returns-in_err-read_places-in-FlatPoints
returns-in_err-read_places-in-FlatPoints c =
    let p = err_from_is_err_and c.from_residual-in_err-read_places-in-FlatPoints.result c.from_residual-in_err-read_places-in-FlatPoints.ensures.1 in
    rw (p.1, p.2) (record { told = stops FlatPoints _ _ _ _ _ _ c.in-FlatPoints.is refl c.in_ok-kind.ensures.opened c.in_err-read_places-in-FlatPoints.ensures.read })

pub returns-in_err-read_lines-in-Network : goal.returns-in_err-read_lines-in-Network
returns-in_err-read_lines-in-Network c =
    let p = err_from_is_err_and c.from_residual-in_err-read_lines-in-Network.result c.from_residual-in_err-read_lines-in-Network.ensures.1 in
    let due = due_taken _ Network _ _ c.args.self.now.crossings c.in-Network.is c.due-due.ensures.due c.in_ok-kind.ensures.opened.limited (omega arith) in
    rw (p.1, p.2) (record { told = stops Network _ _ _ _ _ _ c.in-Network.is due c.in_ok-kind.ensures.opened c.in_err-read_lines-in-Network.ensures.read })

pub returns-in_err-read_lines-in-Table : goal.returns-in_err-read_lines-in-Table
returns-in_err-read_lines-in-Table c =
    let p = err_from_is_err_and c.from_residual-in_err-read_lines-in-Table.result c.from_residual-in_err-read_lines-in-Table.ensures.1 in
    let due = due_taken _ Table _ _ c.args.self.now.turns c.in-Table.is c.due-due.ensures.due c.in_ok-kind.ensures.opened.limited (omega arith) in
    rw (p.1, p.2) (record { told = stops Table _ _ _ _ _ _ c.in-Table.is due c.in_ok-kind.ensures.opened c.in_err-read_lines-in-Table.ensures.read })
