use Rattle.std.proofs.Common.{subst}
use Rattle.std.proofs.lemmas.Result.{err_from_is_err_and}
use Rattle.sheet.specs.Sheets.{Tells}
use Rattle.sheet.specs.declared.Kind.TheVariants.{Points, FlatPoints, Network, Table}
use Rattle.opening.specs.Opening.{Judged, unread, unopened}
use Rattle.opening.proofs.open.Goals as goal

pub returns-in_err-places : goal.returns-in_err-places
returns-in_err-places c =
    let p = err_from_is_err_and c.from_residual.result c.from_residual.ensures.1 in
    rw (p.1, p.2) (record { opened = unread c.in_err-places.ensures.told })

pub returns-in_err-checked-in-Points : goal.returns-in_err-checked-in-Points
returns-in_err-checked-in-Points c =
    let p = err_from_is_err_and c.from_residual-in_err-checked-in-Points.result c.from_residual-in_err-checked-in-Points.ensures.1 in
    rw (p.1, p.2)
    (record { opened = unopened {k = Points} (subst (Tells c.args.text.now) c.in-Points.is c.in_ok-places.ensures.told) (subst (Judged Points 0 c.in-Points.places.now) c.in_err-checked-in-Points.ensures.told c.open.ensures.judged) })

pub returns-in_err-checked-in-FlatPoints : goal.returns-in_err-checked-in-FlatPoints
returns-in_err-checked-in-FlatPoints c =
    let p = err_from_is_err_and c.from_residual-in_err-checked-in-FlatPoints.result c.from_residual-in_err-checked-in-FlatPoints.ensures.1 in
    rw (p.1, p.2)
    (record { opened = unopened {k = FlatPoints} (subst (Tells c.args.text.now) c.in-FlatPoints.is c.in_ok-places.ensures.told) (subst (Judged FlatPoints 0 c.in-FlatPoints.places.now) c.in_err-checked-in-FlatPoints.ensures.told c.open-in-FlatPoints.ensures.judged) })

pub returns-in_err-network-in-Network : goal.returns-in_err-network-in-Network
returns-in_err-network-in-Network c =
    let p = err_from_is_err_and c.from_residual-in_err-network-in-Network.result c.from_residual-in_err-network-in-Network.ensures.1 in
    rw (p.1, p.2)
    (record { opened = unopened {k = Network} (subst (Tells c.args.text.now) c.in-Network.is c.in_ok-places.ensures.told) (subst (Judged Network c.in-Network.wires c.in-Network.crossings.now) c.in_err-network-in-Network.ensures.told c.open-in-Network.ensures.judged) })

pub returns-in_err-table-in-Table : goal.returns-in_err-table-in-Table
returns-in_err-table-in-Table c =
    let p = err_from_is_err_and c.from_residual-in_err-table-in-Table.result c.from_residual-in_err-table-in-Table.ensures.1 in
    rw (p.1, p.2)
    (record { opened = unopened {k = Table} (subst (Tells c.args.text.now) c.in-Table.is c.in_ok-places.ensures.told) (subst (Judged Table c.in-Table.marks c.in-Table.turns.now) c.in_err-table-in-Table.ensures.told c.open-in-Table.ensures.judged) })
