use Rattle.std.proofs.Common.{refl, ap, subst}
use Rattle.std.proofs.lemmas.Result.{err_from_is_err_and}
use Rattle.sheet.specs.Sheets.{Tells, lists}
use Rattle.sheet.specs.declared.Kind.TheVariants.{Points, FlatPoints, Network, Table}
use Rattle.sheet.proofs.Readings.{too_short}
use Rattle.sheet.proofs.read.Goals as goal

pub returns-in_err-values : goal.returns-in_err-values
returns-in_err-values c =
    let p = err_from_is_err_and c.from_residual.result c.from_residual.ensures.1 in
    rw (p.1, p.2) (record { answers = (c.in_err-values.ensures.told _, refl) })

pub returns-in_err-copy_front-in-Points : goal.returns-in_err-copy_front-in-Points
returns-in_err-copy_front-in-Points c =
    let p = err_from_is_err_and c.from_residual-in_err-copy_front-in-Points.result c.from_residual-in_err-copy_front-in-Points.ensures.1 in
    let told = subst (Tells c.args.text.now) c.in-Points.is c.in_ok-values.ensures.told in
    let short = c.in_err-copy_front-in-Points.ensures.copied in
    rw (p.1, p.2) (record { answers = (too_short Points _ _ _ _ _ told short.1 short.0, ap (λ l. lists l c.args.crossings.now c.args.turns.now) short.2) })

pub returns-in_err-copy_front-in-FlatPoints : goal.returns-in_err-copy_front-in-FlatPoints
returns-in_err-copy_front-in-FlatPoints c =
    let p = err_from_is_err_and c.from_residual-in_err-copy_front-in-FlatPoints.result c.from_residual-in_err-copy_front-in-FlatPoints.ensures.1 in
    let told = subst (Tells c.args.text.now) c.in-FlatPoints.is c.in_ok-values.ensures.told in
    let short = c.in_err-copy_front-in-FlatPoints.ensures.copied in
    rw (p.1, p.2) (record { answers = (too_short FlatPoints _ _ _ _ _ told short.1 short.0, ap (λ l. lists l c.args.crossings.now c.args.turns.now) short.2) })

pub returns-in_err-copy_front-in-Network : goal.returns-in_err-copy_front-in-Network
returns-in_err-copy_front-in-Network c =
    let p = err_from_is_err_and c.from_residual-in_err-copy_front-in-Network.result c.from_residual-in_err-copy_front-in-Network.ensures.1 in
    let told = subst (Tells c.args.text.now) c.in-Network.is c.in_ok-values.ensures.told in
    let short = c.in_err-copy_front-in-Network.ensures.copied in
    rw (p.1, p.2) (record { answers = (too_short Network _ c.in-Network.wires _ _ _ told short.1 short.0, ap (λ l. lists c.args.places.now l c.args.turns.now) short.2) })

pub returns-in_err-copy_front-in-Table : goal.returns-in_err-copy_front-in-Table
returns-in_err-copy_front-in-Table c =
    let p = err_from_is_err_and c.from_residual-in_err-copy_front-in-Table.result c.from_residual-in_err-copy_front-in-Table.ensures.1 in
    let told = subst (Tells c.args.text.now) c.in-Table.is c.in_ok-values.ensures.told in
    let short = c.in_err-copy_front-in-Table.ensures.copied in
    rw (p.1, p.2) (record { answers = (too_short Table _ c.in-Table.marks _ _ _ told short.1 short.0, ap (λ l. lists c.args.places.now c.args.crossings.now l) short.2) })
