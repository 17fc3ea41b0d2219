use Rattle.std.proofs.Common.{◌≡◌, decimal, subst}
use Rattle.std.specs.Bool.{then_some}
use Rattle.sheet.specs.Fields.{Says}
use Rattle.sheet.specs.Shapes.{Parted, shape, spelled, turning}
use Rattle.sheet.specs.Sheets.{sixes, turn_line}
use Rattle.sheet.specs.Triples.{triple_at}
use Rattle.sheet.specs.Turnings.{told_turn, turn_parted}
use Rattle.sheet.proofs.entries.TurnEntry.told.Goals as goal

pub returns-in_err-i : goal.returns-in_err-i
returns-in_err-i c =
    let t = triple_at c.args.spot.count c.args.spot.at in
    rw c.from_residual.ensures
    (record { told = λ v w e. c.in_err-i.ensures.formed (turning (decimal t.i) (decimal t.j) (decimal t.k) v) (turn_parted t v w) e })

pub returns : goal.returns
returns c =
    let is = subst (λ l. Parted (shape l) × (c.args.line.now ≡ spelled (shape l))) c.in-Turning.is c.in_ok-i.ensures.formed in
    rw c.then_some.ensures
    (record { told = subst (λ t. Says (λ _. sixes t) (turn_line t) c.args.line.now (then_some c.is_triple.result c.in-Turning.turn)) c.args.spot.here (told_turn _ _ _ _ _ c.args.spot.triple c.is_triple.result is c.is_triple.ensures.same) })
