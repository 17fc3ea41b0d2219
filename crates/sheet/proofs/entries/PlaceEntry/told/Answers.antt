use Rattle.std.proofs.Common.{◌≡◌, subst, arith}
use Rattle.std.specs.Fmt.{signed_decimal}
use Rattle.sheet.specs.Fields.{Lacks}
use Rattle.sheet.specs.FieldsLemmas.{signed_lacks}
use Rattle.sheet.specs.Marks.{same_mark}
use Rattle.sheet.specs.Shapes.{Parted, mark, shape, spelled}
use Rattle.sheet.proofs.entries.PlaceEntry.told.Goals as goal
use Rattle.sheet.proofs.entries.PlaceEntry.told.Goals.{In-Mark}

pub returns-in_err-x : goal.returns-in_err-x
returns-in_err-x c =
    rw c.from_residual.ensures
    (record { told = λ v w e. c.in_err-x.ensures.formed (mark (signed_decimal v.x) (signed_decimal v.y)) (signed_lacks 9 v.x (omega arith) w.0) e })

fields : (c : In-Mark) → Lacks 9 c.in-Mark.x.now × (c.args.line.now ≡ spelled (mark c.in-Mark.x.now c.in-Mark.y.now))
fields c = subst (λ l. Parted (shape l) × (c.args.line.now ≡ spelled (shape l))) c.in-Mark.is c.in_ok-x.ensures.formed

pub returns-in_err-coordinate : goal.returns-in_err-coordinate
returns-in_err-coordinate c =
    rw c.from_residual-in_err-coordinate.ensures
    (record { told = λ v w e. c.in_err-coordinate.ensures.coordinate v.x w.0 (same_mark _ _ _ v.x v.y (fields (goal.at.returns-in_err-coordinate c).In-Mark) w.0 e).0 })

pub returns-in_err-coordinate-2 : goal.returns-in_err-coordinate-2
returns-in_err-coordinate-2 c =
    rw c.from_residual-in_err-coordinate-2.ensures
    (record { told = λ v w e. c.in_err-coordinate-2.ensures.coordinate v.y w.1 (same_mark _ _ _ v.x v.y (fields (goal.at.returns-in_err-coordinate-2 c).In-Mark) w.0 e).1 })
