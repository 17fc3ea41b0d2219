-- Lemmas on the line of a mark: it says one place, and holds no byte 10. They are proved here, where `src/entries.rt` can cite them.
use Rattle.std.specs.Prelude.{◌≡◌, ℕ, List, ◌∷◌, ◌++◌, drop, ℤ}
use Rattle.std.proofs.Common.{sym, ap, ◌∙◌, arith}
use Rattle.std.specs.Fmt.{signed_decimal}
use Rattle.sheet.specs.Fields.{SixSigned, Lacks}
use Rattle.sheet.specs.Shapes.{spelled, mark}
use Rattle.sheet.specs.Sheets.{marks}
use Rattle.models.specs.declared.places.Place.{Place}
use Rattle.sheet.specs.FieldsLemmas.{signed_lacks}
use Rattle.sheet.specs.Cuts.{cut_unique, lacks_append, lacks_cons}

pub same_mark : (bs x y : List ℕ) (u v : ℤ) → Lacks 9 x × (bs ≡ spelled (mark x y)) → SixSigned u → bs ≡ spelled (mark (signed_decimal u) (signed_decimal v)) → (x ≡ signed_decimal u) × (y ≡ signed_decimal v)
same_mark bs x y u v is six e =
    cut_unique 9 x y (signed_decimal u) (signed_decimal v) is.0 (signed_lacks 9 u (omega arith) six) (ap (drop 2) (sym is.1 ∙ e))

pub mark_is : (bs x y : List ℕ) (u v : ℤ) → bs ≡ spelled (mark x y) → x ≡ signed_decimal u → y ≡ signed_decimal v → bs ≡ spelled (mark (signed_decimal u) (signed_decimal v))
mark_is bs x y u v e ex ey = e ∙ (λ j. spelled (mark (ex j) (ey j)))

pub mark_whole : (v : Place) → marks.Written 0 v → Lacks 10 (marks.line 0 v)
mark_whole v w =
    let x = signed_decimal v.x in
    let y = signed_decimal v.y in
    lacks_cons 10 109 (9 ∷ x ++ 9 ∷ y) (omega arith) (lacks_cons 10 9 (x ++ 9 ∷ y) (omega arith)
    (lacks_append 10 x (9 ∷ y) (signed_lacks 10 v.x (omega arith) w.0) (lacks_cons 10 9 y (omega arith) (signed_lacks 10 v.y (omega arith) w.1))))
