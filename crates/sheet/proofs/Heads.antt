-- What a head's line says.
use Rattle.std.proofs.Common.{◌≡◌, ℕ, ◌≤◌, ◌≢◌, List, ◌∷◌, ◌++◌, length, decimal, sym, ap, ◌∙◌, arith}
use Rattle.cc.specs.declared.faults.Fault.{Fault}
use Rattle.cc.specs.declared.faults.Fault.TheVariants.{Torn}
use Rattle.sheet.specs.Fields.{Six, Lacks}
use Rattle.sheet.specs.Forms.{Flawed, formless, beyond}
use Rattle.sheet.specs.Shapes.{letter}
use Rattle.sheet.specs.Sheets.{heads, limit, Unopened, headless, overcount}
use Rattle.sheet.specs.declared.Kind.{Kind}
use Rattle.sheet.specs.declared.Kind.TheVariants.{Points, FlatPoints, Network, Table}
use Rattle.sheet.specs.Cuts.{cut_none, cut_unique, lacks_cons}
use Rattle.sheet.specs.FieldsLemmas.{decimal_lacks}

letter_whole : (k : Kind) → letter k ≢ 10
letter_whole Points e = omega arith
letter_whole FlatPoints e = omega arith
letter_whole Network e = omega arith
letter_whole Table e = omega arith

pub head_whole : (v : Kind × ℕ) → Six v.1 → Lacks 10 (heads.line 0 v)
head_whole v six =
    let count = decimal v.1 in
    lacks_cons 10 (letter v.0) (9 ∷ count) (letter_whole v.0) (lacks_cons 10 9 count (omega arith) (decimal_lacks 10 v.1 (omega arith) six))

-- a count in range has at most six digits
pub count_six : (k : Kind) (n : ℕ) → n ≤ limit k → Six n
count_six Points n h = omega arith
count_six FlatPoints n h = omega arith
count_six Network n h = omega arith
count_six Table n h = omega arith

pub no_head : (text : List ℕ) → length text ≤ 32768 → Lacks 10 text → Unopened text (Torn 1)
no_head text short l = headless short (λ v rest w e. cut_none text (heads.line 0 v) rest l e)

pub bad_head : (text : List ℕ) → length text ≤ 32768 → (bs rest : List ℕ) → Lacks 10 bs × (text ≡ bs ++ 10 ∷ rest) → (fault : Fault) → Flawed heads 0 1 bs fault → Unopened text fault
bad_head text short bs rest is fault (formless none) =
    headless short (λ v rest' w e. none v w (cut_unique 10 bs rest (heads.line 0 v) rest' is.0 (head_whole v w) (sym is.1 ∙ e)).0)
bad_head text short bs rest is fault (beyond v w unfit e) = overcount short v rest w unfit (is.1 ∙ ap (λ l. l ++ 10 ∷ rest) e)
