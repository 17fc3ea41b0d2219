-- No sheet in range is too long.
use Rattle.std.proofs.Common.{ℕ, suc, ◌+◌, ◌-◌, ◌*◌, ◌<◌, ◌≤◌, List, [], ◌∷◌, ◌++◌, length, ℤ, pos, negsuc, decimal, mul-suc, arith, length-append}
use Rattle.std.specs.Fmt.{signed_decimal}
use Rattle.std.proofs.lemmas.Fmt.{length-decimal-le}
use Rattle.cc.specs.declared.Turn.{Turn}
use Rattle.models.specs.declared.places.Place.{Place}
use Rattle.sheet.specs.Fields.{Six, SixSigned}
use Rattle.sheet.specs.Forms.{Fine, Form, lines}
use Rattle.cc.specs.Texts.{side}
use Rattle.sheet.specs.Sheets.{Sheet, Value, crossings, due, form, heads, marks, turn_line, turns}
use Rattle.sheet.specs.Theorems.{EveryTable, ShortEnough}
use Rattle.sheet.specs.Triples.{triple_at}
use Rattle.sheet.specs.declared.Kind.{Kind}
use Rattle.sheet.specs.declared.Kind.TheVariants.{Points, FlatPoints, Network, Table}
use Rattle.sheet.specs.declared.spots.Triple.{Triple}
use Rattle.sheet.proofs.Heads.{count_six}
use Rattle.sheet.proofs.Rising.{all_triples}
use Rattle.sheet.specs.Turnings.{pairs_few, triples_few}

-- lines of fewer than c bytes and a byte 10 each
lines_short : {V : Type 0} (f : Form V) (c m i : ℕ) (vs : List V) → Fine f i vs → i + length vs ≤ m → ((j : ℕ) (v : V) → j < m → f.Written j v → length (f.line j v) < c) → length (lines f i vs) ≤ c * length vs
lines_short f c m i [] fine h short = omega arith
lines_short f c m i (v ∷ vs) fine h short =
    let first = short i v (omega arith) fine.0 in
    let rest = lines_short f c m (suc i) vs fine.2 (omega arith) short in
    omega (arith, mul-suc c (length vs), length-append (f.line i v) (10 ∷ lines f (suc i) vs))

number_short : (n : ℕ) → Six n → length (decimal n) ≤ 6
number_short n six = length-decimal-le 6 n (omega arith) (omega arith) (omega arith)

coordinate_short : (z : ℤ) → SixSigned z → length (signed_decimal z) ≤ 7
coordinate_short (pos n) six = let h = number_short n six in omega arith
coordinate_short (negsuc n) six = let h = number_short (suc n) six in omega arith

two_digits : (n : ℕ) → n < 100 → length (decimal n) ≤ 2
two_digits n h = length-decimal-le 2 n (omega arith) (omega arith) (omega arith)

turn_short : (t : Triple) (turn : Turn) → t.i < 100 → t.j < 100 → t.k < 100 → length (turn_line t turn) < 13
turn_short t turn i j k =
    let last = side turn ∷ [] in
    let ks = decimal t.k ++ 9 ∷ last in
    let js = decimal t.j ++ 9 ∷ ks in
    omega (arith, two_digits t.i i, two_digits t.j j, two_digits t.k k, length-append (decimal t.i) (9 ∷ js), length-append (decimal t.j) (9 ∷ ks), length-append (decimal t.k) (9 ∷ last))

marks_under : (n at : ℕ) → n ≤ 24 → at < due Table n → ((triple_at n at).i < n) × ((triple_at n at).j < n) × ((triple_at n at).k < n)
marks_under n at few h =
    let b = (all_triples n few).below at h in
    let ij = b.ij in
    let jk = b.jk in
    let kn = b.kn in
    (omega arith, omega arith, omega arith)

marks_short : (ps : List Place) → Fine marks 0 ps → length ps ≤ 128 → length (lines marks 0 ps) ≤ 30000
marks_short ps fine few =
    let some = lines_short marks 18 128 0 ps fine (omega arith) (λ j p h w. omega (arith, coordinate_short p.x w.0, coordinate_short p.y w.1, length-append (signed_decimal p.x) (9 ∷ signed_decimal p.y))) in
    omega arith

body_short : (k : Kind) (n : ℕ) (vs : List (Value k)) → Sheet k n vs → length (lines (form k n) 0 vs) ≤ 30000
body_short Points n ps s = marks_short ps s.fine (omega (arith, s.many, s.limited))
body_short FlatPoints n ps s = marks_short ps s.fine (omega (arith, s.many, s.limited))
body_short Network n vs s =
    let few : due Network n ≤ 496 = pairs_few n (n - 1) s.limited (omega (arith, s.limited)) in
    let some = lines_short (crossings n) 9 (due Network n) 0 vs s.fine (omega (arith, s.many)) (λ j k h w. omega (arith, number_short k w)) in
    omega (arith, s.many)
body_short Table n vs s =
    let few : due Table n ≤ 2024 = triples_few n (n - 1) (n - 2) s.limited (omega (arith, s.limited)) (omega (arith, s.limited)) in
    let some = lines_short (turns n) 13 (due Table n) 0 vs s.fine (omega (arith, s.many)) (λ j v h w. turn_short_at n j v s.limited h) in
    omega (arith, s.many)
  where
    turn_short_at : (n at : ℕ) (turn : Turn) → n ≤ 24 → at < due Table n → length (turn_line (triple_at n at) turn) < 13
    turn_short_at n at turn few h =
        let u = marks_under n at few h in
        let i = u.0 in
        let j = u.1 in
        let k = u.2 in
        turn_short (triple_at n at) turn (omega arith) (omega arith) (omega arith)

pub short_enough : ShortEnough
short_enough k n vs s =
    omega (arith, body_short k n vs s, number_short n (count_six k n s.limited), length-append (heads.line 0 (k, n)) (10 ∷ lines (form k n) 0 vs))

-- the triples of up to 24 marks are written with at most six digits
pub fine_turns : (n i : ℕ) (ts : List Turn) → n ≤ 24 → i + length ts ≤ due Table n → Fine (turns n) i ts
fine_turns n i [] few h = tt
fine_turns n i (t ∷ ts) few h =
    let u = marks_under n i few (omega arith) in
    let a = u.0 in
    let b = u.1 in
    let c = u.2 in
    ((omega arith, omega arith, omega arith), tt, fine_turns n (suc i) ts few (omega arith))

pub every_table : EveryTable
every_table n ts few many = record { limited = few; many = many; fine = fine_turns n 0 ts few (omega arith) }
