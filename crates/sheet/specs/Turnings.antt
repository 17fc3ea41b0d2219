-- Lemmas on the lines of crossings, and on those of turns and their triples. They are proved here, where `src/entries.rt` can cite them.
use Rattle.std.specs.Prelude.{◌≡◌, ℕ, zero, suc, ◌+◌, ◌*◌, ◌/◌, ◌<◌, ◌≤◌, Bool, true, false, cond, ◌≢◌, List, [], ◌∷◌, ◌++◌, drop, decimal, MatchBool, ◌==◌, nat_eq, nat_lt, Option, Some, None, refl}
use Rattle.std.specs.Bool.{then_some}
use Rattle.std.specs.Option.{option_eq}
use Rattle.std.proofs.Common.{sym, ap, subst, ◌∙◌, mul-le-mul, arith, eqb-true}
use Rattle.std.proofs.lemmas.Bool.{eqb-false}
use Rattle.std.proofs.lemmas.Fmt.{decimal_injective}
use Rattle.sheet.specs.Fields.{Six, Lacks, Says}
use Rattle.cc.specs.Texts.{side}
use Rattle.sheet.specs.Shapes.{Parted, spelled, turning}
use Rattle.sheet.specs.Sheets.{crossings, sixes, turn_line}
use Rattle.sheet.specs.Triples.{after, triple_at}
use Rattle.sheet.specs.declared.spots.Triple.{Triple}
use Rattle.cc.specs.declared.Turn.{Turn}
use Rattle.cc.specs.declared.Turn.TheVariants.{Left, Right}
use Rattle.sheet.specs.FieldsLemmas.{decimal_lacks}
use Rattle.sheet.specs.Cuts.{cut_unique, lacks_append, lacks_cons}

pub crossing_whole : (k : ℕ) → Six k → Lacks 10 ((crossings 0).line 0 k)
crossing_whole k six =
    lacks_cons 10 99 (9 ∷ decimal k) (omega arith) (lacks_cons 10 9 (decimal k) (omega arith) (decimal_lacks 10 k (omega arith) six))

side_whole : (t : Turn) → side t ≢ 10
side_whole Left e = omega arith
side_whole Right e = omega arith

-- a number, a tab and more bytes hold no byte 10, where those bytes hold none
field_whole : (n : ℕ) (more : List ℕ) → Six n → Lacks 10 more → Lacks 10 (decimal n ++ 9 ∷ more)
field_whole n more six l =
    lacks_append 10 (decimal n) (9 ∷ more) (decimal_lacks 10 n (omega arith) six) (lacks_cons 10 9 more (omega arith) l)

pub turn_whole : (t : Triple) (turn : Turn) → sixes t → Lacks 10 (turn_line t turn)
turn_whole t turn six =
    let last = side turn ∷ [] in
    let k = decimal t.k ++ 9 ∷ last in
    let j = decimal t.j ++ 9 ∷ k in
    let i = decimal t.i ++ 9 ∷ j in
    lacks_cons 10 116 (9 ∷ i) (omega arith) (lacks_cons 10 9 i (omega arith)
    (field_whole t.i j six.0 (field_whole t.j k six.1 (field_whole t.k last six.2 (lacks_cons 10 (side turn) [] (side_whole turn) (λ n h. absurd (omega arith)))))))

-- the marks of a triple rise, and none is above m; each next line may raise m by one
pub record Rises (t : Triple) (m : ℕ) : Type 0 where
  pub ij : t.i < t.j
  pub jk : t.j < t.k
  pub under : t.k ≤ m

rises_after : (n : ℕ) (t : Triple) (m : ℕ) → Rises t m → Rises (after n t) (m + 1)
rises_after n t m r = go (nat_lt (t.k + 1) n) (nat_lt (t.j + 2) n)
  where
    go : (a b : Bool) → Rises (cond a (record { i = t.i; j = t.j; k = t.k + 1 }) (cond b (record { i = t.i; j = t.j + 1; k = t.j + 2 }) (record { i = t.i + 1; j = t.i + 2; k = t.i + 3 }))) (m + 1)
    go true b = record { ij = r.ij; jk = omega arith; under = omega arith }
    go false true = record { ij = omega arith; jk = omega arith; under = omega arith }
    go false false = record { ij = omega arith; jk = omega arith; under = omega arith }

pub triple_rises : (n at : ℕ) → Rises (triple_at n at) (at + 2)
triple_rises n zero = record { ij = omega arith; jk = omega arith; under = omega arith }
triple_rises n (suc at) = subst (Rises (triple_at n (suc at))) (omega arith) (rises_after n (triple_at n at) (at + 2) (triple_rises n at))

-- a field that says m is the number n, or is not
pub says_by : (bs : List ℕ) (m n : ℕ) → Six m × (bs ≡ decimal m) → MatchBool (m == n) (Six n × (bs ≡ decimal n)) (Six n → bs ≢ decimal n)
says_by bs m n told = go (m == n) refl
  where
    go : (b : Bool) → (m == n) ≡ b → MatchBool b (Six n × (bs ≡ decimal n)) (Six n → bs ≢ decimal n)
    go true e = subst (λ k. Six k × (bs ≡ decimal k)) (eqb-true m n e) told
    go false e = λ six is. eqb-false m n e (decimal_injective m n (omega (arith, told.0)) (omega arith) (sym told.1 ∙ is))

-- a field says the number n, or does not
pub says_number : (bs : List ℕ) (r : Option ℕ) (n : ℕ) → Says Six decimal bs r → MatchBool (option_eq nat_eq r (Some n)) (Six n × (bs ≡ decimal n)) (Six n → bs ≢ decimal n)
says_number bs None n none = none n
says_number bs (Some m) n told = says_by bs m n told

-- the fields that a triple and a turn write hold no tab
pub turn_parted : (t : Triple) (turn : Turn) → sixes t → Parted (turning (decimal t.i) (decimal t.j) (decimal t.k) turn)
turn_parted t turn six =
    (decimal_lacks 9 t.i (omega arith) six.0, decimal_lacks 9 t.j (omega arith) six.1, decimal_lacks 9 t.k (omega arith) six.2)

pub same_turn : (bs i j k : List ℕ) (u : Turn) (t : Triple) (v : Turn) → Parted (turning i j k u) × (bs ≡ spelled (turning i j k u)) → sixes t → bs ≡ turn_line t v → (i ≡ decimal t.i) × (j ≡ decimal t.j) × (k ≡ decimal t.k)
same_turn bs i j k u t v is six e =
    let p = turn_parted t v six in
    let at_i = cut_unique 9 i _ (decimal t.i) _ is.0.0 p.0 (ap (drop 2) (sym is.1 ∙ e)) in
    let at_j = cut_unique 9 j _ (decimal t.j) _ is.0.1 p.1 at_i.1 in
    let at_k = cut_unique 9 k _ (decimal t.k) _ is.0.2 p.2 at_j.1 in
    (at_i.0, at_j.0, at_k.0)

-- the turn of a line whose fields are those of the triple, or are not
pub told_turn : (bs i j k : List ℕ) (u : Turn) (t : Triple) (b : Bool) → Parted (turning i j k u) × (bs ≡ spelled (turning i j k u)) → MatchBool b (sixes t × (i ≡ decimal t.i) × (j ≡ decimal t.j) × (k ≡ decimal t.k)) (sixes t → i ≡ decimal t.i → j ≡ decimal t.j → k ≡ decimal t.k → ⊥) → Says (λ _. sixes t) (turn_line t) bs (then_some b u)
told_turn bs i j k u t true is h = (h.0, is.1 ∙ (λ z. spelled (turning (h.1 z) (h.2 z) (h.3 z) u)))
told_turn bs i j k u t false is none = λ v six e. let same = same_turn bs i j k u t v is six e in none six same.0 same.1 same.2

pub pairs_few : (n m : ℕ) → n ≤ 32 → m ≤ 31 → n * m / 2 ≤ 496
pairs_few n m h k = let p : n * m ≤ 32 * 31 = mul-le-mul h k in omega arith

pub triples_few : (n m l : ℕ) → n ≤ 24 → m ≤ 23 → l ≤ 22 → n * m * l / 6 ≤ 2024
triples_few n m l h k g = let p : n * m * l ≤ 24 * 23 * 22 = mul-le-mul (mul-le-mul h k) g in omega arith
