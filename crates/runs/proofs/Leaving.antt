-- How many marks leave the ring when x is added, and come back when x is dropped: those strictly inside the run of arcs that x sees.
use Rattle.std.proofs.Common.{◌≡◌, ℕ, zero, suc, ◌+◌, ◌<◌, ◌≤◌, Bool, T, ◌≢◌, ◌⊎◌, ◌↔◌, List, [], ◌∷◌, ◌++◌, length, sym, refl, ap, subst, subst₂, inl, inr, append_assoc, zero-add, arith, length-append}
use mathlib.Core.Logic.Iff
use Rattle.std.specs.List.{AllByRecursion}
use Rattle.std.proofs.ByRecursion.{All-weaker, All-from_get_or}
use Rattle.laws.specs.Systems.{Meaning, Lawful}
use Rattle.laws.specs.Outlines.{Marks, adding, Apart, Outline, none as nothing, one as single, more as many, Turned, Grown}
use Rattle.laws.specs.Theorems.{of}
use Rattle.runs.specs.Calls.{On, RingOf, OneMore, Lacking, none, there, gone}
use Rattle.laws.proofs.Walks.{other, all_cut}
use Rattle.laws.proofs.Insertion.{insert}
use Rattle.laws.proofs.Existence.{outline_of, outline_same, outline_turned, to_hull}
use Rattle.laws.proofs.Uniqueness.{turned, outline_apart}
use Rattle.laws.proofs.Fans.{three_or_more}
use Rattle.runs.proofs.SomeAnswer.{on_or}
use Rattle.runs.proofs.Standing.{off_all, outline_in, ring_in, ring_same}
use Rattle.runs.proofs.Decided.{more_marks}

on_left : (k l : List ℕ) (x : ℕ) → On k x → On (k ++ l) x
on_left [] l x (i, lt, e) = absurd (omega arith)
on_left (a ∷ k) l x (zero, lt, e) = (0, omega arith, e)
on_left (a ∷ k) l x (suc i, lt, e) = let (j, lt', e') = on_left k l x (i, omega arith, e) in (suc j, omega arith, e')

on_right : (k l : List ℕ) (x : ℕ) → On l x → On (k ++ l) x
on_right [] l x o = o
on_right (a ∷ k) l x o = let (j, lt, e) = on_right k l x o in (suc j, omega arith, e)

on_cases : (k l : List ℕ) (x : ℕ) → On (k ++ l) x → On k x ⊎ On l x
on_cases [] l x o = inr o
on_cases (a ∷ k) l x (zero, lt, e) = inl (0, omega arith, e)
on_cases (a ∷ k) l x (suc i, lt, e) =
    elim (on_cases k l x (i, omega arith, e)) [ inl (j, lt', e') ↦ inl (suc j, omega arith, e') | inr o ↦ inr o ]

pub on_turned : (k l : List ℕ) (x : ℕ) → Turned k l → On k x → On l x
on_turned k l x (a, b, e, d) o =
    subst (λ y. On y x) (sym d) (elim (on_cases a b x (subst (λ y. On y x) e o)) [ inl i ↦ on_right b a x i | inr i ↦ on_left b a x i ])

pub turned_back : (k l : List ℕ) → Turned k l → Turned l k
turned_back k l (a, b, e, d) = (b, a, d, e)

pub turned_length : (k l : List ℕ) → Turned k l → length l ≡ length k
turned_length k l (a, b, e, d) = omega (arith, ap length e, ap length d, length-append a b, length-append b a)

all_on : (l : List ℕ) → AllByRecursion (On l) l
all_on l = All-from_get_or (On l) l 0 (λ i lt. (i, lt, refl))

lacking_all : (l k : List ℕ) → AllByRecursion (λ c. On l c → ⊥) k → Lacking l k (length k)
lacking_all l [] h = none
lacking_all l (a ∷ k) h = gone h.0 (lacking_all l k h.1)

lacking_none : (l k : List ℕ) → AllByRecursion (On l) k → Lacking l k 0
lacking_none l [] h = none
lacking_none l (a ∷ k) h = there h.0 (lacking_none l k h.1)

-- which marks are on the list is all that counts
lacking_by : {l l' k : List ℕ} {n : ℕ} → ((a : ℕ) → On l a ↔ On l' a) → Lacking l k n → Lacking l' k n
lacking_by f none = none
lacking_by f (there o h) = there ((f _).0 o) (lacking_by f h)
lacking_by f (gone o h) = gone (λ i. o ((f _).1 i)) (lacking_by f h)

lacking_join : {l k k' : List ℕ} {n n' : ℕ} → Lacking l k n → Lacking l k' n' → Lacking l (k ++ k') (n + n')
lacking_join {l} {k} {k'} {n} {n'} none h' = subst (Lacking l k') (omega arith) h'
lacking_join (there o h) h' = there o (lacking_join h h')
lacking_join {l} (gone {a = a} {k = k} {n = n} o h) h' = subst (Lacking l _) (omega arith) (gone o (lacking_join h h'))

lacking_cut : {l : List ℕ} (k k' : List ℕ) {n : ℕ} → Lacking l (k ++ k') n → (a b : ℕ) × Lacking l k a × Lacking l k' b × (n ≡ a + b)
lacking_cut [] k' {n} h = (0, n, none, h, omega arith)
lacking_cut (a ∷ k) k' (there o h) = let (b, c, i, j, e) = lacking_cut k k' h in (b, c, there o i, j, e)
lacking_cut (a ∷ k) k' (gone o h) = let (b, c, i, j, e) = lacking_cut k k' h in (suc b, c, gone o i, j, omega arith)

pub lacking_turned : (l k k' : List ℕ) (n : ℕ) → Turned k k' → Lacking l k n → Lacking l k' n
lacking_turned l k k' n (a, b, e, d) h =
    let (i, j, p, q, s) = lacking_cut a b (subst (λ y. Lacking l y n) e h) in
    subst₂ (Lacking l) (sym d) (omega arith) (lacking_join q p)

apart_from : (k l : List ℕ) → Apart (k ++ l) → AllByRecursion (λ c. On k c → ⊥) l
apart_from [] l h = All-weaker (λ c. On l c) (λ c. On [] c → ⊥) (λ c _ o. let i = o.1 in omega arith) l (all_on l)
apart_from (a ∷ k) l h = both l (all_cut _ k l h.0).1 (apart_from k l h.1)
  where
    both : (l : List ℕ) → AllByRecursion (λ c. c ≢ a) l → AllByRecursion (λ c. On k c → ⊥) l → AllByRecursion (λ c. On (a ∷ k) c → ⊥) l
    both [] i j = tt
    both (c ∷ l) i j = (λ o. elim (on_cases (a ∷ []) k c o) [ inl (zero, _, e) ↦ i.0 (sym e) | inl (suc n, lt, e) ↦ omega arith | inr o' ↦ j.0 o' ], both l i.1 j.1)

-- the new ring: the kept marks, and x
abbrev ring_with : (m : Meaning) (s : ℕ → Type 0) (ring : List ℕ) (x : ℕ) → Grown m s ring x → List ℕ
ring_with m s ring x g = g.first ∷ g.rest ++ g.last ∷ x ∷ []

module _ {m : Meaning} (L : Lawful m) {s : ℕ → Type 0} (marks : Marks m s) {x : ℕ} (x_out : s x → ⊥) where
  pub grown_lacking : {ring : List ℕ} → Outline m s ring → (g : Grown m s ring x) → Lacking (ring_with m s ring x g) ring (length g.gone)
  grown_lacking {ring} o g =
      let kept = g.first ∷ g.rest ++ g.last ∷ [] in
      let new = ring_with m s ring x g in
      let new_is : new ≡ kept ++ x ∷ [] = sym (append_assoc (g.first ∷ g.rest) (g.last ∷ []) (x ∷ [])) in
      let old_is : g.first ∷ g.rest ++ g.last ∷ g.gone ≡ kept ++ g.gone = sym (append_assoc (g.first ∷ g.rest) (g.last ∷ []) g.gone) in
      let o' = subst (Outline m s) old_is (outline_turned L marks ring _ g.turned o) in
      let off = apart_from kept g.gone (outline_apart o') in
      let ins = (all_cut s kept g.gone (outline_in o')).1 in
      subst (λ y. Lacking y ring (length g.gone)) (sym new_is)
      (lacking_turned _ _ ring _ (turned_back ring _ g.turned)
      (subst (λ y. Lacking (kept ++ x ∷ []) y (length g.gone)) (sym old_is)
      (subst (Lacking (kept ++ x ∷ []) (kept ++ g.gone)) (zero-add (length g.gone))
      (lacking_join
      (lacking_none (kept ++ x ∷ []) kept (All-weaker _ _ (λ c i. on_left kept (x ∷ []) c i) kept (all_on kept)))
      (lacking_all (kept ++ x ∷ []) g.gone (off_new kept g.gone off ins))))))
    where
      off_new : (k l : List ℕ) → AllByRecursion (λ c. On k c → ⊥) l → AllByRecursion s l → AllByRecursion (λ c. On (k ++ x ∷ []) c → ⊥) l
      off_new k [] h i = tt
      off_new k (c ∷ l) h i = (
        λ o. elim (on_cases k (x ∷ []) c o) [
          | inl o' ↦ h.0 o'
          | inr (zero, _, e) ↦ x_out (subst s (sym e) i.0)
          | inr (suc n, lt, _) ↦ omega arith
        ],
        off_new k l h.1 i.1,
      )

-- s with x is t
pub by_more : {s t : ℕ → Bool} {x : ℕ} → OneMore s x t → (p : ℕ) → adding (of s) x p ↔ of t p
by_more {t = t} {x = x} h p = (
  λ k. elim (other p x) [
    | inl e ↦ subst (of t) (sym e) h.new
    | inr n ↦ subst T (h.others p n) (elim k [ inl i ↦ i | inr e ↦ absurd (n e) ])
  ],
  λ k. elim (other p x) [ inl e ↦ inr e | inr n ↦ inl (subst T (sym (h.others p n)) k) ],
)

-- what adding x does to the ring, as the answer has it: nothing if x is inside; otherwise x comes on, and the marks `gone` leave.
-- Read from t to s it is what dropping x does
pub one_more : {m : Meaning} → Lawful m → (s t : ℕ → Bool) (x : ℕ) (old new : List ℕ) → Marks m (of s) → x < m.count → OneMore s x t
    → RingOf m s old → RingOf m t new → 2 ≤ length old
    → ((On new x → ⊥) × (new ≡ old) × Lacking new old 0) ⊎ ((g : Grown m (of s) old x) × On new x × Lacking new old (length g.gone) × (length new + length g.gone ≡ length old + 1))
one_more L s t x [] new marks lt h r r' i = absurd (omega arith)
one_more {m} L s t x (a ∷ l) new marks lt h r r' i =
    elim (insert L marks lt h.was (to_hull L r.outline i)) [
      | inl (_, o) ↦
          let e = ring_same L marks_t r' (record { outline = outline_same (by_more h) (λ p q r i j k. Iff.rfl) (outline_of a l o); lowest = r.lowest }) in
          inl (
            λ k. h.was (ring_in L r (subst (λ y. On y x) e k)),
            e,
            subst (λ y. Lacking y (a ∷ l) 0) (sym e) (lacking_none (a ∷ l) (a ∷ l) (all_on (a ∷ l))),
          )
      | inr g ↦
          let k = ring_with m (of s) (a ∷ l) x g in
          let tu = turned L marks_t (outline_same (by_more h) (λ p q r i j k. Iff.rfl) (outline_of _ _ g.hull)) r'.outline in
          inr (
            g,
            on_turned k new x tu (on_right (g.first ∷ g.rest) (g.last ∷ x ∷ []) x (1, omega arith, refl)),
            lacking_by (λ c. (on_turned k new c tu, on_turned new k c (turned_back k new tu))) (grown_lacking L marks h.was r.outline g),
            omega (arith, turned_length k new tu, turned_length (a ∷ l) _ g.turned, length-append g.rest (g.last ∷ x ∷ []), length-append g.rest (g.last ∷ g.gone)),
          )
    ]
  where
    marks_t : Marks m (of t)
    marks_t = more_marks m h lt marks

-- of three marks that are y or z two are the same
no_three : (y z a b c : ℕ) → (a ≡ y) ⊎ (a ≡ z) → (b ≡ y) ⊎ (b ≡ z) → (c ≡ y) ⊎ (c ≡ z) → b ≢ a → c ≢ a → c ≢ b → ⊥
no_three y z a b c (inl p) (inl q) r i j k = omega arith
no_three y z a b c (inr p) (inr q) r i j k = omega arith
no_three y z a b c (inl p) (inr q) (inl r) i j k = omega arith
no_three y z a b c (inl p) (inr q) (inr r) i j k = omega arith
no_three y z a b c (inr p) (inl q) (inl r) i j k = omega arith
no_three y z a b c (inr p) (inl q) (inr r) i j k = omega arith

-- of two marks or fewer each is on the ring
small_on : {m : Meaning} → Lawful m → {s : ℕ → Type 0} {l : List ℕ} (y z p : ℕ) → ((q : ℕ) → s q → (q ≡ y) ⊎ (q ≡ z)) → Outline m s l → s p → On l p
small_on {m} L {s} {l} y z p f o h =
    elim (on_or l p) [
      | inl k ↦ k
      | inr k ↦ absurd (go l (three_or_more L o h (off_all l p k)) (outline_apart o) (outline_in o))
    ]
  where
    go : (l : List ℕ) → 3 ≤ length l → Apart l → AllByRecursion s l → ⊥
    go [] i d k = omega arith
    go (a ∷ []) i d k = omega arith
    go (a ∷ b ∷ []) i d k = omega arith
    go (a ∷ b ∷ c ∷ l) i d k = no_three y z a b c (f a k.0) (f b k.1.0) (f c k.1.1.0) d.0.0 d.0.1.0 d.1.0.0

-- one more mark beside one mark at most: it comes on, and none leaves
pub one_more_of_few : {m : Meaning} → Lawful m → (s t : ℕ → Bool) (x : ℕ) {old new : List ℕ} → OneMore s x t
    → RingOf m s old → RingOf m t new → length old < 2 → On new x × Lacking new old 0
one_more_of_few {m} L s t x {old} {new} h r r' i = go r.outline i
  where
    grown : (P : ℕ → Type 0) → ((q : ℕ) → T (s q) → P q) → P x → (q : ℕ) → T (t q) → P q
    grown P f k q j = elim (other q x) [ inl e ↦ subst P (sym e) k | inr n ↦ f q (subst T (sym (h.others q n)) j) ]

    go : {l : List ℕ} → Outline m (of s) l → length l < 2 → On new x × Lacking new l 0
    go (nothing n) i = (small_on L x x x (grown _ (λ q k. absurd (n q k)) (inl refl)) r'.outline h.new, none)
    go (single {a = a} k u) i =
        let f : (q : ℕ) → T (t q) → (q ≡ a) ⊎ (q ≡ x) = grown _ (λ q k. inl (u q k)) (inr refl) in
        let a≢x : a ≢ x = λ e. h.was (subst (of s) e k) in
        (small_on L a x x f r'.outline h.new, there (small_on L a x a f r'.outline (subst T (h.others a a≢x) k)) none)
    go (many o) i = absurd (omega arith)
