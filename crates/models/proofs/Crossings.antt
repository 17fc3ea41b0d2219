-- Where the wires of a network stand, when two of them cross, and that every two do.
use Rattle.std.proofs.Common.{◌≡◌, ℕ, zero, suc, ◌<◌, ◌≤◌, Bool, true, false, cond, ◌&&◌, T, eqb, ◌≢◌, List, length, get_or, sym, refl, ap, ◌∙◌, subst, arith, eqb→eq, eq-eqb, ne_eqb}
use native.Mathlib.Decide.{ℕ_discrete, dec_lt}
use Rattle.models.specs.Networks.{across, wire, upper, lower, Cross, InRange, Legal, first, crossing}
use Rattle.laws.proofs.Names.{both as both_true}

-- what a crossing does to a place
pub data Across (k p : ℕ) : ℕ → Type 0 where
  down : p ≡ k → Across k p (suc k)
  up : p ≡ suc k → Across k p k
  still : p ≢ k → p ≢ suc k → Across k p p

pub moved : (k p : ℕ) → Across k p (across k p)
moved k p = go (ℕ_discrete p k) (ℕ_discrete p (suc k))
  where
    go : Dec (p ≡ k) → Dec (p ≡ suc k) → Across k p (across k p)
    go (yes e) d = rw (eq-eqb p k e) (down e)
    go (no h) (yes e) = rw (ne_eqb p k h, eq-eqb p (suc k) e) (up e)
    go (no h) (no i) = rw (ne_eqb p k h, ne_eqb p (suc k) i) (still h i)

-- a crossing made twice changes nothing, and it takes places below n to places below n
both : {k p m n : ℕ} → Across k p m → Across k m n → n ≡ p
both (down x) (down y) = absurd (omega arith)
both (down x) (up y) = sym x
both (down x) (still y y') = absurd (y' refl)
both (up x) (down y) = sym x
both (up x) (up y) = absurd (omega arith)
both (up x) (still y y') = absurd (y refl)
both (still x x') (down y) = absurd (x y)
both (still x x') (up y) = absurd (x' y)
both (still x x') (still y y') = refl

pub twice : (k p : ℕ) → across k (across k p) ≡ p
twice k p = both (moved k p) (moved k (across k p))

pub stays_in : {k p m n : ℕ} → Across k p m → suc k < n → p < n → m < n
stays_in (down x) h i = omega arith
stays_in (up x) h i = omega arith
stays_in (still x x') h i = i

-- two places keep their order, unless they are those of the crossing
keeps_order : {k p q m n : ℕ} → Across k p m → Across k q n → p < q → (p ≡ k → q ≡ suc k → ⊥) → m < n
keeps_order (down x) (down y) h o = absurd (omega arith)
keeps_order (down x) (up y) h o = absurd (o x y)
keeps_order (down x) (still y y') h o = omega arith
keeps_order (up x) (down y) h o = absurd (omega arith)
keeps_order (up x) (up y) h o = absurd (omega arith)
keeps_order (up x) (still y y') h o = omega arith
keeps_order (still x x') (down y) h o = omega arith
keeps_order (still x x') (up y) h o = omega arith
keeps_order (still x x') (still y y') h o = h

pub swaps : (k p q : ℕ) → p ≡ k → q ≡ suc k → across k q < across k p
swaps k p q x y = rw (eq-eqb p k x, ne_eqb q k (omega arith), eq-eqb q (suc k) y) (omega arith)

-- the place of wire i after the first t crossings
abbrev pub place : List ℕ → ℕ → ℕ → ℕ
place cs zero i = i
place cs (suc t) i = across (get_or cs t 0) (place cs t i)

pub wire_place : (cs : List ℕ) (t i : ℕ) → wire cs t (place cs t i) ≡ i
wire_place cs zero i = refl
wire_place cs (suc t) i = ap (wire cs t) (twice (get_or cs t 0) (place cs t i)) ∙ wire_place cs t i

pub place_wire : (cs : List ℕ) (t p : ℕ) → place cs t (wire cs t p) ≡ p
place_wire cs zero p = refl
place_wire cs (suc t) p = ap (across (get_or cs t 0)) (place_wire cs t (across (get_or cs t 0) p)) ∙ twice (get_or cs t 0) p

pub wire_in : (n : ℕ) (cs : List ℕ) (t : ℕ) → ((s : ℕ) → s < t → InRange n cs s) → (p : ℕ) → p < n → wire cs t p < n
wire_in n cs zero range p h = h
wire_in n cs (suc t) range p h =
    wire_in n cs t (λ s k. range s (omega arith)) (across (get_or cs t 0) p) (stays_in (moved (get_or cs t 0) p) (range t (omega arith)) h)

-- the first number that passes a test
pub first_none : (f : ℕ → Bool) (n s : ℕ) → s < first f n → T (f s) → ⊥
first_none f zero s h t = absurd (omega arith)
first_none f (suc n) s h t = go (f 0) refl s (first_none (λ t. f (suc t)) n) h t
  where
    go : (b : Bool) → f 0 ≡ b → (s : ℕ) → ((s : ℕ) → s < first (λ t. f (suc t)) n → T (f (suc s)) → ⊥) →
        s < cond b 0 (suc (first (λ t. f (suc t)) n)) → T (f s) → ⊥
    go true e s rest h t = absurd (omega arith)
    go false e zero rest h t = subst T e t
    go false e (suc s) rest h t = rest s (omega arith) t

pub first_is : (f : ℕ → Bool) (n : ℕ) → first f n < n → T (f (first f n))
first_is f zero h = absurd (omega arith)
first_is f (suc n) h = go (f 0) refl (first_is (λ t. f (suc t)) n) h
  where
    go : (b : Bool) → f 0 ≡ b → (first (λ t. f (suc t)) n < n → T (f (suc (first (λ t. f (suc t)) n)))) →
        cond b 0 (suc (first (λ t. f (suc t)) n)) < suc n → T (f (cond b 0 (suc (first (λ t. f (suc t)) n))))
    go true e rest h = subst T (sym e) tt
    go false e rest h = rest (omega arith)

pub first_at_most : (f : ℕ → Bool) (n : ℕ) → first f n ≤ n
first_at_most f zero = omega arith
first_at_most f (suc n) = go (f 0) (first_at_most (λ t. f (suc t)) n)
  where
    go : (b : Bool) → first (λ t. f (suc t)) n ≤ n → cond b 0 (suc (first (λ t. f (suc t)) n)) ≤ suc n
    go true rest = omega arith
    go false rest = omega arith

module _ (cs : List ℕ) where
  -- wires i and j are at the two places of the crossing at t
  pub met : (i j t : ℕ) → upper cs t ≡ i → lower cs t ≡ j → (place cs t i ≡ get_or cs t 0) × (place cs t j ≡ suc (get_or cs t 0))
  met i j t x y =
      (ap (place cs t) (sym x) ∙ place_wire cs t (get_or cs t 0), ap (place cs t) (sym y) ∙ place_wire cs t (suc (get_or cs t 0)))

  pub meet : (i j t : ℕ) → place cs t i ≡ get_or cs t 0 → place cs t j ≡ suc (get_or cs t 0) → (upper cs t ≡ i) × (lower cs t ≡ j)
  meet i j t x y = (ap (wire cs t) (sym x) ∙ wire_place cs t i, ap (wire cs t) (sym y) ∙ wire_place cs t j)

  -- the crossing of two wires, if they cross
  pub crossing_is : (i j : ℕ) → crossing cs i j < length cs → Cross cs i j (crossing cs i j)
  crossing_is i j h =
      let t = crossing cs i j in
      let passes = first_is (λ t. eqb (upper cs t) i && eqb (lower cs t) j) (length cs) h in
      record {
        within = h;
        above = eqb→eq (upper cs t) i (both_true (eqb (upper cs t) i) (eqb (lower cs t) j) passes).0;
        below = eqb→eq (lower cs t) j (both_true (eqb (upper cs t) i) (eqb (lower cs t) j) passes).1;
      }

  not_before : (i j t : ℕ) → t < crossing cs i j → upper cs t ≡ i → lower cs t ≡ j → ⊥
  not_before i j t h x y =
      first_none (λ t. eqb (upper cs t) i && eqb (lower cs t) j) (length cs) t h
      (rw (eq-eqb (upper cs t) i x, eq-eqb (lower cs t) j y) tt)

  pub crossing_at_most : (i j : ℕ) → crossing cs i j ≤ length cs
  crossing_at_most i j = first_at_most (λ t. eqb (upper cs t) i && eqb (lower cs t) j) (length cs)

  -- up to their crossing the wire with the smaller number is above
  pub above_until : (i j : ℕ) → i < j → (t : ℕ) → t ≤ crossing cs i j → place cs t i < place cs t j
  above_until i j h zero k = h
  above_until i j h (suc t) k =
      keeps_order (moved (get_or cs t 0) (place cs t i)) (moved (get_or cs t 0) (place cs t j)) (above_until i j h t (omega arith))
      (λ x y. let m = meet i j t x y in not_before i j t k m.0 m.1)

module _ (cs : List ℕ) (legal : (t : ℕ) → t < length cs → Legal cs t) where
  -- once below, it stays below
  stays_below : (i j : ℕ) → i < j → (t : ℕ) → t < length cs → place cs t j < place cs t i → place cs (suc t) j < place cs (suc t) i
  stays_below i j h t k below =
      keeps_order (moved (get_or cs t 0) (place cs t j)) (moved (get_or cs t 0) (place cs t i)) below
      (λ x y. let m = meet cs j i t x y in omega (arith, legal t k, m.0, m.1))

  -- after their crossing it is below
  pub below_after : (i j : ℕ) → i < j → (t : ℕ) → crossing cs i j < t → t ≤ length cs → place cs t j < place cs t i
  below_after i j h zero k l = absurd (omega arith)
  below_after i j h (suc t) k l =
      elim (ℕ_discrete (crossing cs i j) t) [
        | yes e ↦
            let c = crossing_is cs i j (omega arith) in
            let m = met cs i j (crossing cs i j) c.above c.below in
            subst (λ s. place cs (suc s) j < place cs (suc s) i) e
            (swaps (get_or cs (crossing cs i j) 0) (place cs (crossing cs i j) i) (place cs (crossing cs i j) j) m.0 m.1)
        | no e ↦ stays_below i j h t (omega arith) (below_after i j h t (omega arith) (omega arith))
      ]

  -- so they cross at no other entry
  pub crosses_at : (i j t : ℕ) → i < j → Cross cs i j t → t ≡ crossing cs i j
  crosses_at i j t h c =
      let m = met cs i j t c.above c.below in
      elim (dec_lt t (crossing cs i j)) [
        | yes k ↦ absurd (not_before cs i j t k c.above c.below)
        | no k ↦ elim (dec_lt (crossing cs i j) t) [
          | yes l ↦ absurd (omega (arith, below_after i j h t l (omega (arith, c.within)), m.0, m.1))
          | no l ↦ omega arith
        ]
      ]

  -- of three wires, the first and the last cross between the crossings of the others
  pub between_low : (i j k : ℕ) → i < j → j < k → crossing cs i k < crossing cs i j → crossing cs i k < crossing cs j k → ⊥
  between_low i j k x y a b =
      let t = suc (crossing cs i k) in
      omega (
        arith,
        above_until cs i j x t a,
        above_until cs j k y t b,
        below_after i k (omega arith) t (omega arith) (omega (arith, crossing_at_most cs i j)),
      )

  pub between_high : (i j k : ℕ) → i < j → j < k → crossing cs i j < crossing cs i k → crossing cs j k < crossing cs i k → ⊥
  between_high i j k x y a b =
      let t = crossing cs i k in
      omega (
        arith,
        below_after i j x t a (crossing_at_most cs i k),
        below_after j k y t b (crossing_at_most cs i k),
        above_until cs i k (omega arith) t (omega arith),
      )
