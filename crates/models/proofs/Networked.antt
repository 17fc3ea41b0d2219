-- In a network every two wires cross once, and the order of the crossings keeps the laws.
use Rattle.std.proofs.Common.{◌≡◌, ℕ, zero, suc, ◌<◌, ◌≤◌, Bool, true, false, T, ltb, ◌≢◌, List, [], ◌∷◌, length, get_or, sym, refl, ap, subst, arith, ltb→lt, le-ltb, lt-ltb}
use native.Mathlib.Decide.{dec_lt}
use Rattle.std.specs.List.{AllByRecursion}
use Rattle.laws.specs.Outlines.{Apart}
use Rattle.laws.specs.Systems.{Lawful}
use Rattle.laws.proofs.Counts.{few}
use Rattle.models.specs.Threes.{pairs, pairs_of, place2}
use Rattle.models.specs.Networks.{upper, lower, Cross, InRange, Legal, crossing, crossing_turns, network, CrossesOnce, TurnsByCrossings, NetworksLawful}
use Rattle.models.proofs.Spread.{pqr}
use Rattle.models.proofs.Carry.{left_of}
use Rattle.models.proofs.Lists.{place2_below}
use Rattle.models.proofs.Numbers.{pairs_is}
use Rattle.models.proofs.Steady.{steady, Steady, steady_lawful}
use Rattle.models.proofs.Crossings.{wire_in, crossing_is, crosses_at, between_low, between_high}

-- the entries of two rising pairs are different
pairs_apart : (n i j i' j' : ℕ) → i < j → j < n → i' < j' → j' < n → place2 n i j ≡ place2 n i' j' → (i ≡ i') × (j ≡ j')
pairs_apart zero i j i' j' a b c d e = absurd (omega arith)
pairs_apart (suc n) i zero i' j' a b c d e = absurd (omega arith)
pairs_apart (suc n) i (suc j) i' zero a b c d e = absurd (omega arith)
pairs_apart (suc n) zero (suc j) zero (suc j') a b c d e = (refl, ap suc e)
pairs_apart (suc n) zero (suc j) (suc i') (suc j') a b c d e = absurd (omega arith)
pairs_apart (suc n) (suc i) (suc j) zero (suc j') a b c d e = absurd (omega arith)
pairs_apart (suc n) (suc i) (suc j) (suc i') (suc j') a b c d e =
    let r = pairs_apart n i j i' j' (omega arith) (omega arith) (omega arith) (omega arith) (omega arith) in (ap suc r.0, ap suc r.1)

module _ (n : ℕ) (cs : List ℕ) (range : (t : ℕ) → t < length cs → InRange n cs t) (legal : (t : ℕ) → t < length cs → Legal cs t) where
  lower_in : (t : ℕ) → t < length cs → lower cs t < n
  lower_in t h = wire_in n cs t (λ s k. range s (omega arith)) (suc (get_or cs t 0)) (range t h)

  -- the pairs that the first t crossings swap, as entries of the list of all pairs
  abbrev crossed : ℕ → List ℕ
  crossed zero = []
  crossed (suc t) = place2 n (upper cs t) (lower cs t) ∷ crossed t

  crossed_long : (t : ℕ) → length (crossed t) ≡ t
  crossed_long zero = refl
  crossed_long (suc t) = ap suc (crossed_long t)

  crossed_below : (t : ℕ) → t ≤ length cs → AllByRecursion (λ c. c < pairs n) (crossed t)
  crossed_below zero h = tt
  crossed_below (suc t) h =
      (place2_below n (upper cs t) (lower cs t) (legal t h) (lower_in t h), crossed_below t (omega arith))

  -- a pair that none of them swaps is not among these
  not_crossed : (i j : ℕ) → i < j → j < n → (t : ℕ) → t ≤ length cs → ((s : ℕ) → s < t → Cross cs i j s → ⊥) →
      AllByRecursion (λ c. c ≢ place2 n i j) (crossed t)
  not_crossed i j x y zero h none = tt
  not_crossed i j x y (suc t) h none = (
    λ e.
        let same = pairs_apart n (upper cs t) (lower cs t) i j (legal t h) (lower_in t h) x y e in
        none t (omega arith) (record { within = h; above = same.0; below = same.1 }),
    not_crossed i j x y t (omega arith) (λ s k. none s (omega arith)),
  )

  crossed_apart : (t : ℕ) → t ≤ length cs → Apart (crossed t)
  crossed_apart zero h = tt
  crossed_apart (suc t) h = (
    not_crossed (upper cs t) (lower cs t) (legal t h) (lower_in t h) t (omega arith)
        (λ s k c.
        let a = crosses_at cs legal (upper cs t) (lower cs t) s (legal t h) c in
        let b = crosses_at cs legal (upper cs t) (lower cs t) t (legal t h) (record { within = h; above = refl; below = refl }) in
        omega arith),
    crossed_apart t (omega arith),
  )

  -- as many crossings as pairs swap every pair
  pub all_cross : length cs ≡ pairs_of n → (i j : ℕ) → i < j → j < n → crossing cs i j < length cs
  all_cross long i j x y =
      elim (dec_lt (crossing cs i j) (length cs)) [
        | yes h ↦ h
        | no h ↦
            let l = length cs in
            let many = few (pairs n) (place2 n i j ∷ crossed l) (
              not_crossed i j x y l (omega arith)
                  (λ s k c. let e = crosses_at cs legal i j s x c in omega arith),
              crossed_apart l (omega arith),
            )
            (place2_below n i j x y, crossed_below l (omega arith)) in
            absurd (omega (arith, crossed_long l, pairs_is n))
      ]

pub crosses_once : CrossesOnce
crosses_once n cs net i j x y = (
  crossing cs i j,
  crossing_is cs i j (all_cross n cs net.range net.legal net.long i j x y),
  λ s c. crosses_at cs net.legal i j s x c,
  λ s c. omega (arith, net.legal s c.within, c.above, c.below),
)

not_below : (a b : ℕ) → (a < b → ⊥) → b ≤ a
not_below a b h = elim (dec_lt a b) [ yes k ↦ absurd (h k) | no k ↦ omega arith ]

-- what the turn of three wires tells of the crossings of the first two, of the last two, and of the first and the last
data Tells (x y z : ℕ) : Bool → Type 0 where
  left : x < y → x ≤ z → z ≤ y → Tells x y z true
  right : y ≤ x → y ≤ z → z ≤ x → Tells x y z false

-- three crossings of each of the four threes of four wires
steady_from : {ij ik il jk jl kl : ℕ} {a b c d : Bool} →
    Tells ij jk ik a → Tells ij jl il b → Tells ik kl il c → Tells jk kl jl d → T (steady a b c d)
steady_from (left a a' a'') (left b b' b'') (left c c' c'') (left d d' d'') = tt
steady_from (left a a' a'') (left b b' b'') (left c c' c'') (right d d' d'') = tt
steady_from (left a a' a'') (left b b' b'') (right c c' c'') (left d d' d'') = absurd (omega arith)
steady_from (left a a' a'') (left b b' b'') (right c c' c'') (right d d' d'') = tt
steady_from (left a a' a'') (right b b' b'') (left c c' c'') (left d d' d'') = absurd (omega arith)
steady_from (left a a' a'') (right b b' b'') (left c c' c'') (right d d' d'') = absurd (omega arith)
steady_from (left a a' a'') (right b b' b'') (right c c' c'') (left d d' d'') = absurd (omega arith)
steady_from (left a a' a'') (right b b' b'') (right c c' c'') (right d d' d'') = tt
steady_from (right a a' a'') (left b b' b'') (left c c' c'') (left d d' d'') = tt
steady_from (right a a' a'') (left b b' b'') (left c c' c'') (right d d' d'') = absurd (omega arith)
steady_from (right a a' a'') (left b b' b'') (right c c' c'') (left d d' d'') = absurd (omega arith)
steady_from (right a a' a'') (left b b' b'') (right c c' c'') (right d d' d'') = absurd (omega arith)
steady_from (right a a' a'') (right b b' b'') (left c c' c'') (left d d' d'') = tt
steady_from (right a a' a'') (right b b' b'') (left c c' c'') (right d d' d'') = absurd (omega arith)
steady_from (right a a' a'') (right b b' b'') (right c c' c'') (left d d' d'') = tt
steady_from (right a a' a'') (right b b' b'') (right c c' c'') (right d d' d'') = tt

module _ (cs : List ℕ) (legal : (t : ℕ) → t < length cs → Legal cs t) where
  tells : (i j k : ℕ) → i < j → j < k → Tells (crossing cs i j) (crossing cs j k) (crossing cs i k) (crossing_turns cs i j k)
  tells i j k x y = go (crossing cs i j) (crossing cs j k) (crossing cs i k) (between_low cs legal i j k x y) (between_high cs legal i j k x y)
    where
      go : (a b c : ℕ) → (c < a → c < b → ⊥) → (a < c → b < c → ⊥) → Tells a b c (ltb a b)
      go a b c low high =
          elim (dec_lt a b) [
            | yes h ↦ rw (lt-ltb a b h) (left h (not_below c a (λ u. low u (omega arith))) (not_below b c (λ u. high (omega arith) u)))
            | no h ↦ rw (le-ltb a b (omega arith)) (right (omega arith) (not_below c b (λ u. low (omega arith) u)) (not_below a c (λ u. high u (omega arith))))
          ]

  pub network_steady : (n : ℕ) → Steady n (crossing_turns cs)
  network_steady n i j k l x y z w =
      steady_from (tells i j k x y) (tells i j l x (omega arith)) (tells i k l (omega arith) z) (tells j k l y z)

pub network_lawful : (n : ℕ) (cs : List ℕ) → n ≤ 128 → ((t : ℕ) → t < length cs → Legal cs t) → Lawful (network n cs)
network_lawful n cs limit legal = steady_lawful n (crossing_turns cs) limit (network_steady cs legal n)

pub networks_lawful : NetworksLawful
networks_lawful n cs limit net = network_lawful n cs limit net.legal

pub turns_by_crossings : TurnsByCrossings
turns_by_crossings n cs net i j k x y z =
    let ij = all_cross n cs net.range net.legal net.long i j x (omega arith) in
    let jk = all_cross n cs net.range net.legal net.long j k y z in (
      λ l. (
        crossing cs i j,
        crossing cs j k,
        crossing_is cs i j ij,
        crossing_is cs j k jk,
        ltb→lt (crossing cs i j) (crossing cs j k) (subst T (pqr (crossing_turns cs) x y) l.turns),
      ),
      λ h.
          let a = crosses_at cs net.legal i j h.0 x h.2 in
          let b = crosses_at cs net.legal j k h.1 y h.3 in
          let c : crossing cs i j < crossing cs j k = omega (arith, h.4) in
          left_of (crossing_turns cs) (omega arith) (omega arith) z
          (subst T (sym (pqr (crossing_turns cs) x y)) (rw (lt-ltb (crossing cs i j) (crossing cs j k) c) tt)),
    )

pub network_lawful_few : (n : ℕ) (cs : List ℕ) → n ≤ 32 → ((t : ℕ) → t < length cs → Legal cs t) → Lawful (network n cs)
network_lawful_few n cs few legal = network_lawful n cs (omega arith) legal
