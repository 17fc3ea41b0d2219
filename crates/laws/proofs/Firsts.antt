-- At most one number, one pair and one triple is the first in rising order for which a property holds.
use Rattle.std.proofs.Common.{◌≡◌, ℕ, ◌<◌, arith}
use Rattle.laws.specs.First.{First, FirstPair, FirstTriple}

same : {i j : ℕ} → (i < j → ⊥) → (j < i → ⊥) → i ≡ j
same h k = omega arith

pub one_first : {n : ℕ} {P : ℕ → Type 0} {i j : ℕ} → First n P i → First n P j → i ≡ j
one_first {i = i} {j = j} h k = same (λ l. k.before i l h.holds) (λ l. h.before j l k.holds)

module _ {n : ℕ} {P : ℕ → ℕ → Type 0} where
  first_before : {i j i' j' : ℕ} → FirstPair n P i j → FirstPair n P i' j' → i < i' → ⊥
  first_before {i} {j} h k l = k.first i l j h.within h.rising h.holds

  seconds : {i j j' : ℕ} → FirstPair n P i j → FirstPair n P i j' → j ≡ j'
  seconds {j = j} {j' = j'} h k = same (λ l. k.second j l h.rising h.holds) (λ l. h.second j' l k.rising k.holds)

module _ {n : ℕ} {P : ℕ → ℕ → ℕ → Type 0} where
  firsts_before : {i j k i' j' k' : ℕ} → FirstTriple n P i j k → FirstTriple n P i' j' k' → i < i' → ⊥
  firsts_before {i} {j} {k} h g l = g.first i l j (omega (arith, h.rising_again, h.within)) h.rising k h.within h.rising_again h.holds

  seconds_before : {i j k j' k' : ℕ} → FirstTriple n P i j k → FirstTriple n P i j' k' → j < j' → ⊥
  seconds_before {j = j} {k = k} h g l = g.second j l h.rising k h.within h.rising_again h.holds

  thirds : {i j k k' : ℕ} → FirstTriple n P i j k → FirstTriple n P i j k' → k ≡ k'
  thirds {k = k} {k' = k'} h g = same (λ l. g.third k l h.rising_again h.holds) (λ l. h.third k' l g.rising_again g.holds)
