-- The place of a three, by the numbers of pairs and threes.
use Rattle.std.proofs.Common.{◌≡◌, ℕ, zero, suc, ◌+◌, ◌-◌, ◌<◌, ◌≤◌, [], ◌∷◌, ap, subst, inl, inr, sub-one, arith}
use native.Mathlib.Nat.{suc-sub-suc, sub-zero}
use Rattle.models.specs.Threes.{pairs, threes, pairs_of, threes_of, place2, place3}
use Rattle.models.specs.Rising.{Before}
use Rattle.models.proofs.Lists.{place2_below, place3_below}
use Rattle.models.proofs.Numbers.{pairs_is, threes_is}

pub place2_is : (n j k : ℕ) → j < k → k < n → place2 n j k + pairs (n - j) ≡ pairs n + (k - j - 1)
place2_is zero j k x y = absurd (omega arith)
place2_is (suc n) j zero x y = absurd (omega arith)
place2_is (suc n) zero (suc k) x y = rw sub-zero (omega arith)
place2_is (suc n) (suc j) (suc k) x y =
    rw (suc-sub-suc n j, suc-sub-suc k j) (omega (arith, place2_is n j k (omega arith) (omega arith)))

pub place3_is : (n i j k : ℕ) → i < j → j < k → k < n →
    place3 n i j k + threes (n - i) + pairs (n - j) ≡ threes n + pairs (n - i - 1) + (k - j - 1)
place3_is zero i j k x y z = absurd (omega arith)
place3_is (suc n) i zero k x y z = absurd (omega arith)
place3_is (suc n) i (suc j) zero x y z = absurd (omega arith)
place3_is (suc n) zero (suc j) (suc k) x y z =
    rw (sub-zero, suc-sub-suc n j, suc-sub-suc k j) (omega (arith, place2_is n j k (omega arith) (omega arith), ap pairs (sub-one (suc n))))
place3_is (suc n) (suc i) (suc j) (suc k) x y z =
    rw (suc-sub-suc n i, suc-sub-suc n j, suc-sub-suc k j) (omega (arith, place3_is n i j k (omega arith) (omega arith) (omega arith)))

-- the same by the formulas
pub entry_is : (n i j k : ℕ) → i < j → j < k → k < n → n ≤ 24 →
    place3 n i j k + threes_of (n - i) + pairs_of (n - j) ≡ threes_of n + pairs_of (n - i - 1) + (k - j - 1)
entry_is n i j k x y z few =
    let a = threes_is n few in
    let b = threes_is (n - i) (omega arith) in
    let c = pairs_is (n - j) in
    let d = pairs_is (n - i - 1) in
    let e = place3_is n i j k x y z in
    subst (λ m. place3 n i j k + m + pairs_of (n - j) ≡ threes_of n + pairs_of (n - i - 1) + (k - j - 1)) b
    (subst (λ m. place3 n i j k + threes (n - i) + m ≡ threes_of n + pairs_of (n - i - 1) + (k - j - 1)) c
    (subst (λ m. place3 n i j k + threes (n - i) + pairs (n - j) ≡ m + pairs_of (n - i - 1) + (k - j - 1)) a
    (subst (λ m. place3 n i j k + threes (n - i) + pairs (n - j) ≡ threes n + m + (k - j - 1)) d e)))

pub entry_below : (n i j k : ℕ) → i < j → j < k → k < n → n ≤ 24 → place3 n i j k < threes_of n
entry_below n i j k x y z few = subst (λ m. place3 n i j k < m) (threes_is n few) (place3_below n i j k x y z)

-- the entries rise with the threes
pair_rises : (n j k j' k' : ℕ) → j < k → k < n → j' < k' → k' < n → Before (j ∷ k ∷ []) (j' ∷ k' ∷ []) → place2 n j k < place2 n j' k'
pair_rises zero j k j' k' a b c d h = absurd (omega arith)
pair_rises (suc n) j zero j' k' a b c d h = absurd (omega arith)
pair_rises (suc n) j (suc k) j' zero a b c d h = absurd (omega arith)
pair_rises (suc n) zero (suc k) zero (suc k') a b c d (inl h) = absurd (omega arith)
pair_rises (suc n) zero (suc k) zero (suc k') a b c d (inr (e, inl h)) = omega arith
pair_rises (suc n) zero (suc k) zero (suc k') a b c d (inr (e, inr (f, g))) = absurd g
pair_rises (suc n) zero (suc k) (suc j') (suc k') a b c d h = omega arith
pair_rises (suc n) (suc j) (suc k) zero (suc k') a b c d (inl h) = absurd (omega arith)
pair_rises (suc n) (suc j) (suc k) zero (suc k') a b c d (inr (e, h)) = absurd (omega arith)
pair_rises (suc n) (suc j) (suc k) (suc j') (suc k') a b c d (inl h) =
    omega (arith, pair_rises n j k j' k' (omega arith) (omega arith) (omega arith) (omega arith) (inl (omega arith)))
pair_rises (suc n) (suc j) (suc k) (suc j') (suc k') a b c d (inr (e, inl h)) =
    omega (arith, pair_rises n j k j' k' (omega arith) (omega arith) (omega arith) (omega arith) (inr (omega arith, inl (omega arith))))
pair_rises (suc n) (suc j) (suc k) (suc j') (suc k') a b c d (inr (e, inr (f, g))) = absurd g

pub three_rises : (n i j k i' j' k' : ℕ) → i < j → j < k → k < n → i' < j' → j' < k' → k' < n →
    Before (i ∷ j ∷ k ∷ []) (i' ∷ j' ∷ k' ∷ []) → place3 n i j k < place3 n i' j' k'
three_rises zero i j k i' j' k' a b c d e f h = absurd (omega arith)
three_rises (suc n) i zero k i' j' k' a b c d e f h = absurd (omega arith)
three_rises (suc n) i (suc j) zero i' j' k' a b c d e f h = absurd (omega arith)
three_rises (suc n) i (suc j) (suc k) i' zero k' a b c d e f h = absurd (omega arith)
three_rises (suc n) i (suc j) (suc k) i' (suc j') zero a b c d e f h = absurd (omega arith)
three_rises (suc n) zero (suc j) (suc k) zero (suc j') (suc k') a b c d e f (inl h) = absurd (omega arith)
three_rises (suc n) zero (suc j) (suc k) zero (suc j') (suc k') a b c d e f (inr (x, h)) =
    pair_rises n j k j' k' (omega arith) (omega arith) (omega arith) (omega arith) (lower2 h)
  where
    lower2 : Before (suc j ∷ suc k ∷ []) (suc j' ∷ suc k' ∷ []) → Before (j ∷ k ∷ []) (j' ∷ k' ∷ [])
    lower2 (inl h) = inl (omega arith)
    lower2 (inr (e, inl h)) = inr (omega arith, inl (omega arith))
    lower2 (inr (e, inr (f, g))) = absurd g
three_rises (suc n) zero (suc j) (suc k) (suc i') (suc j') (suc k') a b c d e f h =
    omega (arith, place2_below n j k (omega arith) (omega arith))
three_rises (suc n) (suc i) (suc j) (suc k) zero (suc j') (suc k') a b c d e f (inl h) = absurd (omega arith)
three_rises (suc n) (suc i) (suc j) (suc k) zero (suc j') (suc k') a b c d e f (inr (x, h)) = absurd (omega arith)
three_rises (suc n) (suc i) (suc j) (suc k) (suc i') (suc j') (suc k') a b c d e f h =
    omega (arith, three_rises n i j k i' j' k' (omega arith) (omega arith) (omega arith) (omega arith) (omega arith) (omega arith) (lower3 h))
  where
    lower3 : Before (suc i ∷ suc j ∷ suc k ∷ []) (suc i' ∷ suc j' ∷ suc k' ∷ []) → Before (i ∷ j ∷ k ∷ []) (i' ∷ j' ∷ k' ∷ [])
    lower3 (inl h) = inl (omega arith)
    lower3 (inr (e, inl h)) = inr (omega arith, inl (omega arith))
    lower3 (inr (e, inr (f, inl h))) = inr (omega arith, inr (omega arith, inl (omega arith)))
    lower3 (inr (e, inr (f, inr (x, g)))) = absurd g
