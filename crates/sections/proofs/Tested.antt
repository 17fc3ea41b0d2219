-- An arc among all the marks, found by a test of each of them.
use Rattle.std.proofs.Common.{◌≡◌, ℕ, ◌<◌, ◌≤◌, ◌≢◌, Bool, true, false, length, get_or, Some, None, Option, MatchBool, MatchOption, subst, arith}
use Rattle.std.specs.List.{AllWithin, HoldsAt, range_with_len}
use Rattle.std.proofs.lemmas.List.FromFn.{get_or-range_with_len, length-range_with_len}
use Rattle.laws.specs.Systems.{Meaning, Left}
use Rattle.laws.specs.Outlines.{Arc}
use Rattle.sections.specs.Delaunay.{AllOf}

module _ (m : Meaning) (p q : ℕ) where
  abbrev pub IsLeft : ℕ → Type 0
  IsLeft r = r ≢ p → r ≢ q → Left m p q r

  abbrev pub IsNotLeft : ℕ → Type 0
  IsNotLeft r = (r ≢ p) × (r ≢ q) × (Left m p q r → ⊥)

  pub arc_by : (n : ℕ) (b : Bool) → n ≡ m.count → p < m.count → q < m.count → p ≢ q
      → MatchBool b (AllWithin IsLeft (range_with_len 0 n) 0 (length (range_with_len 0 n))) ((k : ℕ) × (k < length (range_with_len 0 n)) × HoldsAt IsNotLeft (range_with_len 0 n) k)
      → MatchBool b (Arc m (AllOf m) p q) (Arc m (AllOf m) p q → ⊥)
  arc_by n true all from to apart h =
      record {
        from = from;
        to = to;
        apart = apart;
        left = λ r hr np nq. subst IsLeft (at r (omega arith)) (h r 0 (omega arith) (omega (arith, length-range_with_len 0 n))) np nq;
      }
    where
      at : (r : ℕ) → r < n → get_or (range_with_len 0 n) r 0 ≡ r
      at r lt = omega (arith, get_or-range_with_len 0 n r 0 lt)
  arc_by n false all from to apart (k, lt, none) = λ a.
      let under : k < n = omega (arith, length-range_with_len 0 n) in
      let is : get_or (range_with_len 0 n) k 0 ≡ k = omega (arith, get_or-range_with_len 0 n k 0 under) in
      let off = subst IsNotLeft is (none 0) in
      off.2 (a.left k (omega arith) off.0 off.1)

-- the first mark to which an arc leads
pub first_arc : (m : Meaning) (p n : ℕ) (r : Option ℕ) → n ≡ m.count
    → MatchOption r ((k : ℕ) → 0 ≤ k → k < n → Arc m (AllOf m) p k → ⊥) (λ q. (0 ≤ q) × (q < n) × Arc m (AllOf m) p q × ((k : ℕ) → 0 ≤ k → k < q → Arc m (AllOf m) p k → ⊥))
    → MatchOption r ((q : ℕ) → Arc m (AllOf m) p q → ⊥) (Arc m (AllOf m) p)
first_arc m p n None all h = λ q a. h q (omega arith) (omega (arith, a.to)) a
first_arc m p n (Some q) all h = h.2
