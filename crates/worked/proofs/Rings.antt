-- Rings of small sections, by tests that are computed.
use Rattle.std.proofs.Common.{◌≡◌, ℕ, Bool, true, false, not, ◌||◌, T, eqb, ltb, ◌≢◌, ℤ, pos, nat_abs, sym, subst, eqb→eq, T_not, lt→ltb}
use Rattle.laws.specs.Systems.{Meaning}
use Rattle.laws.specs.Outlines.{Marks, Arc}
use Rattle.laws.specs.First.{NeverTriple, NeverPair}
use Rattle.laws.specs.Theorems.{of}
use Rattle.models.specs.Catalogue.{all}
use Rattle.models.proofs.Tests.{all_at}

or_cases : (a b : Bool) → T (a || b) → (T a → ⊥) → T b
or_cases true b h n = absurd (n tt)
or_cases false b h n = h

-- every mark of s but p and q is to the left
abbrev pub arc_test : Meaning → (ℕ → Bool) → ℕ → ℕ → Bool
arc_test m s p q = all m.count (λ r. not (s r) || (eqb r p || (eqb r q || m.left p q r)))

module _ (m : Meaning) (s : ℕ → Bool) (marks : Marks m (of s)) where
  pub arc_by : (p q : ℕ) → T (s p) → T (s q) → p ≢ q → T (arc_test m s p q) → Arc m (of s) p q
  arc_by p q sp sq n test =
      record {
        from = sp;
        to = sq;
        apart = n;
        left = λ r sr r≢p r≢q.
            let t = all_at m.count _ test r (marks r sr) in
            let t₁ = or_cases (not (s r)) _ t (λ h. T_not (s r) h sr) in
            let t₂ = or_cases (eqb r p) _ t₁ (λ h. r≢p (eqb→eq r p h)) in
            let t₃ = or_cases (eqb r q) _ t₂ (λ h. r≢q (eqb→eq r q h)) in
            record {
              three = record { p_in = marks p sp; q_in = marks q sq; r_in = marks r sr; p≢q = n; q≢r = λ e. r≢q (sym e); r≢p = r≢p };
              turns = t₃;
            };
      }

-- where no rising pair below n passes a test, what implies the test holds of none; and so for rising threes
pub never_pair : (n : ℕ) (test : ℕ → ℕ → Bool) (P : ℕ → ℕ → Type 0) → ((i j : ℕ) → P i j → T (test i j))
    → T (all n (λ i. all n (λ j. not (ltb i j) || not (test i j)))) → NeverPair n P
never_pair n test P passes t i hi j hj ij h =
    T_not (test i j) (or_cases (not (ltb i j)) _ (all_at n _ (all_at n _ t i hi) j hj) (λ k. T_not (ltb i j) k (lt→ltb i j ij))) (passes i j h)

pub never_triple : (n : ℕ) (test : ℕ → ℕ → ℕ → Bool) (P : ℕ → ℕ → ℕ → Type 0) → ((i j k : ℕ) → P i j k → T (test i j k))
    → T (all n (λ i. all n (λ j. all n (λ k. not (ltb i j) || (not (ltb j k) || not (test i j k)))))) → NeverTriple n P
never_triple n test P passes t i hi j hj ij k hk jk h =
    let t₁ = or_cases (not (ltb i j)) _ (all_at n _ (all_at n _ (all_at n _ t i hi) j hj) k hk) (λ l. T_not (ltb i j) l (lt→ltb i j ij)) in
    let t₂ = or_cases (not (ltb j k)) _ t₁ (λ l. T_not (ltb j k) l (lt→ltb j k jk)) in
    T_not (test i j k) t₂ (passes i j k h)

-- a number that is 0 passes the test for it
pub zero_test : (z : ℤ) → z ≡ pos 0 → T (eqb (nat_abs z) 0)
zero_test z e = subst (λ y. T (eqb (nat_abs y) 0)) (sym e) tt
