-- The tests of laws 4 and 5 pass exactly where the laws hold.
use Rattle.std.proofs.Common.{ℕ, zero, suc, ◌<◌, Bool, true, false, not, ◌&&◌, ◌||◌, T, sym, subst, arith, T_not}
use native.Mathlib.Decide.{ℕ_discrete}
use lib.Dec.{not_T}
use Rattle.laws.proofs.Names.{both, and}
use Rattle.models.specs.Spread.{Turns}
use Rattle.models.specs.Catalogue.{all, keeps4, keeps5}

-- laws 4 and 5 over the marks below n
abbrev pub Interior : ℕ → Turns → Type 0
Interior n left =
    (t p q r : ℕ) → t < n → p < n → q < n → r < n →
    T (left t q r) → T (left p t r) → T (left p q t) → T (left p q r)

abbrev pub Transitive : ℕ → Turns → Type 0
Transitive n left =
    (t s p q r : ℕ) → t < n → s < n → p < n → q < n → r < n →
    T (left t s p) → T (left t s q) → T (left t s r) → T (left t p q) → T (left t q r) → T (left t p r)

pub or_by : (a b : Bool) → T (a || b) → (T b → T a) → T a
or_by true b t f = tt
or_by false b t f = f t

pub or_of : (a b : Bool) → ((T a → ⊥) → T b) → T (a || b)
or_of true b f = tt
or_of false b f = f (λ x. x)

pub implies : (a b : Bool) → T (not a || b) → T a → T b
implies true b t s = t
implies false b t s = absurd s

pub implies_of : (a b : Bool) → (T a → T b) → T (not a || b)
implies_of true b f = f tt
implies_of false b f = tt

pub all_at : (n : ℕ) (f : ℕ → Bool) → T (all n f) → (k : ℕ) → k < n → T (f k)
all_at zero f t k h = absurd (omega arith)
all_at (suc n) f t k h =
    elim (ℕ_discrete k n) [
      | yes e ↦ subst (λ m. T (f m)) (sym e) (both (f n) (all n f) t).0
      | no e ↦ all_at n f (both (f n) (all n f) t).1 k (omega arith)
    ]

pub all_of : (n : ℕ) (f : ℕ → Bool) → ((k : ℕ) → k < n → T (f k)) → T (all n f)
all_of zero f h = tt
all_of (suc n) f h = and (f n) (all n f) (h n (omega arith)) (all_of n f (λ k l. h k (omega arith)))

module _ (n : ℕ) (left : Turns) where
  pub interior : T (keeps4 n left) → Interior n left
  interior test t p q r ht hp hq hr x y z =
      or_by (left p q r) _ (all_at n _ (all_at n _ (all_at n _ test p hp) q hq) r hr)
      (λ inside. absurd (T_not (left t q r && left p t r && left p q t) (all_at n _ inside t ht) (and _ _ (and _ _ x y) z)))

  pub interior_tested : Interior n left → T (keeps4 n left)
  interior_tested law =
      all_of n _ λ p hp. all_of n _ λ q hq. all_of n _ λ r hr. or_of (left p q r) _ λ no. all_of n _ λ t ht.
      not_T (left t q r && left p t r && left p q t) λ xyz.
      no (law t p q r ht hp hq hr
      (both (left t q r) _ (both (left t q r && left p t r) _ xyz).0).0
      (both (left t q r) _ (both (left t q r && left p t r) _ xyz).0).1
      (both (left t q r && left p t r) _ xyz).1)

  pub transitive : T (keeps5 n left) → Transitive n left
  transitive test t s p q r ht hs hp hq hr tsp tsq tsr tpq tqr =
      let rest = implies (left t s p) _ (all_at n _ (all_at n _ (all_at n _ test t ht) s hs) p hp) tsp in
      let last = implies (left t s q && left t p q) _ (all_at n _ rest q hq) (and _ _ tsq tpq) in
      implies (left t s r && left t q r) _ (all_at n _ last r hr) (and _ _ tsr tqr)

  pub transitive_tested : Transitive n left → T (keeps5 n left)
  transitive_tested law =
      all_of n _ λ t ht. all_of n _ λ s hs. all_of n _ λ p hp. implies_of (left t s p) _ λ tsp.
      all_of n _ λ q hq. implies_of (left t s q && left t p q) _ λ x.
      all_of n _ λ r hr. implies_of (left t s r && left t q r) _ λ y.
      law t s p q r ht hs hp hq hr tsp (both (left t s q) _ x).0 (both (left t s r) _ y).0 (both (left t s q) _ x).1 (both (left t s r) _ y).1
