-- A list without repeats of marks below n has at most n of them.
use Rattle.std.proofs.Common.{ℕ, zero, suc, ◌<◌, ◌≤◌, ◌≢◌, List, [], ◌∷◌, ◌++◌, length, ap, subst, inl, inr, arith, length-append}
use Rattle.std.specs.List.{AllByRecursion}
use Rattle.std.proofs.ByRecursion.{All-append}
use Rattle.laws.specs.Outlines.{Apart}
use Rattle.laws.proofs.Walks.{seek, all_cut, apart_mid}

apart_without : (k : List ℕ) (c : ℕ) (l : List ℕ) → Apart (k ++ c ∷ l) → Apart (k ++ l)
apart_without [] c l h = h.1
apart_without (a ∷ k) c l h =
    let i = all_cut (λ b. b ≢ a) k (c ∷ l) h.0 in
    (All-append (λ b. b ≢ a) k l i.0 i.1.1, apart_without k c l h.1)

lower : (n : ℕ) (l : List ℕ) → AllByRecursion (λ c. c < suc n) l → AllByRecursion (λ c. c ≢ n) l → AllByRecursion (λ c. c < n) l
lower n [] h k = tt
lower n (a ∷ l) h k = let i = h.0 in let j = k.0 in (omega arith, lower n l h.1 k.1)

pub few : (n : ℕ) (l : List ℕ) → Apart l → AllByRecursion (λ c. c < n) l → length l ≤ n
few zero [] a h = omega arith
few zero (c ∷ l) a h = absurd (omega arith)
few (suc n) l a h =
    elim (seek n l) [
      | inl (l₁, l₂, e) ↦
          let a' = subst Apart e a in
          let h' = all_cut (λ c. c < suc n) l₁ (n ∷ l₂) (subst (AllByRecursion (λ c. c < suc n)) e h) in
          let k = apart_mid l₁ n l₂ a' in
          let i = few n (l₁ ++ l₂) (apart_without l₁ n l₂ a') (All-append _ l₁ l₂ (lower n l₁ h'.0 k.0) (lower n l₂ h'.1.1 k.1)) in
          omega (arith, ap length e, length-append l₁ (n ∷ l₂), length-append l₁ l₂)
      | inr ns ↦ let i = few n l a (lower n l h ns) in omega arith
    ]
