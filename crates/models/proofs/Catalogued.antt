-- The list of the lawful patterns: what stands in it, that it rises, and what a search of it answers.
use Rattle.std.proofs.Common.{◌≡◌, ℕ, zero, suc, ◌+◌, ◌<◌, ◌≤◌, Bool, true, false, not, ◌&&◌, T, eqb, ◌≢◌, ◌↔◌, List, ◌∷◌, length, get_or, is_ok, Ok, Err, Result, sym, refl, ap, ◌∙◌, subst, inl, inr, le_of_eq, le_of_lt, arith, eq-eqb, ne_eqb, MatchResult}
use mathlib.Core.Bool.{beq}
use native.Mathlib.Decide.{ℕ_discrete, dec_lt}
use Rattle.std.specs.List.Sorted.{IsBinarySearchResult}
use Rattle.std.proofs.lemmas.List.Sorted.{searched}
use Rattle.laws.specs.Systems.{Lawful}
use Rattle.models.specs.Rising.{Mem, Rising}
use Rattle.models.specs.Catalogue.{five, all, lawful_four, lawful_five, those, Catalogued, Fours}
use Rattle.models.proofs.Tests.{all_at}
use Rattle.models.proofs.Sort.{mem_at, rises, placed}
use Rattle.models.proofs.Patterns.{four_tested, five_tested}
use Rattle.std.specs.Ordering.{nat_cmp}

-- of the patterns of four marks, 5 and 10 alone break the laws: one computed test
four_right : ℕ → Bool
four_right p = beq (lawful_four p) (not (eqb p 5) && not (eqb p 10))

four_computed : T (all 16 four_right)
unfolding four_right
four_computed = tt

same : (a b : Bool) → T (beq a b) → a ≡ b
same true true t = refl
same true false t = absurd t
same false true t = absurd t
same false false t = refl

four_is : (p : ℕ) → p < 16 → lawful_four p ≡ (not (eqb p 5) && not (eqb p 10))
unfolding four_right
four_is p h = same (lawful_four p) _ (all_at 16 four_right four_computed p h)

pub fours : Fours
fours p h = (
  λ x. (four_tested p).0 (subst T (sym (four_is p h)) (rw (ne_eqb p 5 x.0, ne_eqb p 10 x.1) tt)),
  λ law.
      let t = subst T (four_is p h) ((four_tested p).1 law) in (
        λ e. subst (λ b. T (not b && not (eqb p 10))) (eq-eqb p 5 e) t,
        λ e. subst (λ b. T (not b)) (eq-eqb p 10 e) (subst (λ b. T (not b && not (eqb p 10))) (ne_eqb p 5 (let q : p ≢ 5 = omega arith in q)) t),
      ),
)

-- what the list of those that pass a test holds
passed : (f : ℕ → Bool) (k n p : ℕ) → Mem p (those f k n) → T (f p)
passed f k zero p m = elim m [ ]
passed f k (suc n) p m = go (f k) refl (passed f (suc k) n p) m
  where
    go : (b : Bool) → f k ≡ b → (Mem p (those f (suc k) n) → T (f p)) →
        Mem p (elim b [ true ↦ k ∷ those f (suc k) n | false ↦ those f (suc k) n ]) → T (f p)
    go true e more (inl q) = subst (λ x. T (f x)) (sym q) (subst T (sym e) tt)
    go true e more (inr m) = more m
    go false e more m = more m

found : (f : ℕ → Bool) (k n p : ℕ) → k ≤ p → p < k + n → T (f p) → Mem p (those f k n)
found f k zero p x y t = absurd (omega arith)
found f k (suc n) p x y t = go (f k) refl (λ h. found f (suc k) n p h (omega arith) t) (ℕ_discrete p k)
  where
    go : (b : Bool) → f k ≡ b → (suc k ≤ p → Mem p (those f (suc k) n)) → Dec (p ≡ k) →
        Mem p (elim b [ true ↦ k ∷ those f (suc k) n | false ↦ those f (suc k) n ])
    go true e more (yes q) = inl q
    go true e more (no q) = inr (more (omega arith))
    go false e more (yes q) = absurd (subst T (ap f q ∙ e) t)
    go false e more (no q) = more (omega arith)

-- it holds numbers from k to k + n only, and rises
within : (f : ℕ → Bool) (k n p : ℕ) → Mem p (those f k n) → (k ≤ p) × (p < k + n)
within f k zero p m = elim m [ ]
within f k (suc n) p m = go (f k) (λ h. let x = within f (suc k) n p h in (omega arith, omega arith)) m
  where
    go : (b : Bool) → (Mem p (those f (suc k) n) → (k ≤ p) × (p < k + suc n)) →
        Mem p (elim b [ true ↦ k ∷ those f (suc k) n | false ↦ those f (suc k) n ]) → (k ≤ p) × (p < k + suc n)
    go true more (inl q) = (omega arith, omega arith)
    go true more (inr m) = more m
    go false more m = more m

rising_those : (f : ℕ → Bool) (k n : ℕ) → Rising (those f k n)
rising_those f k zero = tt
rising_those f k (suc n) =
    elim (f k) as (λ b. Rising (elim b [ true ↦ k ∷ those f (suc k) n | false ↦ those f (suc k) n ])) [
      | true ↦ (λ z m. (within f (suc k) n z m).0, rising_those f (suc k) n)
      | false ↦ rising_those f (suc k) n
    ]

-- a list of 264 numbers that is computed to be the list of the lawful patterns
pub catalogued : (xs : List ℕ) → xs ≡ those lawful_five 0 1024 → length xs ≡ 264 → Catalogued xs
catalogued xs computed long = record {
  long = long;
  rising = subst Rising (sym computed) (rising_those lawful_five 0 1024);
  below = λ p m. let x = within lawful_five 0 1024 p (subst (Mem p) computed m) in omega arith;
  lawful = λ p h. (
    λ m. (five_tested p).0 (passed lawful_five 0 1024 p (subst (Mem p) computed m)),
    λ law. subst (Mem p) (sym computed) (found lawful_five 0 1024 p (omega arith) (omega arith) ((five_tested p).1 law)),
  );
}

rising_ordered : (xs : List ℕ) → Rising xs → (i j : ℕ) → i ≤ j → j < length xs → get_or xs i 0 ≤ get_or xs j 0
rising_ordered xs r i j x y =
    elim (ℕ_discrete i j) [ yes e ↦ le_of_eq (ap (λ k. get_or xs k 0) e) | no e ↦ le_of_lt (rises xs r i j (omega arith) y) ]

-- what a search of a rising list answers
searched_rising : (xs : List ℕ) → Rising xs → (p : ℕ) (r : Result ℕ ℕ) → IsBinarySearchResult (λ y. nat_cmp y p) xs r → T (is_ok r) ↔ Mem p xs
searched_rising xs rising p r found = go r (searched xs p r found (rising_ordered xs rising))
  where
    go : (r : Result ℕ ℕ) →
        MatchResult r (λ i. (i < length xs) × (get_or xs i 0 ≡ p))
        (λ i. (i ≤ length xs) × ((k : ℕ) → k < i → get_or xs k 0 < p) × ((k : ℕ) → i ≤ k → k < length xs → p < get_or xs k 0)) →
        T (is_ok r) ↔ Mem p xs
    go (Ok i) c = (λ _. subst (λ x. Mem x xs) c.1 (mem_at xs i c.0), λ _. tt)
    go (Err i) c = (
      λ t. absurd t,
      λ m.
          let k = placed p xs m in
          elim (dec_lt k.place i) [
            | yes h ↦ omega (arith, c.1 k.place h, k.is)
            | no h ↦ omega (arith, c.2 k.place (omega arith) k.within, k.is)
          ],
    )

pub searched_catalogue : (xs : List ℕ) → Catalogued xs → (p : ℕ) (r : Result ℕ ℕ) → IsBinarySearchResult (λ y. nat_cmp y p) xs r → T (is_ok r) ↔ ((p < 1024) × Lawful (five p))
searched_catalogue xs k p r found =
    let in-it = searched_rising xs k.rising p r found in
    (λ t. let m = in-it.0 t in (k.below p m, (k.lawful p (k.below p m)).0 m), λ x. in-it.1 ((k.lawful p x.0).1 x.1))
