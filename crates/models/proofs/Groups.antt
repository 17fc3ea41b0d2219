-- Groups of rising marks below n: at most one is the first that breaks the laws; and fours and fives with their patterns.
use Rattle.std.proofs.Common.{◌≡◌, ℕ, ◌<◌, ◌⊎◌, ◌↔◌, List, [], ◌∷◌, length, sym, refl, ◌∙◌, subst, ap₂, inl, inr, arith, lit≤}
use Prim.Native.Nat.{Ordering}
use Rattle.laws.specs.Systems.{Meaning, Lawful}
use Rattle.models.specs.Spread.{Turns, system}
use Rattle.models.specs.Rising.{Before, Group, LawfulAmong, FirstLawless}
use Rattle.models.specs.Catalogue.{four, five, pattern}
use Rattle.models.proofs.Patterns.{among_pattern}
use Rattle.models.proofs.Spread.{Compared, less, same, more, compared}

pub group4 : (n a b c d : ℕ) → a < b → b < c → c < d → d < n → Group 4 n (a ∷ b ∷ c ∷ d ∷ [])
group4 n a b c d x y z w = record {
  long = refl;
  rising = (λ k m. omega arith, (λ k m. omega arith, (λ k m. omega arith, (λ k m. absurd m, tt))));
  below = λ k m. omega arith;
}

pub group5 : (n a b c d e : ℕ) → a < b → b < c → c < d → d < e → e < n → Group 5 n (a ∷ b ∷ c ∷ d ∷ e ∷ [])
group5 n a b c d e x y z v w = record {
  long = refl;
  rising = (λ k m. omega arith, (λ k m. omega arith, (λ k m. omega arith, (λ k m. omega arith, (λ k m. absurd m, tt)))));
  below = λ k m. omega arith;
}

-- at most one is the first in rising order
before_or_after : (xs ys : List ℕ) → length xs ≡ length ys → Before xs ys ⊎ ((xs ≡ ys) ⊎ Before ys xs)
before_or_after [] [] e = inr (inl refl)
before_or_after [] (y ∷ ys) e = absurd (omega arith)
before_or_after (x ∷ xs) [] e = absurd (omega arith)
before_or_after (x ∷ xs) (y ∷ ys) e = go (compared x y) (before_or_after xs ys (omega arith))
  where
    go : {o : Ordering} → Compared x y o → Before xs ys ⊎ ((xs ≡ ys) ⊎ Before ys xs) →
        Before (x ∷ xs) (y ∷ ys) ⊎ ((x ∷ xs ≡ y ∷ ys) ⊎ Before (y ∷ ys) (x ∷ xs))
    go (less h) rest = inl (inl h)
    go (same h) (inl b) = inl (inr (h, b))
    go (same h) (inr (inl i)) = inr (inl (ap₂ ◌∷◌ h i))
    go (same h) (inr (inr b)) = inr (inr (inr (sym h, b)))
    go (more h) rest = inr (inr (inl h))

pub one_first : (k : ℕ) (m : Meaning) (xs ys : List ℕ) → FirstLawless k m xs → FirstLawless k m ys → xs ≡ ys
one_first k m xs ys x y =
    elim (before_or_after xs ys (x.group.long ∙ sym y.group.long)) [
      | inl b ↦ absurd (x.lawless (y.first xs x.group b))
      | inr (inl e) ↦ e
      | inr (inr b) ↦ absurd (y.lawless (x.first ys y.group b))
    ]

-- laws among four and five rising marks, and the laws of their pattern
module _ (g : Turns) (n : ℕ) where
  pub four_among : (a b c d p : ℕ) → a < b → b < c → c < d → d < n → p ≡ pattern 4 g (a ∷ b ∷ c ∷ d ∷ []) →
      LawfulAmong (system n g) (a ∷ b ∷ c ∷ d ∷ []) ↔ Lawful (four p)
  four_among a b c d p x y z w e =
      subst (λ p. LawfulAmong (system n g) (a ∷ b ∷ c ∷ d ∷ []) ↔ Lawful (four p)) (sym e)
      (among_pattern g n 4 (lit≤ tt) (a ∷ b ∷ c ∷ d ∷ []) (group4 n a b c d x y z w))

  pub five_among : (a b c d e p : ℕ) → a < b → b < c → c < d → d < e → e < n → p ≡ pattern 5 g (a ∷ b ∷ c ∷ d ∷ e ∷ []) →
      LawfulAmong (system n g) (a ∷ b ∷ c ∷ d ∷ e ∷ []) ↔ Lawful (five p)
  five_among a b c d e p x y z v w i =
      subst (λ p. LawfulAmong (system n g) (a ∷ b ∷ c ∷ d ∷ e ∷ []) ↔ Lawful (five p)) (sym i)
      (among_pattern g n 5 (lit≤ tt) (a ∷ b ∷ c ∷ d ∷ e ∷ []) (group5 n a b c d e x y z v w))
