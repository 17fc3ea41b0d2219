-- The pairs of a ring by their places: the mark at i, and the one at i of the ring turned by one.
use Rattle.std.proofs.Common.{◌≡◌, ℕ, zero, suc, ◌<◌, List, [], ◌∷◌, ◌++◌, length, get_or, sym, inl, inr, arith}
use Rattle.laws.specs.Outlines.{Step}

-- p and q at one place of two lists
abbrev pub AtPlace : List ℕ → List ℕ → ℕ → ℕ → Type 0
AtPlace k l p q = (i : ℕ) × (i < length k) × (get_or k i 0 ≡ p) × (get_or l i 0 ≡ q)

pub place : (a : ℕ) (l : List ℕ) (b p q : ℕ) → Step a l b p q → AtPlace (a ∷ l) (l ++ b ∷ []) p q
place a [] b p q k = (0, omega arith, sym k.0, sym k.1)
place a (c ∷ l) b p q (inl k) = (0, omega arith, sym k.0, sym k.1)
place a (c ∷ l) b p q (inr k) = let (i, h, e, e') = place c l b p q k in (suc i, omega arith, e, e')

pub at_place : (a : ℕ) (l : List ℕ) (b p q : ℕ) → AtPlace (a ∷ l) (l ++ b ∷ []) p q → Step a l b p q
at_place a [] b p q (zero, h, e, e') = (sym e, sym e')
at_place a [] b p q (suc i, h, e, e') = absurd (omega arith)
at_place a (c ∷ l) b p q (zero, h, e, e') = inl (sym e, sym e')
at_place a (c ∷ l) b p q (suc i, h, e, e') = inr (at_place c l b p q (i, omega arith, e, e'))
