-- Lists of marks in rising order, and the laws among the marks of a list.
use Rattle.std.specs.Prelude.{◌≡◌, ℕ, ◌<◌, ◌⊎◌, List, [], ◌∷◌, length}
use Rattle.laws.specs.Systems.{Meaning, Left}

-- z stands in a list
abbrev pub Mem : ℕ → List ℕ → Type 0
Mem z [] = ⊥
Mem z (x ∷ xs) = (z ≡ x) ⊎ Mem z xs

-- each entry of a list is smaller than those after it
abbrev pub Rising : List ℕ → Type 0
Rising [] = Unit {0}
Rising (x ∷ xs) = ((z : ℕ) → Mem z xs → x < z) × Rising xs

-- each entry of a list is below n
abbrev pub Below : ℕ → List ℕ → Type 0
Below n xs = (z : ℕ) → Mem z xs → z < n

-- of two lists of the same length, one comes before the other: the first entries decide, or the rest where these are the same
abbrev pub Before : List ℕ → List ℕ → Type 0
Before [] ys = ⊥
Before (x ∷ xs) [] = ⊥
Before (x ∷ xs) (y ∷ ys) = (x < y) ⊎ ((x ≡ y) × Before xs ys)

-- k marks below n, in rising order
pub record Group (k n : ℕ) (xs : List ℕ) : Type 0 where
  pub long : length xs ≡ k
  pub rising : Rising xs
  pub below : Below n xs

-- laws 4 and 5 hold of the marks of a list, in every order
pub record LawfulAmong (m : Meaning) (xs : List ℕ) : Type 0 where
  pub interior :
      (t p q r : ℕ) → Mem t xs → Mem p xs → Mem q xs → Mem r xs →
      Left m t q r → Left m p t r → Left m p q t → Left m p q r
  pub transitive :
      (t s p q r : ℕ) → Mem t xs → Mem s xs → Mem p xs → Mem q xs → Mem r xs →
      Left m t s p → Left m t s q → Left m t s r → Left m t p q → Left m t q r → Left m t p r

-- laws 4 and 5 hold among every k marks of the system
abbrev pub AllLawful : ℕ → Meaning → Type 0
AllLawful k m = (xs : List ℕ) → Group k m.count xs → LawfulAmong m xs

-- the first k marks, in rising order, among which laws 4 and 5 do not both hold
pub record FirstLawless (k : ℕ) (m : Meaning) (xs : List ℕ) : Type 0 where
  pub group : Group k m.count xs
  pub lawless : LawfulAmong m xs → ⊥
  pub first : (ys : List ℕ) → Group k m.count ys → Before ys xs → LawfulAmong m ys
