-- Rings as the code holds them.
use Rattle.std.specs.Prelude.{◌≡◌, ℕ, ◌<◌, Bool, true, false, T, ◌≢◌, List, [], ◌∷◌, ◌++◌, length, slice_index, Some, None, Option}
use Rattle.laws.specs.Systems.{Meaning, Left}
use Rattle.laws.specs.Outlines.{Marks, Arc, Apart, Step, Outline}
use Rattle.laws.specs.Theorems.{of}
use Rattle.runs.specs.Calls.{On, RingOf, OneMore}
use Rattle.hull.specs.declared.rings.Ring.{Ring}

-- the marks of the ring, in order
abbrev pub listed : Ring → List ℕ
listed r = r.marks.items

-- the ring, started at its second mark: at each place the mark that follows
abbrev pub rotated : List ℕ → List ℕ
rotated [] = []
rotated (a ∷ l) = l ++ a ∷ []

-- where x stands on the ring; none says that it does not
abbrev pub PositionOf : List ℕ → ℕ → Option ℕ → Type 0
PositionOf ring x None = On ring x → ⊥
PositionOf ring x (Some i) = (i < length ring) × (slice_index ring i ≡ x)

-- x is a mark of the system, and the ring is the outline of some marks without x
pub record Beside (m : Meaning) (ring : List ℕ) (x : ℕ) : Type 0 where
  pub set : ℕ → Bool
  pub marks : Marks m (of set)
  pub is_ring : RingOf m set ring
  pub x_in : x < m.count
  pub x_out : T (set x) → ⊥

-- the ring is the outline of some marks, and x is one of them and not on it
pub record Within (m : Meaning) (ring : List ℕ) (x : ℕ) : Type 0 where
  pub set : ℕ → Bool
  pub marks : Marks m (of set)
  pub is_ring : RingOf m set ring
  pub x_in : T (set x)
  pub x_off : On ring x → ⊥

-- what mark a of the old ring leaves on the ring around x, by whether x sees the arc to it and the arc from it: nothing, itself, or itself
-- and x
abbrev pub left_on : Bool → Bool → ℕ → ℕ → List ℕ
left_on true true a x = []
left_on true false a x = a ∷ []
left_on false true a x = a ∷ x ∷ []
left_on false false a x = a ∷ []

-- whatever marks the old ring goes around, the new one goes around these and x, from some mark on
abbrev pub GoesRound : Meaning → List ℕ → ℕ → List ℕ → Type 0
GoesRound m old x new = (s t : ℕ → Bool) → Marks m (of s) → RingOf m s old → OneMore s x t → Outline m (of t) new

-- the same, from the lowest mark on
abbrev pub Grows : Meaning → List ℕ → ℕ → List ℕ → Type 0
Grows m old x new = (s t : ℕ → Bool) → Marks m (of s) → RingOf m s old → OneMore s x t → RingOf m t new

-- x is not one of the marks of s, and the ring is the outline of these and x
pub record Surrounds (m : Meaning) (s : ℕ → Bool) (ring : List ℕ) (x : ℕ) : Type 0 where
  pub set : ℕ → Bool
  pub marks : Marks m (of set)
  pub one : OneMore s x set
  pub is_ring : RingOf m set ring

-- some arc of the marks of s comes to p
abbrev pub Reached : Meaning → (ℕ → Bool) → ℕ → Type 0
Reached m s p = (u : ℕ) × Arc m (of s) u p

-- whether mark x comes before q about p; it does not where it is p or q
abbrev pub ComesBefore : Meaning → ℕ → ℕ → ℕ → Bool → Type 0
ComesBefore m p q x true = Left m p x q
ComesBefore m p q x false = x ≢ p → x ≢ q → Left m p q x

-- the ring is a way along arcs of the marks of s that goes on to q, and no mark stands on it twice
abbrev pub Way : Meaning → (ℕ → Bool) → List ℕ → ℕ → Type 0
Way m s [] q = ⊥
Way m s (a ∷ l) q = ((c d : ℕ) → Step a l q c d → Arc m (of s) c d) × Apart (a ∷ l)

-- the ring is a way along arcs of the marks of s, from its first mark to its last, which is another
pub record Open (m : Meaning) (s : ℕ → Bool) (ring : List ℕ) : Type 0 where
  pub front : List ℕ
  pub last : ℕ
  pub in_all : ring ≡ front ++ last ∷ []
  pub way : Way m s front last
  pub apart : last ≢ slice_index front 0
