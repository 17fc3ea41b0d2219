-- The Delaunay star of a point.
use Rattle.std.specs.Prelude.{◌≡◌, ℕ, ◌<◌, ◌≤◌, ◌≢◌, ◌↔◌, List, length, take, drop, Ok, Err, Result, slice_index_or}
use Rattle.cc.specs.declared.faults.Fault.{Fault}
use Rattle.cc.specs.declared.faults.Fault.TheVariants.{Tight}
use Rattle.laws.specs.Systems.{Meaning, Left}
use Rattle.laws.specs.Outlines.{Arc}
use Rattle.models.specs.declared.places.Place.{Place}
use Rattle.models.specs.Places.{place, plane, Good}
use Rattle.models.specs.Stars.{star, other}
use Rattle.models.specs.Circles.{Outside}
use Rattle.systems.specs.Openings.{Starred, StarRefused}

-- (p, q) is a pair of the star about c: c, p, q turn left, and every other point lies outside the circle through them
pub record Delaunay (ps : List Place) (c p q : ℕ) : Type 0 where
  pub turns : Left (plane ps) c p q
  pub outside : (r : ℕ) → r < length ps → r ≢ c → r ≢ p → r ≢ q → Outside (place ps c) (place ps p) (place ps q) (place ps r)

-- the k-th pair of a list
abbrev pub pair : List (ℕ × ℕ) → ℕ → ℕ × ℕ
pair l k = slice_index_or l k (0, 0)

-- the list has exactly the pairs of the star about c, in the rising order of their first points
pub record StarPairs (ps : List Place) (c : ℕ) (l : List (ℕ × ℕ)) : Type 0 where
  pub each : (k : ℕ) → k < length l → Delaunay ps c (pair l k).0 (pair l k).1
  pub all : (p q : ℕ) → Delaunay ps c p q → (k : ℕ) × (k < length l) × ((pair l k).0 ≡ p) × ((pair l k).1 ≡ q)
  pub rising : (j k : ℕ) → j < k → k < length l → (pair l j).0 < (pair l k).0

-- the pairs of the star about c, n of them, are written at the front of a list, and what stands past them is kept
pub record StarWritten (ps : List Place) (c n : ℕ) (before later : List (ℕ × ℕ)) : Type 0 where
  pub starred : Starred ps c
  pub fits : n ≤ length before
  pub front : StarPairs ps c (take n later)
  pub rest : drop n later ≡ drop n before

-- why the star about c is not written into a list of length n: c is no mark, or on one circle with three others, or the list is too short
pub data StarDeclined (ps : List Place) (c n : ℕ) : Fault → Type 0 where
  refused : {f : Fault} → StarRefused ps c f → StarDeclined ps c n f
  tight : {l : List (ℕ × ℕ)} → Starred ps c → StarPairs ps c l → n < length l → StarDeclined ps c n (Tight (length l))

-- what `star` answers: the pairs are written, or the call is refused and the list stays as it was
abbrev pub StarAnswer : List Place → ℕ → List (ℕ × ℕ) → List (ℕ × ℕ) → Result ℕ Fault → Type 0
StarAnswer ps c before later (Ok n) = StarWritten ps c n before later
StarAnswer ps c before later (Err f) = StarDeclined ps c (length before) f × (later ≡ before)

-- p is a mark of the system: so this is the set of all its marks
abbrev pub AllOf : Meaning → ℕ → Type 0
AllOf m p = p < m.count

-- (p, q) is an arc that faces c: p and q are the points that i and j mean, (i, j) is an arc among all the marks of the star about c, and
-- c, p, q turn left
pub record FacingArc (ps : List Place) (c p q : ℕ) : Type 0 where
  pub i : ℕ
  pub j : ℕ
  pub i_means : other c i ≡ p
  pub j_means : other c j ≡ q
  pub arc : Arc (star ps c) (AllOf (star ps c)) i j
  pub faces : Left (plane ps) c p q

-- the pairs of a star are the arcs that face its centre, where the places are a system and the star about c is accepted
abbrev pub StarIsFacingArcs : Type 0
StarIsFacingArcs = (ps : List Place) (c p q : ℕ) → Good ps → Starred ps c → Delaunay ps c p q ↔ FacingArc ps c p q

-- a point is first in at most one pair
abbrev pub OnePairEach : Type 0
OnePairEach = (ps : List Place) (c p q q' : ℕ) → Good ps → Starred ps c → Delaunay ps c p q → Delaunay ps c p q' → q ≡ q'

-- the contract of `star` leaves one answer, and one list after it; the list keeps its length, as a slice does
abbrev pub OneStarAnswer : Type 0
OneStarAnswer =
    (ps : List Place) (c : ℕ) (before l k : List (ℕ × ℕ)) (r s : Result ℕ Fault) → length l ≡ length before → length k ≡ length before
    → StarAnswer ps c before l r → StarAnswer ps c before k s → (r ≡ s) × (l ≡ k)
