-- Circles through three places, in whole numbers: a centre is a point (u/t, v/t) of the plane.
use Rattle.std.specs.Prelude.{◌≡◌, ◌↔◌, ℤ, ◌+ℤ◌, ◌-ℤ◌, ◌*ℤ◌}
use Rattle.models.specs.declared.places.Place.{Place}
use Rattle.models.specs.Determinants.{Positive, det}
use Rattle.models.specs.Places.{cross}
use Rattle.models.specs.Stars.{seen}

-- t² times the square of the distance of p from (u/t, v/t)
abbrev pub far : ℤ → ℤ → ℤ → Place → ℤ
far t u v p = (t *ℤ p.x -ℤ u) *ℤ (t *ℤ p.x -ℤ u) +ℤ (t *ℤ p.y -ℤ v) *ℤ (t *ℤ p.y -ℤ v)

-- r lies outside of the circle through c, p and q: (u/t, v/t) is as far from p and from q as from c, and further from r
pub record Outside (c p q r : Place) : Type 0 where
  pub t : ℤ
  pub u : ℤ
  pub v : ℤ
  pub scale : Positive t
  pub through_p : far t u v p ≡ far t u v c
  pub through_q : far t u v q ≡ far t u v c
  pub further : Positive (far t u v r -ℤ far t u v c)

-- if c, p, q turn left, r lies outside of their circle exactly if the determinant of p, q, r as seen from c is above 0
abbrev pub OutsideByDeterminant : Type 0
OutsideByDeterminant = (c p q r : Place) → Positive (cross c p q) → Outside c p q r ↔ Positive (det (seen c p) (seen c q) (seen c r))
