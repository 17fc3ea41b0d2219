-- The star about a point c: every other point, by its difference from c and the square of its distance.
use Rattle.std.specs.Prelude.{◌≡◌, ℕ, ◌+◌, ◌-◌, ◌<◌, cond, ◌≢◌, List, length, pos, ◌+ℤ◌, ◌-ℤ◌, ◌*ℤ◌, nat_lt}
use Rattle.laws.specs.Systems.{Meaning, Lawful}
use Rattle.models.specs.declared.places.Place.{Place}
use Rattle.models.specs.Determinants.{Row, det, by_sign}
use Rattle.laws.specs.First.{NeverTriple}
use Rattle.models.specs.Places.{place, Good}

-- p as seen from c: the coordinates less those of c, and the square of the distance
abbrev pub seen : Place → Place → Row
seen c p =
    record {
      a = p.x -ℤ c.x;
      b = p.y -ℤ c.y;
      w = (p.x -ℤ c.x) *ℤ (p.x -ℤ c.x) +ℤ (p.y -ℤ c.y) *ℤ (p.y -ℤ c.y);
    }

-- the point that the star's mark i means: point i below c, and point i + 1 from c on
abbrev pub other : ℕ → ℕ → ℕ
other c i = cond (nat_lt i c) i (i + 1)

-- the star about c: it has one mark less than the list has points, and three of its marks turn left where the determinant of their points,
-- as seen from c, is above 0
abbrev pub star : List Place → ℕ → Meaning
star ps c = by_sign (length ps - 1) (λ i. seen (place ps c) (place ps (other c i)))

-- three points besides c that lie on one circle with it, or on one line (which a good list excludes)
pub record OnCircle (ps : List Place) (c i j k : ℕ) : Type 0 where
  pub i≢c : i ≢ c
  pub j≢c : j ≢ c
  pub k≢c : k ≢ c
  pub flat : det (seen (place ps c) (place ps i)) (seen (place ps c) (place ps j)) (seen (place ps c) (place ps k)) ≡ pos 0

-- a good list, empty or with a point c, and no three other points on one circle with c
pub record Clear (ps : List Place) (c : ℕ) : Type 0 where
  pub good : Good ps
  pub centre : 0 < length ps → c < length ps
  pub round : NeverTriple (length ps) (OnCircle ps c)
  deriving IsProp as clear-prop

-- a clear star keeps the five laws
abbrev pub StarsKeepTheLaws : Type 0
StarsKeepTheLaws = (ps : List Place) (c : ℕ) → Clear ps c → Lawful (star ps c)
