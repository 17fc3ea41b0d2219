-- Flat points: lists of places of which three or more may lie on one line, as systems of points.
use Rattle.std.specs.Prelude.{◌≤◌, cond, Bool, ◌&&◌, ◌||◌, List, length, pos}
use Rattle.std.specs.Ordering.{int_eq}
use Rattle.laws.specs.Systems.{Meaning, Same, Lawful}
use Rattle.laws.specs.First.{NeverPair}
use Rattle.models.specs.declared.places.Place.{Place}
use Rattle.models.specs.Determinants.{positive}
use Rattle.models.specs.Places.{AllNear, Twins, Good, before, plane, place, cross}

-- each of p, q, r comes before the next
abbrev pub in_order : Place → Place → Place → Bool
in_order p q r = before p q && before q r

-- p, q, r is the order of the three, or a cyclic shift of it
abbrev pub in_cyclic_order : Place → Place → Place → Bool
in_cyclic_order p q r = in_order p q r || in_order q r p || in_order r p q

-- whether p, q, r turn left: by the sign of cross where that is not 0; where it is 0, the three lie on one line, and turn left where they are
-- in cyclic order
abbrev pub turns_left : Place → Place → Place → Bool
turns_left p q r = cond (int_eq (cross p q r) (pos 0)) (in_cyclic_order p q r) (positive (cross p q r))

-- the flat points of the list
abbrev pub flat_points : List Place → Meaning
flat_points ps = record { count = length ps; left = λ p q r. turns_left (place ps p) (place ps q) (place ps r) }

-- at most 128 places, all in range, no two alike
pub record Distinct (ps : List Place) : Type 0 where
  pub few : length ps ≤ 128
  pub near : AllNear ps
  pub apart : NeverPair (length ps) (Twins ps)
  deriving IsProp as distinct-prop

-- the flat points of a list of distinct places keep the five laws
abbrev pub FlatPointsKeepTheLaws : Type 0
FlatPointsKeepTheLaws = (ps : List Place) → Distinct ps → Lawful (flat_points ps)

-- where no three places lie on a line, they turn as flat points just as they do as points
abbrev pub FlatPointsAgree : Type 0
FlatPointsAgree = (ps : List Place) → Good ps → Same (flat_points ps) (plane ps)
