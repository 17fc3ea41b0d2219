-- Lists of places in the plane as systems of points.
use Rattle.std.specs.Prelude.{◌≡◌, ℕ, ◌<◌, ◌≤◌, Bool, ◌&&◌, ◌||◌, List, length, ℤ, pos, ◌-ℤ◌, ◌*ℤ◌, int_lt, slice_index_or, unsigned_abs}
use Rattle.std.specs.Ordering.{int_eq}
use Rattle.laws.specs.Systems.{Meaning, Lawful}
use Rattle.models.specs.declared.places.Place.{Place}
use Rattle.models.specs.Determinants.{positive}
use Rattle.laws.specs.First.{NeverPair, NeverTriple}

-- both coordinates lie in -10,000 ..= 10,000
pub record Near (p : Place) : Type 0 where
  pub x_near : unsigned_abs p.x ≤ 10000
  pub y_near : unsigned_abs p.y ≤ 10000
  deriving IsProp as near-prop

-- whether p comes before q: places are ordered by x, and those with the same x by y
abbrev pub before : Place → Place → Bool
before p q = int_lt p.x q.x || int_eq p.x q.x && int_lt p.y q.y

-- twice the signed area of the triangle p q r, above 0 if they turn left
abbrev pub cross : Place → Place → Place → ℤ
cross p q r = (q.x -ℤ p.x) *ℤ (r.y -ℤ p.y) -ℤ (q.y -ℤ p.y) *ℤ (r.x -ℤ p.x)

-- the i-th place of the list
abbrev pub place : List Place → ℕ → Place
place ps i = slice_index_or ps i (record { x = pos 0; y = pos 0 })

-- the i-th place is out of range
abbrev pub Far : List Place → ℕ → Type 0
Far ps i = Near (place ps i) → ⊥

-- all places of the list are in range
abbrev pub AllNear : List Place → Type 0
AllNear ps = (i : ℕ) → i < length ps → Near (place ps i)

-- the i-th place and the j-th are the same
abbrev pub Twins : List Place → ℕ → ℕ → Type 0
Twins ps i j = place ps i ≡ place ps j

-- the i-th place, the j-th and the k-th lie on a line
abbrev pub InLine : List Place → ℕ → ℕ → ℕ → Type 0
InLine ps i j k = cross (place ps i) (place ps j) (place ps k) ≡ pos 0

-- at most 128 places, all in range, no two alike, no three on a line
pub record Good (ps : List Place) : Type 0 where
  pub few : length ps ≤ 128
  pub near : AllNear ps
  pub apart : NeverPair (length ps) (Twins ps)
  pub bent : NeverTriple (length ps) (InLine ps)
  deriving IsProp as good-prop

-- the points of the list: p, q, r turn left where cross is above 0
abbrev pub plane : List Place → Meaning
plane ps = record { count = length ps; left = λ p q r. positive (cross (place ps p) (place ps q) (place ps r)) }

-- a good list's points keep the five laws
abbrev pub PointsKeepTheLaws : Type 0
PointsKeepTheLaws = (ps : List Place) → Good ps → Lawful (plane ps)
