-- Differences of places, as the code computes them.
use Rattle.std.specs.Prelude.{◌≡◌, ◌-ℤ◌}
use Rattle.models.specs.declared.places.Place.{Place}
use Rattle.models.specs.Determinants.{Row}
use Rattle.systems.specs.declared.offsets.Offset.{Offset}
use Rattle.systems.specs.declared.offsets.Arm.{Arm}

-- o leads from p to q
pub record Leads (p q : Place) (o : Offset) : Type 0 where
  pub across : o.a ≡ q.x -ℤ p.x
  pub up : o.b ≡ q.y -ℤ p.y

-- an arm as a row of the star's determinants
abbrev pub row : Arm → Row
row m = record { a = m.offset.a; b = m.offset.b; w = m.w }
