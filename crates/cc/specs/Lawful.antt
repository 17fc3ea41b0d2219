-- A mirror keeps the laws, and a layer the limit of units. It is proved here, where `src/` can cite it.
use Rattle.std.specs.Prelude.{ℕ, ◌≤◌, Some, None, Option, refl}
use Rattle.laws.specs.Systems.{Lawful}
use Rattle.laws.specs.Layers.{Metered}
use Rattle.laws.proofs.Mirrors.{mirror_lawful}
use Rattle.laws.proofs.Piles.{empty_lawful}
use Rattle.cc.specs.declared.faults.Fault.{Fault}
use Rattle.cc.specs.Units.{WithinLimit, mirror_over, raised_units}

pub mirror_over_lawful :
    (o : Option Fault) (r : Metered)
    → Lawful r.meaning
    → Lawful (mirror_over o r).meaning
mirror_over_lawful None r L = mirror_lawful L
mirror_over_lawful (Some f) r L = empty_lawful (mirror_over (Some f) r).meaning refl

pub raised_light :
    (o : Option Fault) (k u : ℕ)
    → WithinLimit o k u
    → u ≤ 1000
    → raised_units o k u ≤ 1000
raised_light None k u h few = h refl
raised_light (Some f) k u h few = few
