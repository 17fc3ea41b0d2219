-- A system with its units, and what it is for a system to be a layer over another.
use Rattle.std.specs.Prelude.{◌≡◌}
use Rattle.laws.specs.Systems.{Same}
use Rattle.laws.specs.Layers.{Layer, Metered, laid}
use Rattle.cc.specs.declared.CcSystem.{Ghosts}

-- what a system means, and its units
abbrev pub metered : {S : Type 0} → Ghosts S → S → Metered
metered c s = record { meaning = c.meaning s; units = c.units s }

-- the two are one system: the same marks, turns and units
pub record Alike (r r' : Metered) : Type 0 where
  pub system : Same r.meaning r'.meaning
  pub units : r.units ≡ r'.units

-- the second system is the layer over the first
abbrev pub IsLaid : Layer → Metered → Metered → Type 0
IsLaid l below above = Alike above (laid l below)
