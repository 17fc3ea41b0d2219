-- How a list of places is judged that is opened as flat points.
use Rattle.std.specs.Prelude.{◌≡◌, ◌≢◌, List, Some, None, Option}
use Rattle.cc.specs.Refusals.{number}
use Rattle.cc.specs.declared.faults.Fault.{Fault}
use Rattle.models.specs.declared.places.Place.{Place}
use Rattle.models.specs.FlatPoints.{Distinct}
use Rattle.systems.specs.Openings as points

-- why the list is refused: for what it is refused for as points, but never for three on a line, which is refusal 5
abbrev pub Refused : List Place → Fault → Type 0
Refused ps f = points.Refused ps f × (number f ≢ 5)

-- the places are distinct, and the list is accepted, or it is refused for the fault
abbrev pub Judged : List Place → Option Fault → Type 0
Judged ps None = Distinct ps
Judged ps (Some f) = Refused ps f

-- each list of places is judged in one way, and in no other
abbrev pub OneJudgement : Type 0
OneJudgement = (ps : List Place) (f g : Option Fault) → Judged ps f → Judged ps g → f ≡ g
