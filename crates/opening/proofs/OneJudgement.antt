-- A sheet's list is judged in one way.
use Rattle.std.proofs.Common.{◌≡◌, ℕ, List, Some, None, Option, arith}
use Rattle.cc.specs.declared.faults.Fault.{Fault}
use Rattle.laws.specs.Systems.{Lawful}
use Rattle.models.proofs.Plane.{lawful_plane}
use Rattle.models.proofs.FlatPoints.{flat_points_keep_the_laws}
use Rattle.models.proofs.Networked.{network_lawful_few}
use Rattle.systems.specs.Tables as table
use Rattle.systems.specs.Networks as network
use Rattle.systems.proofs.OneJudgement as points
use Rattle.systems.proofs.OneFlatJudgement as flat
use Rattle.systems.proofs.Refusing as crossings
use Rattle.systems.proofs.Judging as turns
use Rattle.sheet.specs.Sheets.{Value}
use Rattle.sheet.specs.declared.Kind.{Kind}
use Rattle.sheet.specs.declared.Kind.TheVariants.{Points, FlatPoints, Network, Table}
use Rattle.opening.specs.Opening.{Judged, system}

pub one_judged : (k : Kind) (n : ℕ) (vs : List (Value k)) (f g : Option Fault) → Judged k n vs f → Judged k n vs g → f ≡ g
one_judged Points n ps f g h j = points.one_judgement ps f g h j
one_judged FlatPoints n ps f g h j = flat.one_flat_judgement ps f g h j
one_judged Network n cs f g h j = crossings.one_judgement n cs f g h j
one_judged Table n ts f g h j = turns.one_judgement n ts f g h j

pub not_judged : (k : Kind) (n : ℕ) (vs : List (Value k)) (f : Fault) → Judged k n vs (Some f) → Judged k n vs None → ⊥
not_judged k n vs f h j = let z : ◌≡◌ {A = ℕ} 0 1 = cc (one_judged k n vs (Some f) None h j) in omega arith

-- where it is accepted, it means a system
pub accepted_lawful : (k : Kind) (n : ℕ) (vs : List (Value k)) → Judged k n vs None → Lawful (system k n vs)
accepted_lawful Points n ps h = lawful_plane ps ∣ h ∣₁
accepted_lawful FlatPoints n ps h = flat_points_keep_the_laws ps h
accepted_lawful Network n cs (network.accepted few net) = network_lawful_few n cs few net.legal
accepted_lawful Table n ts (table.accepted fits L) = L
