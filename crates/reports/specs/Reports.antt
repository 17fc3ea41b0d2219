-- What the report of a sheet says.
use Rattle.std.specs.Prelude.{◌≡◌, ℕ, ◌<◌, List, [], ◌++◌, length, Some, None, codes}
use Rattle.cc.specs.declared.faults.Fault.{Fault}
use Rattle.models.specs.declared.places.Place.{Place}
use Rattle.systems.specs.Openings.{Starred, StarRefused}
use Rattle.sections.specs.Delaunay.{StarPairs}
use Rattle.sections.specs.Tapes.{Taped}
use Rattle.opening.specs.Opening.{Judged, system}
use Rattle.sheet.specs.Sheets.{Declines, Holds, Lists, Value}
use Rattle.sheet.specs.declared.Kind.{Kind}
use Rattle.sheet.specs.declared.Kind.TheVariants.{Points, FlatPoints, Network, Table}
use Rattle.reports.specs.Lines.{fault_line, kind_line, ring_line, round_lines, pair_lines, tape_line}
use Rattle.reports.specs.Layers.{Layered}

-- the star about mark 0: a line for each pair, or the refusal; nothing where there is no mark 0
pub data StarTold (ps : List Place) : List ℕ → Type 0 where
  no_centre : length ps ≡ 0 → StarTold ps []
  pairs : {l : List (ℕ × ℕ)} → Starred ps 0 → StarPairs ps 0 l → StarTold ps (pair_lines l)
  refused : (f : Fault) → 0 < length ps → StarRefused ps 0 f → StarTold ps (fault_line (codes "star\tno") f)

-- the length of a tape around the ring
pub data TapeTold (ps : List Place) (ring : List ℕ) : List ℕ → Type 0 where
  tape : {total : ℕ} → Taped ps ring total → TapeTold ps ring (tape_line total)

-- what follows the rounds: for points the star about mark 0, and the tape around the ring; for flat points the tape alone
pub data Sections : (k : Kind) → List (Value k) → List ℕ → List ℕ → Type 0 where
  of_points : {ps : List Place} {ring star tape : List ℕ} → StarTold ps star → TapeTold ps ring tape → Sections Points ps ring (star ++ tape)
  of_flat_points : {ps : List Place} {ring tape : List ℕ} → TapeTold ps ring tape → Sections FlatPoints ps ring tape
  of_network : {cs : List (Value Network)} {ring : List ℕ} → Sections Network cs ring []
  of_table : {ts : List (Value Table)} {ring : List ℕ} → Sections Table ts ring []

-- the report of a sheet's list: its refusal as a system, or the lines of the system that it means
pub data Told (k : Kind) (n : ℕ) (vs : List (Value k)) : List ℕ → Type 0 where
  refused : (f : Fault) → Judged k n vs (Some f) → Told k n vs (fault_line (codes "no") f)
  told : {ring rounds rest : List ℕ} → Judged k n vs None → Layered (system k n vs) ring rounds → Sections k vs ring rest
      → Told k n vs (kind_line k n ++ ring_line ring ++ round_lines rounds ++ rest)

-- the report of a text: its refusal as a sheet, whatever lists it were read into, or the report of its list
pub data Reports (text : List ℕ) : List ℕ → Type 0 where
  refused : (f : Fault) → ((room : Lists) → Declines text room f) → Reports text (fault_line (codes "no") f)
  told : {k : Kind} {n : ℕ} {vs : List (Value k)} {out : List ℕ} → Holds text k n vs → Told k n vs out → Reports text out

-- a text of which P holds was added at the end
abbrev pub Adds : (List ℕ → Type 0) → List ℕ → List ℕ → Type 0
Adds P before after = (text : List ℕ) × P text × (after ≡ before ++ text)

-- a text has one report
abbrev pub OneReport : Type 0
OneReport = (text out out' : List ℕ) → Reports text out → Reports text out' → out ≡ out'
