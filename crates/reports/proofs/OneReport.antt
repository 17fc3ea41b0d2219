-- A text has one report.
use Rattle.std.proofs.Common.{◌≡◌, ℕ, ◌≤◌, List, ◌++◌, length, Some, None, Ok, codes, sym, refl, ap, subst, ap₂, arith}
use Rattle.cc.specs.declared.faults.Fault.{Fault}
use Rattle.laws.specs.Systems.{Lawful}
use Rattle.laws.specs.First.{Never}
use Rattle.models.specs.declared.places.Place.{Place}
use Rattle.models.specs.Places.{plane}
use Rattle.models.specs.FlatPoints.{flat_points}
use Rattle.runs.specs.Calls.{RingOf}
use Rattle.runs.proofs.Standing.{ring_same}
use Rattle.runs.proofs.Decided.{entries_same}
use Rattle.systems.specs.Openings.{Starred, StarRefused}
use Rattle.systems.proofs.OneStarJudgement.{one_star_judgement}
use Rattle.sections.specs.Tapes.{Strange, Taped, TapeMeasured}
use Rattle.sections.proofs.Lengths.{one_tape_answer}
use Rattle.sections.proofs.OneStar.{one_list}
use Rattle.sheet.specs.Sheets.{Value}
use Rattle.sheet.specs.declared.Kind.{Kind}
use Rattle.sheet.specs.declared.Kind.TheVariants.{Points, FlatPoints, Network, Table}
use Rattle.reports.specs.Lines.{fault_line, kind_line, ring_line, round_lines, pair_lines, tape_line}
use Rattle.reports.specs.Layers.{first}
use Rattle.opening.specs.Opening.{system}
use Rattle.reports.specs.Reports.{StarTold, no_centre, pairs, TapeTold, tape, Sections, of_points, of_flat_points, of_network, of_table, Told, OneReport}
use Rattle.reports.specs.Reports as report
use Rattle.reports.proofs.Adding.{first_marks}
use Rattle.reports.proofs.Telling.{ring_of_marks}
use Rattle.opening.proofs.OneSheet.{not_refused, one_refusal, same_sheet}
use Rattle.opening.proofs.OneJudgement.{accepted_lawful, not_judged, one_judged}

pub not_starred : (ps : List Place) (c : ℕ) (f : Fault) → StarRefused ps c f → Starred ps c → ⊥
not_starred ps c f r s = let z : ◌≡◌ {A = ℕ} 0 1 = cc (one_star_judgement ps c (Some f) None r s) in omega arith

one_star : (ps : List Place) {out out' : List ℕ} → StarTold ps out → StarTold ps out' → out ≡ out'
one_star ps (no_centre e) (no_centre e') = refl
one_star ps (no_centre e) (pairs s a) = absurd (omega (arith, s.centre))
one_star ps (no_centre e) (report.refused f lt r) = absurd (omega arith)
one_star ps (pairs s a) (no_centre e) = absurd (omega (arith, s.centre))
one_star ps (pairs s a) (pairs s' b) = ap pair_lines (one_list ps 0 _ _ a b)
one_star ps (pairs s a) (report.refused f lt r) = absurd (not_starred ps 0 f r s)
one_star ps (report.refused f lt r) (no_centre e) = absurd (omega arith)
one_star ps (report.refused f lt r) (pairs s a) = absurd (not_starred ps 0 f r s)
one_star ps (report.refused f lt r) (report.refused g lt' r') = let e = one_star_judgement ps 0 (Some f) (Some g) r r' in ap (fault_line (codes "star\tno")) cc

-- around a ring of marks one length is told
one_tape : (ps : List Place) (ring : List ℕ) {out out' : List ℕ} → (length ring ≤ 128) × Never (length ring) (Strange ps ring) → TapeTold ps ring out → TapeTold ps ring out' → out ≡ out'
one_tape ps ring fits (tape {total = t} h) (tape {total = u} k) =
    let e = one_tape_answer ps ring (Ok t) (Ok u) (measured t h) (measured u k) in ap tape_line cc
  where
    measured : (total : ℕ) → Taped ps ring total → TapeMeasured ps ring total
    measured total taped = record { few = fits.0; marks = fits.1; taped = taped }

one_section : (k : Kind) (n : ℕ) (vs : List (Value k)) (ring : List ℕ) {out out' : List ℕ} → Lawful (system k n vs) → RingOf (system k n vs) (first (system k n vs).count) ring
    → Sections k vs ring out → Sections k vs ring out' → out ≡ out'
one_section Points n ps ring L r (of_points s t) (of_points s' t') = ap₂ ◌++◌ (one_star ps s s') (one_tape ps ring (ring_of_marks (plane ps) ps ring L refl r) t t')
one_section FlatPoints n ps ring L r (of_flat_points t) (of_flat_points t') = one_tape ps ring (ring_of_marks (flat_points ps) ps ring L refl r) t t'
one_section Network n cs ring L r of_network of_network = refl
one_section Table n ts ring L r of_table of_table = refl

one_told : (k : Kind) (n : ℕ) (vs : List (Value k)) {out out' : List ℕ} → Told k n vs out → Told k n vs out' → out ≡ out'
one_told k n vs (report.refused f h) (report.refused g j) = let e = one_judged k n vs (Some f) (Some g) h j in ap (fault_line (codes "no")) cc
one_told k n vs (report.refused f h) (report.told j a s) = absurd (not_judged k n vs f h j)
one_told k n vs (report.told j a s) (report.refused f h) = absurd (not_judged k n vs f h j)
one_told k n vs (report.told {ring = ring} {rest = rest} j a s) (report.told {ring = ring'} {rest = rest'} j' a' s') =
    let L = accepted_lawful k n vs j in
    let m = system k n vs in
    let marks = first_marks m in
    let same : ring ≡ ring' = ring_same L marks a.is_ring a'.is_ring in
    let rounds = entries_same L marks a.are_rounds a'.are_rounds in
    let more : rest ≡ rest' = one_section k n vs ring L a.is_ring s (subst (λ l. Sections k vs l rest') (sym same) s') in
    λ i. kind_line k n ++ ring_line (same i) ++ round_lines (rounds i) ++ more i

pub one_report : OneReport
one_report text out out' (report.refused f d) (report.refused g e) = ap (fault_line (codes "no")) (one_refusal text f g d e)
one_report text out out' (report.refused f d) (report.told {k = k} {n = n} {vs = vs} h t) = absurd (not_refused text k n vs f h d)
one_report text out out' (report.told {k = k} {n = n} {vs = vs} h t) (report.refused f d) = absurd (not_refused text k n vs f h d)
one_report text out out' (report.told {k = k} {n = n} {vs = vs} h t) (report.told {k = l} {n = m} {vs = ws} h' t') =
    one_told l m ws (same_sheet text (λ k n vs. Told k n vs out) k n vs l m ws h h' t) t'
