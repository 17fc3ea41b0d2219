-- The report of an opened system, put together from what was written.
use Rattle.std.proofs.Common.{◌≡◌, ℕ, zero, suc, ◌<◌, ◌≤◌, ◌⊎◌, List, [], ◌++◌, length, None, codes, sym, refl, ap, ◌∙◌, subst, inl, inr, append_assoc, arith, ltb→lt}
use Rattle.cc.specs.declared.faults.Fault.{Fault}
use Rattle.laws.specs.Systems.{Meaning, Lawful}
use Rattle.laws.specs.First.{Never}
use Rattle.models.specs.declared.places.Place.{Place}
use Rattle.runs.specs.Calls.{RingOf}
use Rattle.runs.proofs.Standing.{ring_in}
use Rattle.systems.specs.Openings.{StarRefused}
use Rattle.sections.specs.Delaunay.{StarPairs, StarDeclined, pair, refused, tight}
use Rattle.sections.specs.Tapes.{Strange, TapeRefused}
use Rattle.sheet.specs.declared.Kind.{Kind}
use Rattle.reports.specs.Lines.{fault_line, kind_line, ring_line, round_lines}
use Rattle.reports.specs.Layers.{first, Layered}
use Rattle.systems.specs.declared.points.Points.{Points}
use Rattle.systems.specs.declared.flat_points.FlatPoints.{FlatPoints}
use Rattle.systems.specs.declared.networks.ReflectionNetwork.{ReflectionNetwork}
use Rattle.systems.specs.declared.tables.TurnTable.{TurnTable}
use Rattle.opening.specs.declared.opened.Opened.{Opened}
use Rattle.opening.specs.declared.opened.Opened.TheVariants as opened
use Rattle.opening.specs.Opening.{Judged, Opens, Refused, count_of, kind_of, meaning_of, unopened, unread, values_of}
use Rattle.reports.specs.Reports as report
use Rattle.reports.proofs.Texts.{from_empty}
use Rattle.reports.specs.Reports.{Adds, Reports, Sections, StarTold, TapeTold, Told, of_flat_points, of_network, of_points, of_table, told}
use Rattle.reports.proofs.Adding.{ring_few}

-- the first points of a star's pairs rise, so there are no more pairs than points
climbs : (ps : List Place) (c : ℕ) (l : List (ℕ × ℕ)) → StarPairs ps c l → (k : ℕ) → k < length l → k ≤ (pair l k).0
climbs ps c l s zero lt = omega arith
climbs ps c l s (suc k) lt = let i = climbs ps c l s k (omega arith) in let j = s.rising k (suc k) (omega arith) lt in omega arith

pairs_few : (ps : List Place) (c : ℕ) (l : List (ℕ × ℕ)) → StarPairs ps c l → length ps < length l → ⊥
pairs_few ps c l s lt = let i = climbs ps c l s (length ps) lt in let j = (s.each (length ps) lt).turns.three.q_in in omega arith

-- a list of 128 pairs is long enough for every star
pub star_fits : (ps : List Place) (c : ℕ) (f : Fault) → length ps ≤ 128 → StarDeclined ps c 128 f → StarRefused ps c f
star_fits ps c f small (refused r) = r
star_fits ps c f small (tight {l = l} _ s lt) = absurd (pairs_few ps c l s (omega arith))

-- the ring of all marks of a system, whose marks are places, has at most 128 entries, and all of them are marks
pub ring_of_marks : (m : Meaning) (ps : List Place) (ring : List ℕ) → Lawful m → m.count ≡ length ps → RingOf m (first m.count) ring
    → (length ring ≤ 128) × Never (length ring) (Strange ps ring)
ring_of_marks m ps ring L many r =
    let few = ring_few m ring r in
    let limit = L.limit in (
      omega arith,
      λ i lt strange. let under = ltb→lt _ m.count (ring_in L r (i, lt, refl)) in omega arith,
    )

-- around such a ring a tape is not refused
pub tape_fits : (ps : List Place) (ring : List ℕ) (f : Fault) → length ring ≤ 128 → Never (length ring) (Strange ps ring) → TapeRefused ps ring f → ⊥
tape_fits ps ring f few marks h = let s = h.strange few in marks s.at s.first.within s.first.holds

-- the count that is told is that of the system
counted : (o : Opened) → (meaning_of o).count ≡ count_of o
counted (opened.Points p) = refl
counted (opened.FlatPoints p) = refl
counted (opened.Network w) = refl
counted (opened.Table t) = refl

-- a network and a table have no more lines than those of their layers
pub plain : (o : Opened) (ring : List ℕ) → ((w : ReflectionNetwork) × (o ≡ opened.Network w)) ⊎ ((t : TurnTable) × (o ≡ opened.Table t)) → Sections (kind_of o) (values_of o) ring []
plain o ring (inl (w, is)) = subst (λ o. Sections (kind_of o) (values_of o) ring []) (sym is) of_network
plain o ring (inr (t, is)) = subst (λ o. Sections (kind_of o) (values_of o) ring []) (sym is) of_table

-- the layers of a system, and what follows them
pub told_with : (o : Opened) (kind : Kind) (n : ℕ) (ring rounds rest before after last : List ℕ) → Judged (kind_of o) (count_of o) (values_of o) None → kind ≡ kind_of o → n ≡ (meaning_of o).count
    → Layered (meaning_of o) ring rounds → after ≡ before ++ (kind_line kind n ++ ring_line ring ++ round_lines rounds) → Sections (kind_of o) (values_of o) ring rest → last ≡ after ++ rest
    → Adds (Told (kind_of o) (count_of o) (values_of o)) before last
told_with o kind n ring rounds rest before after last judged kinds many layered written sections more = (
  kind_line (kind_of o) (count_of o) ++ ring_line ring ++ round_lines rounds ++ rest,
  told judged layered sections,
  more ∙ ap (λ l. l ++ rest) written ∙ append_assoc before (kind_line kind n ++ ring_line ring ++ round_lines rounds) rest
      ∙ (λ i. before ++ (kind_line (kinds i) ((many ∙ counted o) i) ++ ring_line ring ++ round_lines rounds ++ rest)),
)

-- the star and the tape of a system of points
pub pointed : (o : Opened) (p : Points) (ring ring' star tape : List ℕ) → o ≡ opened.Points p → ring' ≡ ring → StarTold p.places.now star → TapeTold p.places.now ring' tape
    → Sections (kind_of o) (values_of o) ring (star ++ tape)
pointed o p ring ring' star tape is same s t =
    subst (λ o. Sections (kind_of o) (values_of o) ring (star ++ tape)) (sym is) (of_points s (subst (λ r. TapeTold p.places.now r tape) same t))

-- the tape of a system of flat points
pub flat_pointed : (o : Opened) (p : FlatPoints) (ring ring' tape : List ℕ) → o ≡ opened.FlatPoints p → ring' ≡ ring → TapeTold p.places.now ring' tape → Sections (kind_of o) (values_of o) ring tape
flat_pointed o p ring ring' tape is same t =
    subst (λ o. Sections (kind_of o) (values_of o) ring tape) (sym is) (of_flat_points (subst (λ r. TapeTold p.places.now r tape) same t))

-- a text that is refused
pub refusal_reported : (text : List ℕ) (f : Fault) (before after : List ℕ) → Refused text f → before ≡ [] → after ≡ before ++ fault_line (codes "no") f → Reports text after
refusal_reported text f before after h empty is = subst (Reports text) (sym (from_empty before after _ empty is)) (of h)
  where
    of : {f : Fault} → Refused text f → Reports text (fault_line (codes "no") f)
    of (unread declined) = report.Reports.refused _ declined
    of (unopened holds judged) = report.Reports.told holds (report.Told.refused _ judged)

-- a system that is told
pub system_reported : (text : List ℕ) (o : Opened) (before after : List ℕ) → Opens text o → before ≡ [] → Adds (Told (kind_of o) (count_of o) (values_of o)) before after → Reports text after
system_reported text o before after opens empty (part, all, is) =
    subst (Reports text) (sym (from_empty before after part empty is)) (report.Reports.told opens.holds all)
