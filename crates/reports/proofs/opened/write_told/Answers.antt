use Rattle.std.proofs.Common.{◌++◌, string_bytes, refl, sym, subst₂, append-nil}
use Rattle.models.specs.FlatPoints.{flat_points}
use Rattle.models.specs.Places.{plane}
use Rattle.models.proofs.FlatPoints.{lawful_flat_points}
use Rattle.models.proofs.Plane.{lawful_plane}
use Rattle.runs.specs.Calls.{RingOf}
use Rattle.opening.specs.Opening.{meaning_of}
use Rattle.reports.specs.Layers.{first}
use Rattle.reports.proofs.Texts.{on_ok, two_writes}
use Rattle.reports.proofs.Telling.{flat_pointed, plain, pointed, ring_of_marks, told_with}
use Rattle.reports.proofs.opened.write_told.Goals as goal

pub write_tape-requires : goal.write_tape-requires
write_tape-requires c =
    let p = c.in-Points.points in
    let ring = subst₂ (λ o r. RingOf (meaning_of o) (first (meaning_of o).count) r) c.in-Points.is (sym c.deref.ensures.0) c.layers_of-layers.ensures.layered.is_ring in
    λ k. ((refl, tt), ring_of_marks (plane p.places.now) p.places.now c.deref.result.now (lawful_plane p.places.now p.good) refl ring)

pub write_tape-requires-in-FlatPoints : goal.write_tape-requires-in-FlatPoints
write_tape-requires-in-FlatPoints c =
    let p = c.in-FlatPoints.flat in
    let ring = subst₂ (λ o r. RingOf (meaning_of o) (first (meaning_of o).count) r) c.in-FlatPoints.is (sym c.deref-in-FlatPoints.ensures.0) c.layers_of-layers.ensures.layered.is_ring in
    λ k. ((refl, tt), ring_of_marks (flat_points p.places.now) p.places.now c.deref-in-FlatPoints.result.now (lawful_flat_points p.places.now p.distinct) refl ring)

pub returns-in_ok-write_star-in-Points : goal.returns-in_ok-write_star-in-Points
returns-in_ok-write_star-in-Points c =
    let o = c.args.system.now in
    let l = c.layers_of-layers.result in
    let (star, star-told, star-is) = c.in_ok-write_star-in-Points.ensures.told in
    record {
      told = on_ok c.write_tape.result
          (λ (tape, tape-told, tape-is). told_with o c.kind.result _ l.ring.items l.rounds.items (star ++ tape) _ (string_bytes c.write_layers.new.out) _ c.requires.accepted c.kind.ensures.kind c.layers_of-layers.ensures.count
          c.layers_of-layers.ensures.layered c.in_ok-write_layers.ensures.written (pointed o c.in-Points.points l.ring.items c.deref.result.now star tape c.in-Points.is c.deref.ensures.0 star-told tape-told)
          (two_writes (string_bytes c.write_layers.new.out) (string_bytes c.write_star.new.out) (string_bytes c.write_tape.new.out) star tape star-is tape-is))
          c.write_tape.ensures.told;
    }

pub returns-in-FlatPoints : goal.returns-in-FlatPoints
returns-in-FlatPoints c =
    let o = c.args.system.now in
    let l = c.layers_of-layers.result in
    record {
      told = on_ok c.write_tape-in-FlatPoints.result
          (λ (tape, tape-told, tape-is). told_with o c.kind.result _ l.ring.items l.rounds.items tape _ (string_bytes c.write_layers.new.out) _ c.requires.accepted c.kind.ensures.kind c.layers_of-layers.ensures.count
          c.layers_of-layers.ensures.layered c.in_ok-write_layers.ensures.written
          (flat_pointed o c.in-FlatPoints.flat l.ring.items c.deref-in-FlatPoints.result.now tape c.in-FlatPoints.is c.deref-in-FlatPoints.ensures.0 tape-told) tape-is)
          c.write_tape-in-FlatPoints.ensures.told;
    }

pub returns-in-Network : goal.returns-in-Network
returns-in-Network c =
    let o = c.args.system.now in
    let l = c.layers_of-layers.result in
    record {
      told = told_with o c.kind.result _ l.ring.items l.rounds.items _ _ (string_bytes c.write_layers.new.out) _ c.requires.accepted c.kind.ensures.kind c.layers_of-layers.ensures.count
          c.layers_of-layers.ensures.layered c.in_ok-write_layers.ensures.written (plain o l.ring.items c.in-Network.is) (sym (append-nil _));
    }

pub returns-in-Network-2 : goal.returns-in-Network-2
returns-in-Network-2 c =
    let o = c.args.system.now in
    let l = c.layers_of-layers.result in
    record {
      told = told_with o c.kind.result _ l.ring.items l.rounds.items _ _ (string_bytes c.write_layers.new.out) _ c.requires.accepted c.kind.ensures.kind c.layers_of-layers.ensures.count
          c.layers_of-layers.ensures.layered c.in_ok-write_layers.ensures.written (plain o l.ring.items c.in-Network.is) (sym (append-nil _));
    }
