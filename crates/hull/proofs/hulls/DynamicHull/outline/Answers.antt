use Rattle.std.proofs.Common.{sym, subst}
use Rattle.runs.specs.Calls.{RingOf}
use Rattle.hull.specs.Records.{held}
use Rattle.hull.proofs.Telling.{reads_by}
use Rattle.hull.proofs.hulls.DynamicHull.outline.Goals as goal

pub returns : goal.returns
returns g c =
    let h = c.args.self.now in
    let ring = c.deref.result.now in
    let is_ring = subst (RingOf (g.S.CcSystem.meaning h.system) (held h.state.records)) (sym c.deref.ensures.0) h.sound.is_ring in
    record { answer = reads_by ring c.args.list.now c.copy_front.new.list c.copy_front.result is_ring c.copy_front.ensures.copied }
