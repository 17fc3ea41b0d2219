use Rattle.hull.specs.Rings.{listed}
use Rattle.hull.proofs.Telling.{empty_sound}
use Rattle.hull.proofs.hulls.DynamicHull.over.Goals as goal

pub invariant_of-result : goal.invariant_of-result
invariant_of-result g c =
    let state = c.empty.result in
    record { sound = empty_sound (g.S.CcSystem.meaning c.args.system) state.records (listed state.ring) c.empty.ensures.none c.empty.ensures.ring }
