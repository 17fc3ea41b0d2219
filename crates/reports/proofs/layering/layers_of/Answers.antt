use Rattle.std.proofs.Common.{◌≡◌, ◌∙◌, length, take, sym, ap, subst, subst₂}
use Rattle.hull.specs.Records.{held}
use Rattle.reports.specs.Layers.{Layered}
use Rattle.reports.proofs.Adding.{layered, rewritten, ring_fits, rounds_fit}
use Rattle.reports.proofs.layering.layers_of.Goals as goal

pub unreachable-requires : goal.unreachable-requires
unreachable-requires g c =
    let hull = c.full-hull.result in
    ring_fits (g.S.CcSystem.meaning hull.system) (held hull.state.records) c.full-hull.ensures.all _ c.outline.new.list c.in_default.field-0 (g.S.CcSystem.lawful hull.system)
    (ap length (c.deref_mut.ensures.value ∙ c.from-ring.ensures.0)) c.in_default.ensures.answer

pub unreachable-requires-in_default-rounds : goal.unreachable-requires-in_default-rounds
unreachable-requires-in_default-rounds g c =
    let hull = c.full-hull.result in
    rounds_fit (g.S.CcSystem.meaning hull.system) (held hull.state.records) _ c.rounds.new.list c.in_default-rounds.field-0 (g.S.CcSystem.lawful hull.system)
    (ap length (c.deref_mut-2.ensures.value ∙ c.from-rounds.ensures.0)) c.in_default-rounds.ensures.answer

pub returns-clause-layered : goal.returns-clause-layered
returns-clause-layered g c =
    let m = g.S.CcSystem.meaning in
    let hull = c.full-hull.result in
    let ring = c.outline.new.list in
    let rounds = c.rounds.new.list in
    let ring-is : c.truncate.new.self.items ≡ take c.in-Ok.len ring =
    c.truncate.ensures.items ∙ ap (take c.in-Ok.len) (rewritten _ ring (c.outline.auto.list ∙ ap length c.deref_mut.ensures.value)) in
    let rounds-is : c.truncate-2.new.self.items ≡ take (m hull.system).count rounds =
    c.truncate-2.ensures.items ∙ (λ i. take (c.count.ensures.count i) (rewritten _ rounds (c.rounds.auto.list ∙ ap length c.deref_mut-2.ensures.value) i)) in
    let layers = layered (m hull.system) (held hull.state.records) c.full-hull.ensures.all c.in-Ok.ensures.answer c.in-Ok-rounds.ensures.answer in
    subst (λ s. Layered (m s) c.truncate.new.self.items c.truncate-2.new.self.items) c.full-hull.ensures.system (subst₂ (Layered (m hull.system)) (sym ring-is) (sym rounds-is) layers)
