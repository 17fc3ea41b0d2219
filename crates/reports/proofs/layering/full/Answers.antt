use Rattle.std.proofs.Common.{◌≡◌, ◌∙◌, sym, ap, arith}
use Rattle.hull.specs.Records.{held}
use Rattle.reports.proofs.Adding.{add_more}
use Rattle.reports.proofs.layering.full.Goals as goal

pub loop-mark-preserved : goal.loop-mark-preserved
loop-mark-preserved g c =
    let m = g.S.CcSystem.meaning in
    let old = c.loop-mark.hull in
    let new = c.add.new.self in
    let (system, end, all) = c.loop-mark.invariant in (
      c.add.ensures.system ∙ system,
      end ∙ ap (λ s. (m s).count) (sym c.add.ensures.system),
      add_more (m old.system) (held old.state.records) (held new.state.records) _ c.add.result (new.state ≡ old.state) all (omega (arith, end, c.loop-mark-test.true)) c.add.ensures.answer c.add.ensures.marks,
    )
