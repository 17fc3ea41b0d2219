use Rattle.std.proofs.Common.{◌≡◌}
use Rattle.hull.specs.Records.{held}
use Rattle.reports.specs.Layers.{first}
use Rattle.reports.proofs.layering.full.Given as goal

abbrev pub invariant-loop-mark : goal.invariant-loop-mark
invariant-loop-mark g l = (l.hull.system ≡ l.fn.system) × (l.mark-end ≡ (g.S.CcSystem.meaning l.hull.system).count) × (held l.hull.state.records ≡ first l.mark)
