use Rattle.runs.specs.Calls.{RingOf}
use Rattle.hull.specs.Rings.{listed}
use Rattle.hull.specs.Records.{flagged, below}
use Rattle.hull.proofs.outlining.outline_of.Given as goal

abbrev pub invariant-loop-mark : goal.invariant-loop-mark
invariant-loop-mark g l = RingOf (g.S.CcSystem.meaning l.system) (below (flagged l.flags) l.mark) (listed l.ring)
