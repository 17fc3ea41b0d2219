use Rattle.laws.specs.Theorems.{of}
use Rattle.laws.proofs.Departures.{Ahead}
use Rattle.hull.specs.Records.{flagged}
use Rattle.hull.proofs.shrinking.follower.Given as goal

abbrev pub invariant-loop-mark : goal.invariant-loop-mark
invariant-loop-mark g l = Ahead (g.S.CcSystem.meaning l.system) (of (flagged l.flags)) l.mark l.p l.first
