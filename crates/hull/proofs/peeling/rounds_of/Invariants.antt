use Rattle.hull.specs.Records.{flagged}
use Rattle.hull.proofs.Layers.{Peeling}
use Rattle.hull.proofs.peeling.rounds_of.Given as goal

abbrev pub invariant-loop-round : goal.invariant-loop-round
invariant-loop-round g l = Peeling (g.S.CcSystem.meaning l.system) (flagged l.fn.flags) (flagged l.flags) l.fn.entries l.entries l.round
