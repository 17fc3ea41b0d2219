use Rattle.std.proofs.Common.{length}
use Rattle.laws.specs.First.{NoPair, NoLast}
use Rattle.models.specs.Places.{Twins}
use Rattle.systems.proofs.geometry.twins.Given as goal

abbrev pub invariant-loop-i : goal.invariant-loop-i
invariant-loop-i l = NoPair (length l.places) (Twins l.places) l.i

abbrev pub invariant-loop-j : goal.invariant-loop-j
invariant-loop-j l = NoLast (Twins l.places l.i) l.i l.j
