use Rattle.std.proofs.Common.{◌≡◌, None}
use Rattle.laws.specs.First.{NoTriple, NoMiddle, NoLast}
use Rattle.systems.proofs.searches.first_three.Given as goal

abbrev pub invariant-loop-k : goal.invariant-loop-k
invariant-loop-k g l = (l.found ≡ None) × NoLast (g.P.OfThree.property l.property l.i l.j) l.j l.k

abbrev pub invariant-loop-j : goal.invariant-loop-j
invariant-loop-j g l = (l.found ≡ None) × NoMiddle l.n (g.P.OfThree.property l.property) l.i l.j

abbrev pub invariant-search : goal.invariant-search
invariant-search g l = (l.found ≡ None) × NoTriple l.n (g.P.OfThree.property l.property) l.i
