use Rattle.std.proofs.Common.{◌≤◌}
use Rattle.arrayvec.specs.ArrayVec.{array_vec_len}
use Rattle.models.specs.Stars.{other}
use Rattle.sections.proofs.Pairs.{PairsBelow}
use Rattle.sections.proofs.delaunay.Centre.pairs.Given as goal

abbrev pub invariant-loop-i : goal.invariant-loop-i
invariant-loop-i l =
    record { few : array_vec_len l.pairs ≤ l.i; below : PairsBelow l.self.points.places.now l.self.mark (other l.self.mark l.i) l.pairs.items }
