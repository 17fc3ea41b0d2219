use Rattle.std.proofs.Common.{◌≡◌, ℕ, ◌<◌, get_or}
use Rattle.hull.specs.Rings.{listed}
use Rattle.hull.specs.Records.{held}
use Rattle.hull.proofs.Links.{LinkAt}
use Rattle.hull.proofs.records.HullState.settle.Given as goal

abbrev pub invariant-loop-position : goal.invariant-loop-position
invariant-loop-position l = record {
  mark : l.mark ≡ get_or (listed l.fn.ring) l.position 0;
  linked : (k : ℕ) → k < l.position → LinkAt l.self.records (listed l.fn.ring) k;
  held : (p : ℕ) → held l.self.records p ≡ held l.fn.self.records p;
}
