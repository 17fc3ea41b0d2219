use Rattle.std.proofs.Common.{◌≡◌, ℕ, ◌<◌, length}
use Rattle.hull.specs.Records.{flagged, held}
use Rattle.hull.proofs.records.HullState.flags.Given as goal

abbrev pub invariant-loop-mark : goal.invariant-loop-mark
invariant-loop-mark l = record {
  long : length l.flags ≡ 128;
  so_far : (k : ℕ) → k < l.mark → flagged l.flags k ≡ held l.self.records k;
}
