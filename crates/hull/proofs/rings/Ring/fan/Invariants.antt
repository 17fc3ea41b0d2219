use Rattle.std.proofs.Common.{◌≡◌, ◌-◌, ◌<◌, length, get_or}
use Rattle.laws.specs.Systems.{Left}
use Rattle.hull.proofs.rings.Ring.fan.Given as goal

abbrev pub invariant-loop-low : goal.invariant-loop-low
invariant-loop-low g l =
    let m = g.S.CcSystem.meaning l.system in
    record {
      same : l.marks ≡ l.self.marks.items;
      pos : 0 < l.low;
      apart : l.low < l.high;
      inside : l.high < length l.marks;
      left : Left m (get_or l.marks 0 0) (get_or l.marks l.low 0) l.x;
      right : Left m (get_or l.marks 0 0) l.x (get_or l.marks l.high 0);
    }

abbrev pub decreases-loop-low : goal.decreases-loop-low
decreases-loop-low g l = l.high - l.low
