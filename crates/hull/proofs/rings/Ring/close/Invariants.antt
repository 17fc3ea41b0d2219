use Rattle.std.proofs.Common.{◌≡◌, ◌-◌, length, get_or}
use Rattle.hull.specs.Rings.{listed, Way}
use Rattle.hull.specs.Records.{flagged}
use Rattle.hull.proofs.rings.Ring.close.Given as goal

abbrev pub invariant-loop-next : goal.invariant-loop-next
invariant-loop-next g l =
    record {
      way : Way (g.S.CcSystem.meaning l.system) (flagged l.flags) (listed l.self) l.next;
      first : l.first ≡ get_or (listed l.self) 0 0;
    }

abbrev pub decreases-loop-next : goal.decreases-loop-next
decreases-loop-next g l = 128 - length (listed l.self)
