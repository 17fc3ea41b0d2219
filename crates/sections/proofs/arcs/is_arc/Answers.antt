use Rattle.std.proofs.Common.{refl, rules, tests}
use Rattle.std.proofs.Math.Nat.{sub-zero}
use Rattle.std.proofs.lemmas.Iterator.{cases_from_all, YieldsList-from_range}
use Rattle.sections.proofs.Tested.{IsLeft, IsNotLeft, arc_by}
use Rattle.sections.proofs.arcs.is_arc.Goals as goal

pub returns-then-p-q : goal.returns-then-p-q
returns-then-p-q g c =
    let m = g.S.CcSystem.meaning c.args.system.now in
    let p = c.args.p in
    let q = c.args.q in
    record {
      arc = arc_by m p q c.count.result c.all.result c.count.ensures.marks c.requires.from c.requires.to c.if-p-q.true
          (cases_from_all _ _ _ (IsLeft m p q) (IsNotLeft m p q) c.all.ensures.ran (YieldsList-from_range 0 c.count.result c.count.result refl (sub-zero c.count.result)) (λ x s k. search (rules, tests)) (λ x s k. search (rules, tests)));
    }
