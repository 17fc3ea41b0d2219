use Rattle.std.proofs.Common.{rules}
use Rattle.std.proofs.lemmas.Iterator.{first_from_Range}
use Rattle.laws.specs.Outlines.{Arc}
use Rattle.sections.specs.Delaunay.{AllOf}
use Rattle.sections.proofs.Tested.{first_arc}
use Rattle.sections.proofs.arcs.arc_from.Goals as goal

pub returns : goal.returns
returns g c =
    let m = g.S.CcSystem.meaning c.args.system.now in
    record {
      arc = first_arc m c.args.p c.count.result c.find.result c.count.ensures.marks
          (first_from_Range _ _ _ c.find.result (Arc m (AllOf m) c.args.p) (λ q. Arc m (AllOf m) c.args.p q → ⊥) c.find.ensures.ran (λ x s k. search rules) (λ x s k. search rules));
    }
