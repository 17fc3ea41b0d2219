use Rattle.std.proofs.Common.{◌+◌, sym, ap, ◌∙◌, subst, arith}
use Rattle.arrayvec.specs.ArrayVec.{array_vec_len}
use Rattle.models.specs.Stars.{other}
use Rattle.models.proofs.Plane.{good}
use Rattle.sections.specs.Delaunay.{Delaunay}
use Rattle.sections.proofs.Facing.{one_pair_each}
use Rattle.sections.proofs.Pairs.{PairsBelow, pairs_pass, pairs_add}
use Rattle.sections.proofs.delaunay.Centre.pairs.Goals as goal
use Rattle.sections.proofs.delaunay.Centre.pairs.Goals.{in-Some, in_default}

pub loop-i-preserved : goal.loop-i-preserved
loop-i-preserved c =
    let s = c.args.self.now in
    let ps = s.points.places.now in
    let o = s.mark in
    let i = c.loop-i.i in
    elim c.match-pair.branch [
      | in-Some w ↦
          let x = w.in-Some.ensures.pair in
          let items = ap (λ v. v.items) w.pairs-is ∙ w.push.ensures.items in
          record {
            few = omega (arith, ap array_vec_len w.pairs-is, w.push.ensures.len, c.loop-i.invariant.few);
            below =
                subst (PairsBelow ps o (other o (i + 1))) (sym items)
                (pairs_add ps o i _ w.in-Some.pair c.loop-i.invariant.below x.0 x.1
                (λ q d. one_pair_each ps o (other o i) w.in-Some.pair.1 q (good ps s.points.good) s.starred (subst (λ p. Delaunay ps o p w.in-Some.pair.1) x.0 x.1) d));
          }
      | in_default w ↦
          record {
            few = omega (arith, ap array_vec_len w.pairs-is, c.loop-i.invariant.few);
            below = subst (PairsBelow ps o (other o (i + 1))) (sym (ap (λ v. v.items) w.pairs-is)) (pairs_pass ps o i _ c.loop-i.invariant.below w.in_default.ensures.pair);
          }
    ]
