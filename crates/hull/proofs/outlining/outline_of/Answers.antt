use Rattle.std.proofs.Common.{◌≡◌, ◌+◌, ◌<◌, ◌≤◌, T, false, take, get_or, sym, ◌∙◌, subst, arith, get_or-take}
use Rattle.std.proofs.lemmas.Grind.{common_steps}
use Rattle.runs.specs.Calls.{RingOf}
use Rattle.hull.specs.Rings.{listed}
use Rattle.hull.specs.declared.rings.Ring.{Ring}
use Rattle.hull.specs.Records.{flagged, below}
use Rattle.hull.proofs.Below.{below_in, below_none, below_more, below_skip, below_all}
use Rattle.hull.proofs.outlining.outline_of.Goals as goal
use Rattle.hull.proofs.outlining.outline_of.Goals.{then-is_in, else-is_in}

pub loop-mark-init : goal.loop-mark-init
loop-mark-init g c =
    let m = g.S.CcSystem.meaning c.args.system.now in
    let s = flagged c.args.flags.now in
    subst (RingOf m (below s 0)) (sym c.empty-ring.ensures.none) (below_none s m)

pub loop-mark-preserved : goal.loop-mark-preserved
loop-mark-preserved g c =
    let m = g.S.CcSystem.meaning c.args.system.now in
    let s = flagged c.args.flags.now in
    let p = c.loop-mark.mark in
    let h : p < c.count.result = grind (arith, common_steps, c.loop-mark-test.true) in
    let flag_is : get_or (take c.count.result c.args.flags.now) p false ≡ s p = get_or-take c.count.result c.args.flags.now p false h in
    elim c.if-is_in.branch [
      | then-is_in w ↦
          subst (λ (r : Ring). RingOf m (below s (p + 1)) (listed r)) (sym w.ring-is)
          (w.grow-ring.ensures.grows (below s p) (below s (p + 1)) (λ q k. c.requires.marks q (below_in s p q k).0) c.loop-mark.invariant (below_more s p (subst T (sym w.if-is_in.true ∙ flag_is) tt)))
      | else-is_in w ↦
          subst (λ (r : Ring). RingOf m (below s (p + 1)) (listed r)) (sym w.ring-is)
          (subst (λ t. RingOf m t (listed c.loop-mark.ring)) (below_skip s p (sym flag_is ∙ w.if-is_in.false)) c.loop-mark.invariant)
    ]

pub returns : goal.returns
returns g c =
    let m = g.S.CcSystem.meaning c.args.system.now in
    let s = flagged c.args.flags.now in
    let all : m.count ≤ c.loop-mark.mark = grind (arith, common_steps, c.loop-mark-test.false, c.count.ensures.marks, (g.S.CcSystem.lawful c.args.system.now).limit) in
    record { ring = subst (λ t. RingOf m t (listed c.loop-mark.ring)) (below_all s m c.requires.marks c.loop-mark.mark all) c.loop-mark.invariant }
