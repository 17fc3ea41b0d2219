use Rattle.std.proofs.Common.{◌≡◌, ◌+◌, ◌<◌, T, false, take, get_or, sym, ◌∙◌, subst, arith, get_or-take}
use Rattle.std.proofs.lemmas.Grind.{common_steps}
use Rattle.laws.specs.Theorems.{of}
use Rattle.laws.proofs.Departures.{Ahead, ahead_kept, ahead_new}
use Rattle.hull.specs.Rings.{ComesBefore}
use Rattle.hull.specs.Records.{flagged}
use Rattle.hull.proofs.shrinking.follower.Goals as goal
use Rattle.hull.proofs.shrinking.follower.Goals.{then-is_in+then-comes_before, else-is_in, else-is_in-via-then-is_in+else-comes_before, else-is_in-via-else-is_in}

pub loop-mark-preserved : goal.loop-mark-preserved
loop-mark-preserved g c =
    let m = g.S.CcSystem.meaning c.args.system.now in
    let L = g.S.CcSystem.lawful c.args.system.now in
    let s = flagged c.args.flags.now in
    let p = c.args.p in
    let q = c.loop-mark.first in
    let x = c.loop-mark.mark in
    let h : x < c.count.result = grind (arith, common_steps, c.loop-mark-test.true) in
    let flag_is : get_or (take c.count.result c.args.flags.now) x false ≡ s x = get_or-take c.count.result c.args.flags.now x false h in
    elim c.if-is_in.branch [
      | then-is_in+then-comes_before w ↦
          subst (Ahead m (of s) (x + 1) p) (sym w.first-is)
          (ahead_new L c.requires.reached.1 c.loop-mark.invariant (subst T (sym w.if-is_in.true ∙ flag_is) tt)
          (subst (ComesBefore m p q x) w.if-comes_before.true w.comes_before.ensures.before))
      | else-is_in w ↦
          subst (Ahead m (of s) (x + 1) p) (sym w.first-is)
          (elim w.else-is_in.branch [
            | else-is_in-via-then-is_in+else-comes_before v ↦
                ahead_kept c.loop-mark.invariant (λ _. subst (ComesBefore m p q x) v.if-comes_before.false v.comes_before.ensures.before)
            | else-is_in-via-else-is_in v ↦ ahead_kept c.loop-mark.invariant (λ k. absurd (subst T (sym flag_is ∙ v.if-is_in.false) k))
          ])
    ]
