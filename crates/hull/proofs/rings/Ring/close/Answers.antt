use Rattle.std.proofs.Common.{◌≡◌, ◌≢◌, T, get_or, sym, ap, ◌∙◌, subst, subst₂, arith}
use Rattle.hull.specs.Rings.{listed, Reached, Way}
use Rattle.hull.specs.Records.{flagged}
use Rattle.hull.proofs.OneLess.{open_first, open_last, open_more, way_few, way_first, way_head, way_more, way_reached, way_round}
use Rattle.hull.proofs.rings.Ring.close.Goals as goal

pub follower-next-requires-clause-reached : goal.follower-next-requires-clause-reached
follower-next-requires-clause-reached g c =
    let m = g.S.CcSystem.meaning c.args.system.now in
    let s = flagged c.args.flags.now in
    let o = c.requires.open in
    subst (Reached m s) (sym (open_last m s (listed c.args.self.now) c.deref-2.result.now c.len.result o c.deref-2.ensures.0 c.len.ensures.value)) (way_reached m s o.front o.last o.way)

pub follower-next-requires-clause-some : goal.follower-next-requires-clause-some
follower-next-requires-clause-some g c =
    let m = g.S.CcSystem.meaning c.args.system.now in
    let s = flagged c.args.flags.now in
    let o = c.requires.open in
    subst (λ y. T (s y)) (sym (open_first m s (listed c.args.self.now) c.deref.result.now o c.deref.ensures.0)) (way_first m s o.front o.last o.way)

pub follower-next-requires-clause-apart : goal.follower-next-requires-clause-apart
follower-next-requires-clause-apart g c =
    let m = g.S.CcSystem.meaning c.args.system.now in
    let s = flagged c.args.flags.now in
    let o = c.requires.open in
    let l = listed c.args.self.now in
    subst₂ (λ p q. p ≢ q) (sym (open_last m s l c.deref-2.result.now c.len.result o c.deref-2.ensures.0 c.len.ensures.value))
    (sym (open_first m s l c.deref.result.now o c.deref.ensures.0)) o.apart

pub loop-next-init : goal.loop-next-init
loop-next-init g c =
    let m = g.S.CcSystem.meaning c.args.system.now in
    let s = flagged c.args.flags.now in
    let o = c.requires.open in
    let l = listed c.args.self.now in
    record {
      way = open_more m s (g.S.CcSystem.lawful c.args.system.now) l _ c.follower-next.result o
          (open_last m s l c.deref-2.result.now c.len.result o c.deref-2.ensures.0 c.len.ensures.value) c.follower-next.ensures.arc;
      first = ap (λ y. get_or y 0 0) c.deref.ensures.0;
    }

pub push-requires : goal.push-requires
push-requires g c =
    let l = listed c.loop-next.self in
    let n = λ (e : c.loop-next.next ≡ get_or l 0 0). c.loop-next-test.true (e ∙ sym c.loop-next.invariant.first) in
    let i = way_few (g.S.CcSystem.meaning c.args.system.now) (flagged c.args.flags.now) (g.S.CcSystem.lawful c.args.system.now) c.requires.marks l c.loop-next.next c.loop-next.invariant.way n in
    (omega arith, i)

pub follower-next-requires-in-loop-next-clause-reached : goal.follower-next-requires-in-loop-next-clause-reached
follower-next-requires-in-loop-next-clause-reached g c =
    way_reached (g.S.CcSystem.meaning c.args.system.now) (flagged c.args.flags.now) (listed c.loop-next.self) c.loop-next.next c.loop-next.invariant.way

pub follower-next-requires-in-loop-next-clause-some : goal.follower-next-requires-in-loop-next-clause-some
follower-next-requires-in-loop-next-clause-some g c =
    let s = flagged c.args.flags.now in
    subst (λ y. T (s y)) (sym c.loop-next.invariant.first)
    (way_first (g.S.CcSystem.meaning c.args.system.now) s (listed c.loop-next.self) c.loop-next.next c.loop-next.invariant.way)

pub loop-next-smaller : goal.loop-next-smaller
loop-next-smaller g c =
    let l = listed c.loop-next.self in
    let n = λ (e : c.loop-next.next ≡ get_or l 0 0). c.loop-next-test.true (e ∙ sym c.loop-next.invariant.first) in
    let i = way_few (g.S.CcSystem.meaning c.args.system.now) (flagged c.args.flags.now) (g.S.CcSystem.lawful c.args.system.now) c.requires.marks l c.loop-next.next c.loop-next.invariant.way n in
    omega (arith, c.push.ensures.len)

pub loop-next-preserved : goal.loop-next-preserved
loop-next-preserved g c =
    let m = g.S.CcSystem.meaning c.args.system.now in
    let s = flagged c.args.flags.now in
    let l = listed c.loop-next.self in
    let q = c.loop-next.next in
    let w = c.loop-next.invariant.way in
    let n = λ (e : q ≡ get_or l 0 0). c.loop-next-test.true (e ∙ sym c.loop-next.invariant.first) in
    record {
      way = subst (λ k. Way m s k c.follower-next-in-loop-next.result) (sym c.push.ensures.items)
          (way_more m s (g.S.CcSystem.lawful c.args.system.now) l q c.follower-next-in-loop-next.result w n c.follower-next-in-loop-next.ensures.arc);
      first = c.loop-next.invariant.first ∙ sym (way_head m s l q q w) ∙ ap (λ k. get_or k 0 0) (sym c.push.ensures.items);
    }

pub returns : goal.returns
returns g c =
    record {
      round = way_round (g.S.CcSystem.meaning c.args.system.now) (flagged c.args.flags.now) (g.S.CcSystem.lawful c.args.system.now) c.requires.marks (listed c.loop-next.self) c.loop-next.next
          c.loop-next.invariant.way (c.loop-next-test.false ∙ c.loop-next.invariant.first);
    }
