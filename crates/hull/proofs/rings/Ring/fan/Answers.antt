use Rattle.std.proofs.Common.{ℕ, ◌+◌, ◌-◌, ◌/◌, ◌<◌, length, sym, subst, arith}
use Rattle.runs.specs.Calls.{Fan}
use Rattle.hull.specs.Rings.{Within}
use Rattle.hull.proofs.Fanning.{three_long, three_from, left_of_second, right_of_last, fan_at, goes_right, goes_left}
use Rattle.hull.proofs.rings.Ring.fan.Goals as goal

-- the middle of two places
middle_in : (low high n : ℕ) → 0 < low → low + 1 < high → high < n → (0 < low + (high - low) / 2) × (low < low + (high - low) / 2) × (low + (high - low) / 2 < high)
middle_in low high n a b c = (omega arith, omega arith, omega arith)

pub loop-low-init : goal.loop-low-init
loop-low-init g c =
    let l = c.deref.result.now in
    let L = g.S.CcSystem.lawful c.args.system.now in
    let w = subst (λ k. Within (g.S.CcSystem.meaning c.args.system.now) k c.args.x) (sym c.deref.ensures.0) c.requires.within in
    let long = three_long L l c.args.x w in
    record {
      same = c.deref.ensures.0;
      pos = omega arith;
      apart = omega arith;
      inside = omega arith;
      left = left_of_second L l c.args.x w;
      right = right_of_last L l c.args.x w (length l - 1) (omega arith);
    }

pub lies_right-requires : goal.lies_right-requires
lies_right-requires g c =
    let l = c.deref.result.now in
    let w = subst (λ k. Within (g.S.CcSystem.meaning c.args.system.now) k c.args.x) (sym c.deref.ensures.0) c.requires.within in
    let i = c.loop-low.invariant in
    let (pos, p, q) = middle_in c.loop-low.low c.loop-low.high (length l) i.pos c.loop-low-test.true i.inside in
    record { three = three_from (g.S.CcSystem.lawful c.args.system.now) l c.args.x w (c.loop-low.low + (c.loop-low.high - c.loop-low.low) / 2) pos (omega arith) }

pub loop-low-preserved-then-lies_right : goal.loop-low-preserved-then-lies_right
loop-low-preserved-then-lies_right g c =
    let l = c.deref.result.now in
    let w = subst (λ k. Within (g.S.CcSystem.meaning c.args.system.now) k c.args.x) (sym c.deref.ensures.0) c.requires.within in
    let i = c.loop-low.invariant in
    let (pos, p, q) = middle_in c.loop-low.low c.loop-low.high (length l) i.pos c.loop-low-test.true i.inside in
    record {
      same = i.same;
      pos = i.pos;
      apart = p;
      inside = omega arith;
      left = i.left;
      right = goes_right (g.S.CcSystem.lawful c.args.system.now) l c.args.x w (c.loop-low.low + (c.loop-low.high - c.loop-low.low) / 2) pos (omega arith) (sym c.if-lies_right.ensures.right);
    }

pub loop-low-preserved : goal.loop-low-preserved
loop-low-preserved g c =
    let l = c.deref.result.now in
    let w = subst (λ k. Within (g.S.CcSystem.meaning c.args.system.now) k c.args.x) (sym c.deref.ensures.0) c.requires.within in
    let i = c.loop-low.invariant in
    let (pos, p, q) = middle_in c.loop-low.low c.loop-low.high (length l) i.pos c.loop-low-test.true i.inside in
    record {
      same = i.same;
      pos = pos;
      apart = q;
      inside = i.inside;
      left = goes_left (g.S.CcSystem.lawful c.args.system.now) l c.args.x w (c.loop-low.low + (c.loop-low.high - c.loop-low.low) / 2) pos (omega arith) (sym c.if-lies_right.ensures.right);
      right = i.right;
    }

pub returns : goal.returns
returns g c =
    let m = g.S.CcSystem.meaning c.args.system.now in
    let l = c.deref.result.now in
    let w = subst (λ k. Within m k c.args.x) (sym c.deref.ensures.0) c.requires.within in
    let i = c.loop-low.invariant in
    record { fan = subst (Fan m c.args.x _ _) c.deref.ensures.0 (fan_at (g.S.CcSystem.lawful c.args.system.now) l c.args.x w c.loop-low.low c.loop-low.high i.pos (omega (arith, c.loop-low-test.false)) i.inside i.left i.right) }
