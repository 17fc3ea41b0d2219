-- The crossing at t swaps two wires of which the upper has the smaller number, and its entry is noted for them.
use Rattle.std.proofs.Common.{◌+◌, [], length, replicate, get_or, refl, ap, arith, rules, length-set, below_more}
use Rattle.std.proofs.lemmas.List.{get_or-replicate}
use Rattle.systems.specs.Networks.{accepted, recrossed}
use Rattle.models.proofs.Networked.{all_cross}
use Rattle.systems.proofs.Following.{swapped, stand_more, rows_more, noted_more}
use Rattle.systems.proofs.networks.Crossings.times.Goals as goal

pub offset_bounds-times-upper : goal.offset_bounds-times-upper
offset_bounds-times-upper c =
    let h = swapped c.args.self.now.count c.args.self.now.list.now c.loop-t.t c.loop-t.wires c.requires.in_range c.loop-t-test.true c.loop-t.invariant.3 in
    omega arith

pub offset_bounds-times-lower : goal.offset_bounds-times-lower
offset_bounds-times-lower c =
    let h = swapped c.args.self.now.count c.args.self.now.list.now c.loop-t.t c.loop-t.wires c.requires.in_range c.loop-t-test.true c.loop-t.invariant.3 in
    omega arith

pub bounds-times-upper : goal.bounds-times-upper
bounds-times-upper c =
    let h = swapped c.args.self.now.count c.args.self.now.list.now c.loop-t.t c.loop-t.wires c.requires.in_range c.loop-t-test.true c.loop-t.invariant.3 in
    omega arith

pub bounds-times-lower : goal.bounds-times-lower
bounds-times-lower c =
    let h = swapped c.args.self.now.count c.args.self.now.list.now c.loop-t.t c.loop-t.wires c.requires.in_range c.loop-t-test.true c.loop-t.invariant.3 in
    omega arith

pub loop-t-init : goal.loop-t-init
loop-t-init c = (
  c.start-wires.ensures.long,
  refl,
  λ i h. ap length (get_or-replicate 32 i (replicate 32 0) [] h),
  λ p h. c.start-wires.ensures.wires p (let few = c.args.self.now.few in omega arith),
  λ s h. absurd (omega arith),
  λ legal i j x y h. absurd (omega arith),
)

pub loop-t-preserved : goal.loop-t-preserved
loop-t-preserved c =
    let cs = c.args.self.now.list.now in
    let t = c.loop-t.t in
    let few = c.args.self.now.few in
    let range = c.requires.in_range t c.loop-t-test.true in
    let u = get_or c.loop-t.wires (get_or cs t 0) 0 in
    let l = get_or c.loop-t.wires (get_or cs t 0 + 1) 0 in
    let h = swapped c.args.self.now.count cs t c.loop-t.wires c.requires.in_range c.loop-t-test.true c.loop-t.invariant.3 in (
      omega arith,
      simp length-set c.loop-t.invariant.1,
      rows_more c.loop-t.times u l t (omega arith) c.loop-t.invariant.2,
      stand_more c.args.self.now.count cs t c.loop-t.wires c.swap.new.self range c.loop-t.invariant.3 c.swap.ensures.by_index,
      below_more _ _ c.loop-t.invariant.4 (omega arith),
      λ legal.
          noted_more c.args.self.now.count cs t c.loop-t.times u l h.is_upper h.is_lower few c.loop-t-test.true c.if-lower-upper.false h.below
          c.loop-t.invariant.1 c.loop-t.invariant.2 legal (c.loop-t.invariant.5 legal),
    )

pub returns-then-lower-upper : goal.returns-then-lower-upper
returns-then-lower-upper c = record { judged = recrossed c.args.self.now.few c.args.self.now.long c.requires.in_range (search rules) }

pub returns : goal.returns
returns c =
    let cs = c.args.self.now.list.now in
    let n = c.args.self.now.count in
    record {
      judged = (
        accepted c.args.self.now.few (record { long = c.args.self.now.long; range = c.requires.in_range; legal = λ s h. c.loop-t.invariant.4 s (omega arith) }),
        λ i j x y.
            let h = all_cross n cs c.requires.in_range (λ s h. c.loop-t.invariant.4 s (omega arith)) c.args.self.now.long i j x y in
            c.loop-t.invariant.5 (λ s h. c.loop-t.invariant.4 s (omega arith)) i j x y (omega arith),
      );
    }
