use Rattle.std.proofs.Common.{◌≡◌, ℕ, ◌<◌, ◌++◌, length, get_or, take, drop, refl, subst, arith, rules, tests}
use Rattle.std.proofs.ByRecursion.{All-get_or}
use Rattle.std.proofs.lemmas.Grind.{common_steps}
use Rattle.laws.specs.Theorems.{of}
use Rattle.runs.specs.Calls.{Rounds}
use Rattle.runs.proofs.Standing.{outline_in}
use Rattle.hull.specs.Rings.{listed}
use Rattle.hull.specs.Records.{flagged}
use Rattle.hull.proofs.Layers.{cleared, peeling_none, peeling_more, peeling_all, none_left, drop_same, ring_none}
use Rattle.hull.proofs.peeling.rounds_of.Goals as goal

pub loop-round-init : goal.loop-round-init
loop-round-init g c =
    let m = g.S.CcSystem.meaning c.args.system.now in
    let e = c.args.entries.now in
    let n = c.count-count.result in
    let front = c.fill.new.self in
    let long : length front ≡ n = grind (arith, common_steps, c.fill.ensures.len) in
    let front_zero : (p : ℕ) → p < n → get_or front p 0 ≡ 0 = λ p k. c.fill.ensures.clones p 0 (grind (arith, common_steps)) refl in
    let same_length : length (front ++ drop n e) ≡ length e = grind (arith, common_steps) in
    let counted = c.count-count.ensures.marks in
    let (zeros, rest) = cleared e front n long (omega (arith, c.requires.room)) front_zero in
    peeling_none m (flagged c.args.flags.now) e (front ++ drop n e) same_length (λ p k. zeros p (omega arith)) (λ p k. rest p (omega arith))

pub returns-then-is_empty : goal.returns-then-is_empty
returns-then-is_empty g c =
    let m = g.S.CcSystem.meaning c.args.system.now in
    let e = c.args.entries.now in
    let ring = c.outline_of-ring.result in
    let l = c.loop-round in
    let empty = ring_none (listed ring) (search (rules, tests)) c.outline_of-ring.ensures.ring in
    record {
      rounds = peeling_all (flagged c.args.flags.now) (flagged l.flags) e l.entries l.round l.invariant c.requires.room empty;
      rest = drop_same m.count l.entries e l.invariant.same_length l.invariant.rest;
    }

pub peel-requires : goal.peel-requires
peel-requires g c =
    let u = flagged c.loop-round.flags in
    let ring = listed c.outline_of-ring.result in
    record {
      small = λ i h.
          let k = c.requires.marks _ (c.loop-round.invariant.within _ (All-get_or (of u) ring i 0 h (outline_in c.outline_of-ring.ensures.ring.outline))) in (
            omega (arith, (g.S.CcSystem.lawful c.args.system.now).limit),
            omega (arith, c.loop-round.invariant.same_length, c.requires.room),
          );
    }

pub loop-round-preserved : goal.loop-round-preserved
loop-round-preserved g c =
    let ring = listed c.outline_of-ring.result in
    let l = c.loop-round in
    peeling_more (g.S.CcSystem.lawful c.args.system.now) (flagged c.args.flags.now) (flagged l.flags) (flagged c.peel.new.flags) c.args.entries.now l.entries c.peel.new.entries
    l.round c.requires.marks l.invariant ring c.outline_of-ring.ensures.ring (search (rules, tests)) c.peel.auto.entries c.peel.ensures.on c.peel.ensures.off

pub returns : goal.returns
returns g c =
    let m = g.S.CcSystem.meaning c.args.system.now in
    let s = flagged c.args.flags.now in
    let l = c.loop-round in
    let u = flagged l.flags in
    let e = c.args.entries.now in
    let n : l.round ≡ c.count-count.result = omega (arith, l.auto.round-end, c.loop-round-test.false) in
    let empty = none_left s u e l.entries l.round l.invariant c.requires.room c.requires.marks (omega (arith, c.count-count.ensures.marks)) in
    record {
      rounds = subst (Rounds m s (take m.count l.entries)) n (peeling_all s u e l.entries l.round l.invariant c.requires.room empty);
      rest = drop_same m.count l.entries e l.invariant.same_length l.invariant.rest;
    }
