use Rattle.std.proofs.Common.{◌≡◌, ◌+◌, ◌-◌, length, get_or, take, drop, ap, ◌∙◌, sym, subst, arith}
use Rattle.hull.specs.Rings.{listed}
use Rattle.hull.specs.declared.records.HullState.{HullState}
use Rattle.hull.specs.Records.{Linked, with_position, with_before}
use Rattle.hull.proofs.Lists.{next_at, last_at}
use Rattle.hull.proofs.Links.{link_more, link_held, all_linked}
use Rattle.hull.proofs.records.HullState.settle.Goals as goal
use Rattle.hull.proofs.records.HullState.settle.Goals.{in_default, in-len1-up+else-loop-position-test}

pub loop-position-preserved : goal.loop-position-preserved
loop-position-preserved c =
    let l = listed c.args.ring in
    let i = c.loop-position.position in
    let p = c.loop-position.mark in
    let (h, at_next, next_is) = next_at l c.deref.result.now i c.deref.ensures.0 c.loop-position-test.true in
    let rec = c.requires.recorded in
    let old = c.loop-position.self in
    let new = c.link.new.self.records in
    record {
      mark = at_next;
      linked = link_more old.records l i p _ old.long rec (omega arith) c.loop-position.invariant.mark next_is new c.link.ensures.records c.loop-position.invariant.linked;
      held = λ r.
          link_held old.records new p i _ old.long (omega (arith, c.loop-position.invariant.mark, rec.small i)) (omega (arith, at_next, rec.small (i + 1))) c.link.ensures.records r
          ∙ c.loop-position.invariant.held r;
    }

pub returns-clause-links : goal.returns-clause-links
returns-clause-links c =
    let l = listed c.args.ring in
    let k = c.deref.result.now in
    elim c.if-deref-lt1.branch [
      | in_default w ↦ all_linked c.if-deref-lt1.self.records l (λ i h. absurd (let j = w.in_default.len_below in let e = ap length c.deref.ensures.0 in omega arith))
      | in-len1-up+else-loop-position-test w ↦
          let i = w.loop-position.position in
          let (n, at_last, first_is) = last_at l k i c.deref.ensures.0 (let j = w.in-len1-up.len_at_least in let d = ap length c.deref.ensures.0 in omega arith) w.loop-position-test.false w.loop-position.auto.position-end in
          let old = w.loop-position.self in
          let new = w.link-in-len1-up.new.self.records in
          let first = get_or k 0 0 in
          let mark = w.loop-position.mark in
          let ends : length (take (length k - 1) (drop 1 k)) ≡ i = let a = w.loop-position-test.false in let b = w.loop-position.auto.position-end in omega arith in
          let linked = subst (λ n. new ≡ with_before (with_position old.records mark n first) first mark) ends w.link-in-len1-up.ensures.records in
          subst (λ (s : HullState). Linked s.records l) (sym w.self-is)
          (all_linked new l (λ j h.
          link_more old.records l i mark first old.long c.requires.recorded (omega arith) w.loop-position.invariant.mark first_is new linked w.loop-position.invariant.linked j (omega arith)))
    ]
