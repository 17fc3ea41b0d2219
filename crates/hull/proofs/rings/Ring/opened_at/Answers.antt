use Rattle.std.proofs.Common.{◌≡◌, ◌+◌, ◌-◌, ◌++◌, take, drop, length, arith, ap, ◌∙◌}
use Rattle.std.specs.List.{refill}
use Rattle.std.proofs.lemmas.Grind.{common_steps}
use Rattle.hull.specs.Rings.{listed}
use Rattle.hull.proofs.OneLess.{opened_is}
use Rattle.hull.proofs.rings.Ring.opened_at.Goals as goal

pub returns : goal.returns
returns c =
    let l = listed c.args.self.now in
    let k = listed c.copy-ring.result in
    let p = c.args.position in
    let h = c.requires.inside in
    let same : k ≡ l = c.copy-ring.ensures.same in
    let turned : refill (length k) k c.rotate_left.new.self ≡ drop (p + 1) k ++ take (p + 1) k = grind (arith, common_steps, c.rotate_left.ensures.after, c.rotate_left.ensures.len, c.deref_mut.ensures.value) in
    let long : length (refill (length k) k c.rotate_left.new.self) ≡ length k = ap length turned ∙ grind (arith, common_steps) in
    record {
      opened = c.pop.ensures.rest
          ∙ ap (take (length (refill (length k) k c.rotate_left.new.self) - 1)) (turned ∙ ap (λ y. drop (p + 1) y ++ take (p + 1) y) same)
          ∙ opened_is l p _ h (omega (arith, long, ap length same));
    }
