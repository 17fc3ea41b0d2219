use Rattle.std.proofs.Common.{refl, sym, subst, arith}
use Rattle.laws.specs.Outlines.{Outline}
use Rattle.laws.specs.Theorems.{of}
use Rattle.hull.specs.Rings.{listed}
use Rattle.hull.specs.Records.{flagged}
use Rattle.hull.specs.declared.rings.Ring.{Ring}
use Rattle.hull.proofs.OneLess.{few_left, is_open, from_lowest}
use Rattle.hull.proofs.rings.Ring.shrink.Goals as goal
use Rattle.hull.proofs.rings.Ring.shrink.Goals.{then-len-gt1, else-len-gt1}

pub close-requires-clause-open : goal.close-requires-clause-open
close-requires-clause-open g c =
    let i = c.if-len-gt1.true in
    is_open (g.S.CcSystem.lawful c.args.system.now) (flagged c.args.flags.now) (listed c.args.self.now) _ c.requires.surrounds c.args.position c.requires.inside refl
    (listed c.opened_at-ring.result) c.opened_at-ring.ensures.opened (omega (arith, c.len.ensures.value))

pub returns : goal.returns
returns g c =
    let m = g.S.CcSystem.meaning c.args.system.now in
    let L = g.S.CcSystem.lawful c.args.system.now in
    let s = flagged c.args.flags.now in
    let l = listed c.args.self.now in
    let a = c.requires.surrounds in
    let round : Outline m (of s) (listed c.if-len-gt1.ring) = elim c.if-len-gt1.branch [
      | then-len-gt1 w ↦ subst (λ (r : Ring). Outline m (of s) (listed r)) (sym w.ring-is) w.close.ensures.round
      | else-len-gt1 w ↦
          subst (λ (r : Ring). Outline m (of s) (listed r)) (sym w.ring-is)
          (few_left L s l _ a c.args.position c.requires.inside refl (listed c.opened_at-ring.result) c.opened_at-ring.ensures.opened (let i = w.if-len-gt1.false in omega (arith, c.len.ensures.value)))
    ] in
    record { ring = from_lowest L s l _ a (listed c.if-len-gt1.ring) (listed c.start_at_lowest.new.self) round c.start_at_lowest.ensures.same c.start_at_lowest.ensures.lowest }
