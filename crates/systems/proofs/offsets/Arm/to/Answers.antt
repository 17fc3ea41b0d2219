use Rattle.std.proofs.Common.{◌+ℤ◌, ◌*ℤ◌, ◌∙◌, w64}
use Rattle.systems.proofs.Bounded.{back, fits, bounded}
use Rattle.systems.proofs.Differences.{square_of}
use Rattle.systems.proofs.offsets.Arm.to.Goals as goal

pub overflow_add-result : goal.overflow_add-result
overflow_add-result c = fits w64 (square_of c.between-offset.result) tt

pub invariant_of-result : goal.invariant_of-result
invariant_of-result c = record { w_short = bounded (back w64 (square_of c.between-offset.result) tt) }

pub returns : goal.returns
returns c =
    let o = c.between-offset.ensures.leads in
    let w = (back w64 (square_of c.between-offset.result) tt).same ∙ (λ i. o.across i *ℤ o.across i +ℤ o.up i *ℤ o.up i) in
    record { seen = λ i. record { a = o.across i; b = o.up i; w = w i } }
