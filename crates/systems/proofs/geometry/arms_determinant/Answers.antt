use Rattle.std.proofs.Common.{◌≡◌, ℤ, ◌+ℤ◌, ◌-ℤ◌, ◌*ℤ◌, ◌∙◌, w64}
use lib.IntN.{*ℤ_comm}
use Rattle.models.specs.Determinants.{det}
use Rattle.systems.specs.declared.offsets.Offset.{Offset}
use Rattle.systems.proofs.Bounded.{back, fits}
use Rattle.systems.proofs.Differences.{weighted, two_terms, three_terms}
use Rattle.systems.proofs.geometry.arms_determinant.Goals as goal

pub overflow_mul-result : goal.overflow_mul-result
overflow_mul-result c = fits w64 (weighted c.args.p.w c.minor-qr.result c.args.p.w_short c.minor-qr.ensures.small) tt

pub overflow_mul-result-2 : goal.overflow_mul-result-2
overflow_mul-result-2 c = fits w64 (weighted c.args.q.w c.minor-pr.result c.args.q.w_short c.minor-pr.ensures.small) tt

pub overflow_mul-result-3 : goal.overflow_mul-result-3
overflow_mul-result-3 c = fits w64 (weighted c.args.r.w c.minor-pq.result c.args.r.w_short c.minor-pq.ensures.small) tt

pub overflow_sub-result : goal.overflow_sub-result
overflow_sub-result c =
    fits w64 (two_terms c.args.p.w c.args.q.w c.args.r.w c.minor-qr.result c.minor-pr.result c.minor-pq.result
    c.args.p.w_short c.args.q.w_short c.args.r.w_short c.minor-qr.ensures.small c.minor-pr.ensures.small c.minor-pq.ensures.small) tt

pub overflow_add-result : goal.overflow_add-result
overflow_add-result c =
    fits w64 (three_terms c.args.p.w c.args.q.w c.args.r.w c.minor-qr.result c.minor-pr.result c.minor-pq.result
    c.args.p.w_short c.args.q.w_short c.args.r.w_short c.minor-qr.ensures.small c.minor-pr.ensures.small c.minor-pq.ensures.small) tt

-- a minor, as the determinant has it
flipped : (m : ℤ) (p q : Offset) → m ≡ p.a *ℤ q.b -ℤ p.b *ℤ q.a → m ≡ p.a *ℤ q.b -ℤ q.a *ℤ p.b
flipped m p q e = e ∙ (λ i. p.a *ℤ q.b -ℤ *ℤ_comm p.b q.a i)

pub returns : goal.returns
unfolding det
returns c =
    let sum = back w64 (three_terms c.args.p.w c.args.q.w c.args.r.w c.minor-qr.result c.minor-pr.result c.minor-pq.result
    c.args.p.w_short c.args.q.w_short c.args.r.w_short c.minor-qr.ensures.small c.minor-pr.ensures.small c.minor-pq.ensures.small) tt in
    let qr = flipped c.minor-qr.result c.args.q.offset c.args.r.offset c.minor-qr.ensures.exact in
    let pr = flipped c.minor-pr.result c.args.p.offset c.args.r.offset c.minor-pr.ensures.exact in
    let pq = flipped c.minor-pq.result c.args.p.offset c.args.q.offset c.minor-pq.ensures.exact in
    record { exact = sum.same ∙ (λ i. c.args.p.w *ℤ qr i -ℤ c.args.q.w *ℤ pr i +ℤ c.args.r.w *ℤ pq i) }
