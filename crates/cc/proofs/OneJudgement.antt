-- A renaming's list is judged in one way only.
use Rattle.std.proofs.Common.{◌≡◌, ℕ, List, Some, None, refl, ap, arith}
use Rattle.laws.proofs.Firsts.{one_first}
use Rattle.cc.specs.Names.{Judged, OneJudgement, too_long, bad, accepted}
use Rattle.cc.specs.declared.faults.Fault.{Fault}
use Rattle.cc.specs.declared.faults.Fault.TheVariants.{Misnamed}

pub one_judgement : OneJudgement
one_judgement n xs f g (too_long h) (too_long k) = refl
one_judgement n xs f g (too_long h) (bad k first) = absurd (omega arith)
one_judgement n xs f g (too_long h) (accepted k never) = absurd (omega arith)
one_judgement n xs f g (bad h first) (too_long k) = absurd (omega arith)
one_judgement n xs f g (bad h first) (bad k first') = ap (λ i. Some (Misnamed i)) (one_first first first')
one_judgement n xs f g (bad {i = i} h first) (accepted k never) = absurd (never i first.within first.holds)
one_judgement n xs f g (accepted h never) (too_long k) = absurd (omega arith)
one_judgement n xs f g (accepted h never) (bad {i = i} k first) = absurd (never i first.within first.holds)
one_judgement n xs f g (accepted h never) (accepted k never') = refl

-- none is both accepted and refused
pub not_judged : (n : ℕ) (xs : List ℕ) (f : Fault) → Judged n xs (Some f) → Judged n xs None → ⊥
not_judged n xs f h k = let z : ◌≡◌ {A = ℕ} 0 1 = cc (one_judgement n xs (Some f) None h k) in omega arith
