use Rattle.std.proofs.Common.{suc, arith}
use Rattle.sheet.specs.FieldsLemmas.{front, no_minus, says_minus}
use Rattle.sheet.proofs.numbers.coordinate.Goals as goal

pub returns-in_err-six_digits-in-45 : goal.returns-in_err-six_digits-in-45
returns-in_err-six_digits-in-45 c =
    rw c.from_residual.ensures (record { coordinate = no_minus _ _ (front _ 45 (omega arith) (omega arith)) (λ n. c.in_err-six_digits-in-45.ensures.number (suc n)) })

pub returns-in_ok-six_digits-in-45 : goal.returns-in_ok-six_digits-in-45
returns-in_ok-six_digits-in-45 c =
    record { coordinate = says_minus _ _ _ c.negated.result (front _ 45 (omega arith) (omega arith)) c.in_ok-six_digits-in-45.ensures.number c.negated.ensures.negated }
