use Rattle.std.proofs.Common.{◌<◌, sym, subst, arith}
use Rattle.std.specs.Char.{digit_value}
use Rattle.sheet.specs.FieldsLemmas.{digit_value_at, sofar_small, sofar_more, sofar_all}
use Rattle.sheet.proofs.numbers.digits.Goals as goal

pub overflow_mul-n : goal.overflow_mul-n
overflow_mul-n c = omega (arith, sofar_small _ _ _ c.requires.few c.loop-byte-test.true c.loop-byte.invariant)

pub returns-in_err-n : goal.returns-in_err-n
returns-in_err-n c =
    rw c.from_residual.ensures
    (record { digits = λ ds. c.in_err-n.ensures.value (subst (λ x. digit_value x < 10) (sym c.from.ensures) (digit_value_at _ _ ds c.loop-byte-test.true)) })

pub overflow_add-n : goal.overflow_add-n
overflow_add-n c = omega (arith, sofar_small _ _ _ c.requires.few c.loop-byte-test.true c.loop-byte.invariant, c.in_ok-n.ensures.value.0, c.in_ok-n.ensures.value.1)

pub loop-byte-preserved : goal.loop-byte-preserved
loop-byte-preserved c = sofar_more _ _ _ c.requires.few c.loop-byte-test.true c.loop-byte.invariant _ _ c.from.ensures c.in_ok-n.ensures.value

pub returns : goal.returns
returns c = record { digits = sofar_all _ _ _ c.loop-byte-test.false c.loop-byte.invariant }
