use Rattle.std.proofs.Common.{arith}
use Rattle.sheet.proofs.Digits.{not_parsed, number_utf8, parsed_number, unadorned}
use Rattle.sheet.proofs.Results.{none_err, some_ok}
use Rattle.sheet.proofs.numbers.number.Goals as goal

pub returns-then-is_adorned : goal.returns-then-is_adorned
returns-then-is_adorned c =
    record { number = λ v le is. unadorned v (omega (arith, c.ranges.greatest)) _ is c.if-is_adorned.ensures.adorned }

pub returns-in_err-text : goal.returns-in_err-text
returns-in_err-text c =
    rw c.from_residual.ensures
    (record { number = λ v le is. (none_err _ _ c.from_utf8.result _ c.ok.ensures.value c.in_err-text.was c.from_utf8.ensures.cases).1.0 (number_utf8 v (omega (arith, c.ranges.greatest)) _ is) })

pub returns-in_err-n : goal.returns-in_err-n
returns-in_err-n c =
    rw c.from_residual-in_err-n.ensures
    (record { number = not_parsed c.args.greatest (omega (arith, c.ranges.greatest)) _ _ (some_ok _ _ c.from_utf8.result c.in_ok-text.text c.in_ok-text.ensures.value c.from_utf8.ensures.cases).0 c.if-is_adorned.ensures.adorned _ c.parse.ensures.value.0 _ c.ok-2.ensures.value c.in_err-n.was })

pub returns : goal.returns
returns c =
    rw c.then_some.ensures
    (record { number = parsed_number c.args.greatest (omega (arith, c.ranges.greatest)) _ _ (some_ok _ _ c.from_utf8.result c.in_ok-text.text c.in_ok-text.ensures.value c.from_utf8.ensures.cases).0 c.if-is_adorned.ensures.adorned _ c.parse.ensures.value.0 _ c.in_ok-n.ensures.value })
