use Rattle.sheet.specs.Turnings.{says_number}
use Rattle.sheet.proofs.numbers.is_number.Goals as goal

pub returns : goal.returns
returns c = rw c.eq.ensures (record { same = says_number _ c.six_digits.result c.args.n c.six_digits.ensures.number })
