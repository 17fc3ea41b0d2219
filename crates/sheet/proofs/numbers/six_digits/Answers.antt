use Rattle.std.proofs.Common.{rules, tests, ◌≡◌, ◌<◌, ◌≤◌, length, get_or, arith}
use Rattle.sheet.specs.FieldsLemmas.{written_some, written_six, says_number}
use Rattle.sheet.proofs.Digits.{unadorned}
use Rattle.sheet.proofs.numbers.six_digits.Goals as goal
use Rattle.sheet.proofs.numbers.six_digits.Goals.{then-is_empty-via-then-is_empty, then-is_empty-via-else-is_empty+then-bytes-gt-DIGITS, then-is_empty-via-else-is_empty+else-bytes-gt-DIGITS+then-is_adorned}

pub returns-then-is_empty : goal.returns-then-is_empty
returns-then-is_empty c = record {
  number = λ v six is. elim c.then-is_empty.branch [
    | then-is_empty-via-then-is_empty w ↦ (let some = written_some v (omega arith) _ is in search (rules, tests))
    | then-is_empty-via-else-is_empty+then-bytes-gt-DIGITS w ↦ (let few = written_six v six _ is in search (rules, tests))
    | then-is_empty-via-else-is_empty+else-bytes-gt-DIGITS+then-is_adorned w ↦ unadorned v (omega arith) _ is w.if-is_adorned.ensures.adorned
  ];
}

pub returns : goal.returns
returns c =
    let bs = c.args.bytes.now in
    let some : 0 < length bs = search (rules, tests) in
    let six : length bs ≤ 6 = search (rules, tests) in
    let plain : get_or bs 0 0 ≡ 48 → length bs ≡ 1 = λ z. let le = c.if-is_adorned.ensures.adorned.1 z in omega (arith, some) in
    record { number = says_number bs _ some six plain c.digits.ensures.digits }
