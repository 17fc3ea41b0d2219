use Rattle.sheet.specs.FieldsLemmas.{Sofar}
use Rattle.sheet.proofs.numbers.digits.Given as goal

abbrev pub invariant-loop-byte : goal.invariant-loop-byte
invariant-loop-byte l = Sofar l.bytes l.byte-index l.n
