use Rattle.sheet.proofs.Exact.{one_answer}
use Rattle.sheet.proofs.Firsts.{first_line}
use Rattle.sheet.proofs.one_answer_stands.Goals as goal

pub returns : goal.returns
returns c = record { one = one_answer; line = first_line }
