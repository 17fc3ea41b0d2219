use Rattle.sections.proofs.Errors.{short_by_less_than_arcs}
use Rattle.sections.proofs.Lengths.{one_tape_answer}
use Rattle.sections.proofs.tapes_stand.Goals as goal

pub returns : goal.returns
returns c = record { one = one_tape_answer; short = short_by_less_than_arcs }
