-- A list of places is judged in one way only.
use Rattle.std.proofs.Common.{rules}
use Rattle.systems.specs.Openings.{OneJudgement}

pub one_judgement : OneJudgement
one_judgement = search rules
