-- A list of places is judged as flat points in one way only.
use Rattle.std.proofs.Common.{rules}
use Rattle.systems.specs.FlatPoints.{OneJudgement}

pub one_flat_judgement : OneJudgement
one_flat_judgement = search rules
