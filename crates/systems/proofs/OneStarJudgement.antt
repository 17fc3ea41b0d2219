-- A star is judged in one way only.
use Rattle.std.proofs.Common.{arith}
use Rattle.std.proofs.lemmas.Grind.{common_steps}
use Rattle.systems.specs.Openings.{OneStarJudgement}

pub one_star_judgement : OneStarJudgement
one_star_judgement = grind (arith, common_steps)
