use Rattle.sections.proofs.Facing.{star_is_facing_arcs, one_pair_each}
use Rattle.sections.proofs.OneStar.{one_star_answer}
use Rattle.sections.proofs.stars_stand.Goals as goal

pub returns : goal.returns
returns c = record { arcs = star_is_facing_arcs; pairs = one_pair_each; answer = one_star_answer }
