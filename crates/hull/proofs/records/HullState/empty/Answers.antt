use Rattle.hull.proofs.Links.{none_held}
use Rattle.hull.proofs.records.HullState.empty.Goals as goal

pub returns-clause-none : goal.returns-clause-none
returns-clause-none c = none_held
