use Rattle.cc.specs.Names.{too_long, bad, accepted}
use Rattle.cc.proofs.renamings.held.Goals as goal

pub returns-in_default : goal.returns-in_default
returns-in_default c = record { judged = too_long c.in_default.ensures }

pub returns-in-Some : goal.returns-in-Some
returns-in-Some c = record { judged = bad c.in-Ok.ensures.1 c.in-Some.ensures.first }

pub returns-in-None : goal.returns-in-None
returns-in-None c = record { judged = (c.in-Ok.ensures.0, accepted c.in-Ok.ensures.1 c.in-None.ensures.first) }
