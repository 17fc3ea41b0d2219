use Rattle.worked.proofs.Cases.{worked}
use Rattle.worked.proofs.worked_sections.Goals as goal

pub returns : goal.returns
returns c = record { worked = worked c.catalogue.result.now c.catalogue.ensures.catalogue }
