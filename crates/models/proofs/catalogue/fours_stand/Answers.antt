use Rattle.models.proofs.Catalogued.{fours}
use Rattle.models.proofs.catalogue.fours_stand.Goals as goal

pub returns : goal.returns
returns c = record { fours = fours }
