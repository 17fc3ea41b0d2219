-- The table is computed to be the list of the patterns that pass the tests of the laws.
use Rattle.std.proofs.Common.{refl}
use Rattle.models.proofs.Catalogued.{catalogued}
use Rattle.models.proofs.catalogue.catalogue.Goals as goal

pub returns : goal.returns
returns c = record { catalogue = catalogued _ refl refl }
