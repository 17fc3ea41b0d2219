-- A pattern that the search finds is lawful, and a lawful one is found.
use Rattle.std.proofs.Common.{◌<◌, Bool, T, ◌↔◌, sym, subst}
use Rattle.laws.specs.Systems.{Lawful}
use Rattle.models.specs.Catalogue.{five}
use Rattle.models.proofs.Catalogued.{searched_catalogue}
use Rattle.models.proofs.catalogue.is_lawful_five.Goals as goal

pub returns : goal.returns
returns c = record {
  lawful =
      subst (λ (b : Bool). T b ↔ ((c.args.pattern < 1024) × Lawful (five c.args.pattern))) (sym c.is_ok.ensures.value)
      (searched_catalogue c.catalogue.result.now c.catalogue.ensures.catalogue c.args.pattern c.binary_search.result
      c.binary_search.ensures.position);
}
