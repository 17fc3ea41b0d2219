-- Of the sixteen patterns 5 and 10 alone are not lawful.
use Rattle.models.proofs.Catalogued.{fours}
use Rattle.models.proofs.catalogue.is_lawful_four.Goals as goal

pub returns : goal.returns
returns c =
    let p = c.args.pattern in
    let neither = c.is_neither_five_nor_ten.ensures.neither in
    record {
      lawful = (
        λ t. ((neither.0 t).0, (fours p (neither.0 t).0).0 ((neither.0 t).1, (neither.0 t).2)),
        λ h. let apart = (fours p h.0).1 h.1 in neither.1 (h.0, apart.0, apart.1),
      );
    }
