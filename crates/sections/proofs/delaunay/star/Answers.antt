use Rattle.std.proofs.Common.{refl, subst}
use Rattle.std.proofs.lemmas.Result.{err_from_is_err_and}
use Rattle.systems.specs.Openings.{Starred}
use Rattle.sections.specs.Delaunay.{StarPairs, refused}
use Rattle.sections.proofs.Pairs.{star_answer}
use Rattle.sections.proofs.delaunay.star.Goals as goal

-- no star about c
pub returns-in_err-of : goal.returns-in_err-of
returns-in_err-of c =
    let p = err_from_is_err_and c.from_residual.result c.from_residual.ensures.1 in
    rw (p.1, p.2) (record { answer = (refused c.in_err-of.ensures.judged, refl) })

-- the pairs, as those of c
pub returns : goal.returns
returns c =
    let of = c.in_ok-of.ensures.judged in
    let found = c.pairs-found.result.items in
    let is : Starred c.args.points.now.places.now c.args.c × StarPairs c.args.points.now.places.now c.args.c found =
    subst (λ x. x) (λ t. Starred (of.0 t) (of.1 t) × StarPairs (of.0 t) (of.1 t) found) (c.in_ok-of.field-0.starred, c.pairs-found.ensures.pairs) in
    record { answer = star_answer _ _ found _ _ _ is.0 is.1 (rw (← c.deref.ensures.0) c.copy_front.ensures.copied) }
