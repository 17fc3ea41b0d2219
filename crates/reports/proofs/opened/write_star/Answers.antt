use Rattle.std.proofs.Common.{◌≡◌, [], ◌∙◌, length, take, sym, ap, subst, append-nil, arith}
use Rattle.models.proofs.Plane.{good}
use Rattle.sections.specs.Delaunay.{StarPairs, StarDeclined}
use Rattle.reports.specs.Reports.{StarTold, no_centre, pairs, refused}
use Rattle.reports.proofs.Adding.{rewritten}
use Rattle.reports.proofs.Texts.{adding}
use Rattle.reports.proofs.Telling.{star_fits}
use Rattle.reports.proofs.opened.write_star.Goals as goal

pub returns-then-count-eq0 : goal.returns-then-count-eq0
returns-then-count-eq0 c = record { told = ([], no_centre (omega (arith, c.count.ensures.marks, c.if-count-eq0.true)), sym (append-nil _)) }

pub returns-in-Ok : goal.returns-in-Ok
returns-in-Ok c =
    let ps = c.args.points.now.places.now in
    let w = c.in-Ok.ensures.answer in
    let list-is : c.deref.result.now ≡ take c.in-Ok.len c.star.new.pairs =
    c.deref.ensures.0 ∙ c.truncate.ensures.items ∙ ap (take c.in-Ok.len) (rewritten _ c.star.new.pairs (c.star.auto.pairs ∙ ap length c.deref_mut.ensures.value)) in
    record {
      told = adding (StarTold ps) c.write_pairs.result _ _ _ (pairs w.starred (subst (StarPairs ps 0) (sym list-is) w.front)) c.write_pairs.ensures.written;
    }

pub returns-in-Err : goal.returns-in-Err
returns-in-Err c =
    let ps = c.args.points.now.places.now in
    let f = c.in-Err.fault in
    let declined = subst (λ n. StarDeclined ps 0 n f) (ap length (c.deref_mut.ensures.value ∙ c.from-pairs.ensures.0)) c.in-Err.ensures.answer.0 in
    record {
      told = adding (StarTold ps) c.write_star_refusal.result _ _ _
          (refused f (omega (arith, c.count.ensures.marks, c.if-count-eq0.false)) (star_fits ps 0 f (good ps c.args.points.now.good).few declined))
          c.write_star_refusal.ensures.written;
    }
