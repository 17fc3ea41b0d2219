use Rattle.std.proofs.Common.{◌≡◌, fold, rules, tests, ◌∙◌}
use Rattle.std.proofs.lemmas.Iterator.Consumers.{fold_from_yields_List}
use Rattle.std.proofs.lemmas.Iterator.{YieldsList-from_slice}
use Rattle.frame.proofs.Counting.{with_value, sum_folded}
use Rattle.frame.proofs.answers.sum_of.Goals as goal

pub returns : goal.returns
returns c =
    let list = c.args.list.now in
    let folded : c.fold.result ≡ fold with_value c.args.first list =
    fold_from_yields_List _ with_value c.args.first c.fold.result c.fold.ensures.ran (YieldsList-from_slice list c.iter.ensures.rest) (λ w r v q k. search (rules, tests)) in
    record { sum = folded ∙ sum_folded list c.args.first c.ranges.first.fits }
