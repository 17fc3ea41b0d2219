use Rattle.std.proofs.Common.{◌≡◌, fold, reverse, take, drop, rules, tests, ◌∙◌, arith}
use Rattle.std.proofs.lemmas.Grind.{common_steps}
use Rattle.std.proofs.lemmas.Iterator.Consumers.{fold_from_yields_List}
use Rattle.std.proofs.lemmas.Iterator.Adapters.{YieldsList-from_rev_slice}
use Rattle.hull.proofs.OfWords.{with_bit, word_folded}
use Rattle.hull.proofs.records.HullState.word.Goals as goal

pub returns : goal.returns
returns c =
    let s = c.args.self.now in
    let part = take 64 (drop c.args.base s.records) in
    let folded : c.fold.result ≡ fold with_bit 0 (reverse part) =
    fold_from_yields_List _ with_bit 0 c.fold.result c.fold.ensures.ran (YieldsList-from_rev_slice part (grind (arith, common_steps, c.rev.ensures.source, c.iter.ensures.rest))) (λ w r v q k. search (rules, tests)) in
    record { word = folded ∙ word_folded s.records c.args.base 64 (omega (arith, c.requires.small, s.long)) (omega arith) }
