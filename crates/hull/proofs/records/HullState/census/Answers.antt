use Rattle.std.proofs.Common.{ℕ, ◌+◌, Bool, refl, ap, ◌∙◌, ap₂, zero-add, arith}
use lib.Count.{ones}
use Rattle.std.proofs.lemmas.Nat.{ones-le}
use Rattle.hull.specs.Records.{held}
use Rattle.hull.specs.Words.{bit}
use Rattle.hull.proofs.OfWords.{word_bit, word_ones, how_many_both}
use Rattle.hull.proofs.records.HullState.census.Goals as goal

pub overflow_add-result : goal.overflow_add-result
overflow_add-result c = omega (arith, ones-le 64 c.word-low.result c.word-low.type_inv, ones-le 64 c.high_word-high.result c.high_word-high.type_inv)

pub overflow_cast-result : goal.overflow_cast-result
overflow_cast-result c = omega (arith, ones-le 64 c.word-low.result c.word-low.type_inv, ones-le 64 c.high_word-high.result c.high_word-high.type_inv)

pub returns : goal.returns
returns c =
    let f : ℕ → Bool = held c.args.self.now.records in
    let low = c.word-low.ensures.word in
    let high = c.high_word-high.ensures.word in
    record {
      census = record {
        low = λ k h. ap (λ w. bit w k) low ∙ word_bit f 0 64 k h ∙ ap f (zero-add k);
        high = λ k h. ap (λ w. bit w k) high ∙ word_bit f 64 64 k h;
        low_fits = c.word-low.type_inv;
        high_fits = c.high_word-high.type_inv;
        size = ap₂ (λ x y. x + y) (ap ones low ∙ word_ones f 0 64) (ap ones high ∙ word_ones f 64 64) ∙ how_many_both f 0 64 64;
        ones = refl;
      };
    }
