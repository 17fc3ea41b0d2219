use Rattle.std.proofs.Common.{length, string_bytes, sym, ap, ◌∙◌, eqb-true}
use borrow.Author.Tests.{eqb-false}
use Rattle.std.proofs.lemmas.List.{nil_from_length}
use Rattle.hull.proofs.Recording.{made_so}
use Rattle.shell.specs.Layered.{bare, no_word}
use Rattle.shell.proofs.Layering.{laid_on, refused_on}
use Rattle.shell.proofs.Talking.{by_one, by_unknown, by_unknown_first, by_two, by_unknown_second}
use Rattle.shell.proofs.layers.with_words.Goals as goal

pub returns-then-is_empty : goal.returns-then-is_empty
returns-then-is_empty g c = record { talk = made_so c.converse.result (λ out h. no_word (nil_from_length _ (eqb-true _ 0 (sym c.is_empty.ensures ∙ c.if-is_empty.true))) (bare h)) c.converse.ensures.dialogue }

pub returns-in-Some-2 : goal.returns-in-Some-2
returns-in-Some-2 g c =
    record { talk = made_so c.with_layer.result (λ out h. by_one _ _ _ _ c.in_ok-layer.field-0 c.in-Some-2.layer c.in_ok-layer.ensures.layer c.in-Some-2.is h) c.with_layer.ensures.layered }

pub returns-in-None : goal.returns-in-None
returns-in-None g c =
    record {
      talk = made_so c.no_layer.result
          (λ out e. by_unknown _ _ _ (string_bytes out) c.in_ok-layer.field-0 (λ z. eqb-false _ 0 (sym c.is_empty.ensures ∙ c.if-is_empty.false) (ap length z)) c.in_default.ensures.parts c.in_ok-layer.ensures.layer c.in-None.is e)
          c.no_layer.ensures.line;
    }

pub returns-in_default-2 : goal.returns-in_default-2
returns-in_default-2 g c =
    record {
      talk = made_so c.no_layer-in_default-2.result (λ out e. by_unknown_first _ _ _ (string_bytes out) _ _ c.in-Some.ensures.parts c.in_ok-first.field-0 c.in_ok-first.ensures.layer c.in_default-2.is e)
          c.no_layer-in_default-2.ensures.line;
    }

pub returns-in_default-3 : goal.returns-in_default-3
returns-in_default-3 g c =
    record {
      talk = made_so c.no_layer-in_default-3.result
          (λ out e. by_unknown_second _ _ _ (string_bytes out) _ _ c.in-Some.ensures.parts c.in_ok-first.field-0 c.in_ok-first.ensures.layer c.in-Some-3.first c.in-Some-3.is c.in_ok-second.field-0 c.in_ok-second.ensures.layer c.in_default-3.is e)
          c.no_layer-in_default-3.ensures.line;
    }

pub returns-in-Ok : goal.returns-in-Ok
returns-in-Ok g c =
    record {
      talk = made_so c.with_layer-in-Ok.result
          (λ out h. by_two _ _ _ (string_bytes out) _ _ c.in-Some.ensures.parts c.in_ok-first.field-0 c.in_ok-first.ensures.layer c.in-Some-3.first c.in-Some-3.is c.in_ok-second.field-0 c.in_ok-second.ensures.layer c.in-Some-4.second c.in-Some-4.is (laid_on (string_bytes out) c.in-Ok.ensures.laid h))
          c.with_layer-in-Ok.ensures.layered;
    }

pub returns : goal.returns
returns g c =
    record {
      talk = made_so c.refusal.result
          (λ out e. by_two _ _ _ (string_bytes out) _ _ c.in-Some.ensures.parts c.in_ok-first.field-0 c.in_ok-first.ensures.layer c.in-Some-3.first c.in-Some-3.is c.in_ok-second.field-0 c.in_ok-second.ensures.layer c.in-Some-4.second c.in-Some-4.is (refused_on (string_bytes out) c.in-Err.ensures.laid e))
          c.refusal.ensures.line;
    }
