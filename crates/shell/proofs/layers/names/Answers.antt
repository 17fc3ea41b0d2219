use Rattle.std.proofs.Common.{◌∷◌, ◌++◌, [], map, length, eqb, vec_items, decimal, rules, tests, sym, ap, ◌∙◌, subst, arith}
use Rattle.std.proofs.lemmas.List.{map-append}
use Rattle.std.proofs.lemmas.Iterator.Consumers.{YieldsList-turn, YieldsList-end}
use Rattle.std.proofs.lemmas.Iterator.Splits.{YieldsList-from_slice_split}
use Rattle.shell.specs.Layered.{Wides}
use Rattle.shell.proofs.Words.{all_named, one_unnamed, wides_more}
use Rattle.shell.proofs.layers.names.Goals as goal

pub returns-in_default : goal.returns-in_default
returns-in_default c =
    let text = c.args.text.now in
    record {
      names = one_unnamed text c.in-Some.entry.now (length c.loop-entry.yielded)
          (YieldsList-turn (YieldsList-from_slice_split _ (λ b. eqb b 44) text (cc) (cc) (cc) (λ x b q k. search (rules, tests))) c.loop-entry.yielded c.loop-entry.entry-iterator c.loop-entry.yielded_by _ c.next.new.self c.in-Some.entry c.in-Some.is c.next.ensures.steps)
          (λ n wide. c.in_default.ensures.number n (omega (arith, wide)));
    }

pub loop-entry-preserved : goal.loop-entry-preserved
loop-entry-preserved c =
    let told = c.in-Some-number.ensures.number in
    let items = c.in_ok-push.ensures.items in (
      subst Wides (sym items) (wides_more _ _ c.loop-entry.invariant.0 (omega (arith, told.0))),
      ap (map decimal) items ∙ map-append decimal (vec_items c.loop-entry.names) (c.in-Some-number.name ∷ []) ∙ (λ i. c.loop-entry.invariant.1 i ++ sym told.1 i ∷ []) ∙ sym (map-append (λ e. e.now) c.loop-entry.yielded (c.in-Some.entry ∷ [])),
    )

pub returns : goal.returns
returns c =
    let text = c.args.text.now in
    record {
      names = all_named text (vec_items c.loop-entry.names) c.loop-entry.invariant.0
          (c.loop-entry.invariant.1 ∙ (YieldsList-end (YieldsList-from_slice_split _ (λ b. eqb b 44) text (cc) (cc) (cc) (λ x b q k. search (rules, tests))) c.loop-entry.yielded c.loop-entry.entry-iterator c.loop-entry.yielded_by _ c.next.new.self c.in-None.is c.next.ensures.steps).0);
    }
