use Rattle.std.proofs.Common.{◌≡◌, [], length, sym, refl, ap, ◌∙◌, subst, MatchOption}
use borrow.Author.Tests.{eqb-false}
use Rattle.shell.specs.Dialogues.{Begins}
use Rattle.shell.proofs.Answering.{first_line}
use Rattle.shell.proofs.dialogues.next_line.Goals as goal

pub returns : goal.returns
returns c =
    let text = c.args.text.now in
    record {
      line = subst (λ r. MatchOption r (text ≡ []) (λ p. Begins text p.0.now p.1.now)) (sym c.or.ensures) (first_line text c.cut.result _ (λ e. eqb-false _ 0 (sym c.is_empty.ensures ∙ c.if-is_empty.false) (ap length e)) refl refl c.cut.ensures.parts);
    }
