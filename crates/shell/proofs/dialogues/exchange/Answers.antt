use Rattle.std.proofs.Common.{◌≡◌, append-nil, append_assoc, refl, subst}
use Rattle.hull.proofs.Recording.{made_so}
use Rattle.shell.specs.Commands.{Fits, written}
use Rattle.shell.specs.Dialogues.{calls, counts, no_call}
use Rattle.shell.specs.declared.commands.Command.{Command}
use Rattle.shell.proofs.dialogues.exchange.Goals as goal

pub returns-in_default-clause-exchanged : goal.returns-in_default-clause-exchanged
returns-in_default-clause-exchanged g c =
    made_so c.writeln.result (λ _ e. record { printed = _; exchange = no_call c.in_default.ensures.command refl; text = simp (append-nil) e }) c.writeln.ensures.bytes

pub returns-in-Call-clause-exchanged : goal.returns-in-Call-clause-exchanged
returns-in-Call-clause-exchanged g c =
    let told = subst (λ (d : Command). Fits d × (c.args.line.now ≡ written d)) c.in-Call.is c.in-Some.ensures.command in
    made_so c.call_line.result (λ _ e. record { printed = _; exchange = calls c.in-Call.call e.answer told.0 told.1 e.called; text = e.text }) c.call_line.ensures.called

pub returns-in-Census-clause-exchanged : goal.returns-in-Census-clause-exchanged
returns-in-Census-clause-exchanged g c =
    let told = subst (λ (d : Command). Fits d × (c.args.line.now ≡ written d)) c.in-Census.is c.in-Some.ensures.command in
    made_so c.writeln-in-Census.result
    (λ _ e. record { printed = _; exchange = counts c.census-low.result told.1 c.census-low.ensures.census refl; text = simp (append-nil, append_assoc) e })
    c.writeln-in-Census.ensures.bytes
