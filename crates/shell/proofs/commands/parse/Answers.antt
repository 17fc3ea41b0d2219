use Rattle.std.proofs.Common.{arith}
use Rattle.shell.proofs.Calling.{no_space, no_parts}
use Rattle.shell.proofs.commands.parse.Goals as goal

pub returns-in_err-word : goal.returns-in_err-word
returns-in_err-word c = rw c.from_residual.ensures (record { command = no_space _ c.if-is.ensures.same c.in_err-word.ensures.parts })

pub returns-in_err-verb_of : goal.returns-in_err-verb_of
returns-in_err-verb_of c =
    rw c.from_residual-in_err-verb_of.ensures (record { command = no_parts _ _ _ c.if-is.ensures.same c.in_ok-word.ensures.parts (λ v n wide w d. c.in_err-verb_of.ensures.verb v w) })

pub returns-in_err-number : goal.returns-in_err-number
returns-in_err-number c =
    rw c.from_residual-in_err-number.ensures (record { command = no_parts _ _ _ c.if-is.ensures.same c.in_ok-word.ensures.parts (λ v n wide w d. c.in_err-number.ensures.number n (omega (arith, wide)) d) })
