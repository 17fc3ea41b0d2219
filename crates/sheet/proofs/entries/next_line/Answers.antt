use Rattle.std.proofs.Common.{length, ap, true-eqb, false-eqb}
use Rattle.std.proofs.lemmas.List.{nil_from_length}
use Rattle.sheet.specs.Forms.{ended, unended}
use Rattle.sheet.proofs.Results.{or_error}
use Rattle.sheet.proofs.entries.next_line.Goals as goal

pub returns-then-is_empty : goal.returns-then-is_empty
returns-then-is_empty c = record { line = ended (nil_from_length _ (true-eqb _ 0 c.if-is_empty.ensures)) }

pub returns : goal.returns
returns c =
    record { line = or_error _ _ _ c.cut.result _ c.ok_or.result c.ok_or.ensures.value c.cut.ensures.parts (unended (λ e. false-eqb _ 0 c.if-is_empty.ensures (ap length e))) }
