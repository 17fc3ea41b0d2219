use Rattle.std.proofs.Common.{rules}
use Rattle.systems.specs.Lengths.{beyond, another}
use Rattle.systems.proofs.lengths.check_length.Goals as goal

pub returns-then-count-limit : goal.returns-then-count-limit
returns-then-count-limit c = record { fits = beyond c.if-count-limit.true }

pub returns-then-len-due : goal.returns-then-len-due
returns-then-len-due c = record { fits = another c.if-count-limit.false (search rules) }
