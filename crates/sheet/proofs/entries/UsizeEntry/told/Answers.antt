use Rattle.std.proofs.Common.{decimal}
use Rattle.sheet.specs.Shapes.{crossing}
use Rattle.sheet.proofs.entries.UsizeEntry.told.Goals as goal

pub returns-in_err-place : goal.returns-in_err-place
returns-in_err-place c = rw c.from_residual.ensures (record { told = λ v w e. c.in_err-place.ensures.formed (crossing (decimal v)) tt e })
