use Rattle.std.proofs.Common.{decimal}
use Rattle.sheet.specs.Shapes.{head}
use Rattle.sheet.proofs.head_told.Goals as goal

pub returns-in_err-kind : goal.returns-in_err-kind
returns-in_err-kind c = rw c.from_residual.ensures (record { told = λ v w e. c.in_err-kind.ensures.formed (head v.kind (decimal v.count)) tt e })
