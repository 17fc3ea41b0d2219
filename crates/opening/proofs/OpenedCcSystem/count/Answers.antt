use Rattle.std.proofs.Common.{◌≡◌, sym, subst}
use Rattle.opening.specs.Opening.{meaning_of}
use Rattle.opening.proofs.OpenedCcSystem.count.Goals as goal

pub returns-in-Points : goal.returns-in-Points
returns-in-Points c = record { marks = subst (λ o. c.count.result ≡ (meaning_of o).count) (sym c.in-Points.is) c.count.ensures.marks }

pub returns-in-FlatPoints : goal.returns-in-FlatPoints
returns-in-FlatPoints c = record { marks = subst (λ o. c.count-in-FlatPoints.result ≡ (meaning_of o).count) (sym c.in-FlatPoints.is) c.count-in-FlatPoints.ensures.marks }
