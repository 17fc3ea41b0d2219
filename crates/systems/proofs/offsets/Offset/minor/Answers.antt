use Rattle.std.proofs.Common.{w64}
use Rattle.systems.proofs.Bounded.{back, fits, bounded}
use Rattle.systems.proofs.Differences.{minor_of}
use Rattle.systems.proofs.offsets.Offset.minor.Goals as goal

pub overflow_sub-result : goal.overflow_sub-result
overflow_sub-result c = fits w64 (minor_of c.args.self c.args.other) tt

pub returns-clause-exact : goal.returns-clause-exact
returns-clause-exact c = (back w64 (minor_of c.args.self c.args.other) tt).same

pub returns-clause-small : goal.returns-clause-small
returns-clause-small c = bounded (back w64 (minor_of c.args.self c.args.other) tt)
