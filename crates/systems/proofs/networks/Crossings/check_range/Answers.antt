use Rattle.std.proofs.Common.{rules}
use Rattle.systems.specs.Networks.{beyond}
use Rattle.systems.proofs.networks.Crossings.check_range.Goals as goal

pub returns-in-Some : goal.returns-in-Some
returns-in-Some c = record { in_range = beyond c.args.self.now.few c.args.self.now.long (search rules) }
