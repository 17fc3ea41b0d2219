use Rattle.models.proofs.Networked.{crosses_once, turns_by_crossings, networks_lawful}
use Rattle.models.proofs.networks.networks_stand.Goals as goal

pub returns : goal.returns
returns c = record { once = crosses_once; turns = turns_by_crossings; lawful = networks_lawful }
