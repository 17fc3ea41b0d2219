use Rattle.systems.proofs.Refusing.{one_judgement, three_wires}
use Rattle.systems.proofs.networks.networks_stand.Goals as goal

pub returns : goal.returns
returns c = record { one = one_judgement; examples = three_wires }
