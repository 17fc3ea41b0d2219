use Rattle.sheet.proofs.Rising.{all_triples}
use Rattle.sheet.proofs.triples_stand.Goals as goal

pub returns : goal.returns
returns c = record { all = all_triples }
