use Rattle.models.proofs.Entries.{entry_below, three_rises}
use Rattle.systems.proofs.Judging.{one_judgement}
use Rattle.systems.proofs.tables.tables_stand.Goals as goal

pub returns : goal.returns
returns c = record {
  one = one_judgement;
  entries = λ n i j k i' j' k' few a b d a' b' d'. (entry_below n i j k a b d few, three_rises n i j k i' j' k' a b d a' b' d');
}
