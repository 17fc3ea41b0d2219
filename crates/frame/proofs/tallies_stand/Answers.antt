use Rattle.frame.proofs.OneTally.{one_tally}
use Rattle.frame.proofs.tallies_stand.Goals as goal

pub returns : goal.returns
returns c = record { one = one_tally }
