use Rattle.frame.proofs.Opening.{counted, refused}
use Rattle.frame.proofs.tallies.tally.Goals as goal

pub returns-in-Ok : goal.returns-in-Ok
returns-in-Ok c = record { tally = counted c.args.text.now c.args.calls.now c.args.times c.in-Ok.system c.tally_over.result c.in-Ok.ensures.opened c.tally_over.ensures.total }

pub returns-in-Err : goal.returns-in-Err
returns-in-Err c = record { tally = refused c.args.text.now c.args.calls.now c.args.times c.in-Err.ensures.opened }
