use Rattle.std.proofs.Common.{rules}
use Rattle.std.proofs.Output.{has_written_append, has_written_of_eq}
use Rattle.cc.proofs.Printing.{tabbed_more}
use Rattle.cc.proofs.texts.TabbedDisplay.fmt.Goals as goal

pub loop-number-preserved : goal.loop-number-preserved
loop-number-preserved g c plain =
    has_written_of_eq _ _ _ _ _ (tabbed_more c.args.self.now.0.now c.loop-number.number-index c.loop-number-test.true) (has_written_append _ _ _ _ _ _ (c.loop-number.invariant plain) (search rules))
