use Rattle.frame.proofs.Copying.{handed_over}
use Rattle.frame.proofs.copy.Goals as goal

pub returns : goal.returns
returns c = record { copied = handed_over c.args.text.now c.args.out.now c.copy_front.new.list c.copy_front.result c.copy_front.ensures.copied }
