use Rattle.std.proofs.Common.{string_bytes}
use Rattle.shell.specs.Stars.{StarConsole}
use Rattle.frame.proofs.Copying.{handed_by}
use Rattle.frame.proofs.moarduft_star_console.Goals as goal

pub returns : goal.returns
returns c = record { console = handed_by string_bytes (StarConsole c.args.text.now c.args.centre c.args.layers.now c.args.script.now) c.star_console.result c.args.out.now c.handed.new.out c.handed.result c.star_console.ensures.console c.handed.ensures.handed }
