use Rattle.std.proofs.Common.{string_bytes}
use Rattle.shell.specs.Consoles.{Console}
use Rattle.frame.proofs.Copying.{handed_by}
use Rattle.frame.proofs.moarduft_console.Goals as goal

pub returns : goal.returns
returns c = record { console = handed_by string_bytes (Console c.args.text.now c.args.layers.now c.args.script.now) c.console.result c.args.out.now c.handed.new.out c.handed.result c.console.ensures.console c.handed.ensures.handed }
