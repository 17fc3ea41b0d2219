use Rattle.std.proofs.Common.{string_bytes}
use Rattle.reports.specs.Reports.{Reports}
use Rattle.frame.proofs.Copying.{handed_by}
use Rattle.frame.proofs.moarduft_report.Goals as goal

pub returns : goal.returns
returns c = record { report = handed_by string_bytes (Reports c.args.text.now) c.report.result c.args.out.now c.handed.new.out c.handed.result c.report.ensures.report c.handed.ensures.handed }
