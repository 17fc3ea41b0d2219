use Rattle.reports.proofs.OneReport.{one_report}
use Rattle.reports.proofs.reports_stand.Goals as goal

pub returns : goal.returns
returns c = record { one = one_report }
