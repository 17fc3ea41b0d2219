use Rattle.std.proofs.Common.{string_bytes}
use Rattle.reports.proofs.Telling.{refusal_reported, system_reported}
use Rattle.reports.proofs.report.Goals as goal

pub returns-in-Err : goal.returns-in-Err
returns-in-Err c =
    record {
      report = refusal_reported c.args.text.now c.in-Err.fault (string_bytes c.new-out.result) (string_bytes c.write_refusal.new.out) c.in-Err.ensures.opened c.new-out.ensures.bytes c.in_ok-write_refusal-in-Err.ensures.written;
    }

pub returns : goal.returns
returns c =
    record {
      report = system_reported c.args.text.now c.in-Ok.system (string_bytes c.new-out.result) (string_bytes c.write_told.new.out) c.in-Ok.ensures.opened c.new-out.ensures.bytes c.in_ok-write_told.ensures.told;
    }
