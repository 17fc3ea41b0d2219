use Rattle.reports.specs.Reports.{TapeTold, tape}
use Rattle.reports.proofs.Telling.{tape_fits}
use Rattle.reports.proofs.Texts.{adding}
use Rattle.reports.proofs.opened.write_tape.Goals as goal

pub unreachable-requires : goal.unreachable-requires
unreachable-requires g c =
    tape_fits (g.P.Planar.places c.args.points.now) c.args.ring.now c.in_default.field-0 c.requires.few c.requires.marks c.in_default.ensures.answer

pub returns : goal.returns
returns g c =
    record {
      told = adding (TapeTold (g.P.Planar.places c.args.points.now) c.args.ring.now) c.write_length.result _ _ _ (tape c.in-Ok.ensures.answer.taped) c.write_length.ensures.written;
    }
