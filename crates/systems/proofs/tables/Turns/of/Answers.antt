use Rattle.std.proofs.Common.{Some}
use Rattle.std.proofs.lemmas.Result.{err_from_is_err_and}
use Rattle.models.specs.Threes.{threes_of}
use Rattle.systems.specs.Tables.{Judged, outsize, miscounted}
use Rattle.systems.proofs.Counts.{unfit}
use Rattle.systems.proofs.tables.Turns.of.Goals as goal

pub returns-in_err-check_length : goal.returns-in_err-check_length
returns-in_err-check_length c =
    let p = err_from_is_err_and c.from_residual.result c.from_residual.ensures.1 in
    rw (p.1, p.2) (record {
      fits = unfit threes_of (λ f. Judged c.args.count c.args.list.now (Some f)) c.threes.ensures.number outsize miscounted c.in_err-check_length.ensures.fits;
    })
