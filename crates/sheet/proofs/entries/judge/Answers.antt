use Rattle.std.proofs.lemmas.Result.{err_from_is_err_and}
use Rattle.sheet.proofs.Forms.{beyond_range, untold}
use Rattle.sheet.proofs.entries.judge.Goals as goal

pub returns-in_err-entry : goal.returns-in_err-entry
returns-in_err-entry g c =
    let p = err_from_is_err_and c.from_residual.result c.from_residual.ensures.1 in
    rw (p.1, p.2) (record { judged = untold _ _ _ _ _ c.told.result _ c.told.ensures.told c.in_err-entry.ensures.value c.number.ensures.number })

pub returns-else-fits : goal.returns-else-fits
returns-else-fits g c =
    record { judged = beyond_range _ _ _ _ _ c.told.result _ c.told.ensures.told c.in_ok-entry.ensures.ok_part c.if-fits.ensures.fits c.number-else-fits.ensures.number }
