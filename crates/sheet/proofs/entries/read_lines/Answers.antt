use Rattle.std.proofs.Common.{◌≡◌, ◌+◌, Ok, Err, length, ap, ◌∙◌, subst, sym, arith}
use Rattle.std.proofs.lemmas.List.{length-take-le, nil_from_length}
use Rattle.std.proofs.lemmas.Result.{MatchResult-weaker, err_from_is_err_and}
use Rattle.cc.specs.declared.faults.Fault.TheVariants.{Miscounted}
use Rattle.sheet.specs.Forms.{Missed, Stops}
use Rattle.sheet.proofs.Forms.{judged_at, stop_missed, stop_judged, stop_surplus, upto_set, upto_all}
use Rattle.sheet.proofs.entries.read_lines.Goals as goal

pub returns-in_err-line : goal.returns-in_err-line
returns-in_err-line g c =
    let p = err_from_is_err_and c.from_residual.result c.from_residual.ensures.1 in
    let number : c.number.result ≡ c.loop-entry.entry-index + 2 = c.number.ensures.number ∙ ap (λ n. n + 2) c.loop-entry.invariant.at in
    rw (p.1, p.2)
    (record { read = stop_missed _ _ _ _ _ c.loop-entry.invariant.read _ (length-take-le _ _ (omega arith)) (omega arith) _ (subst (λ n. Missed c.loop-entry.rest.now n c.in_err-line.field-0.0) number c.in_err-line.ensures.line) })

pub returns-in_err-entry : goal.returns-in_err-entry
returns-in_err-entry g c =
    let p = err_from_is_err_and c.from_residual-in_err-entry.result c.from_residual-in_err-entry.ensures.1 in
    let judged = judged_at g.E.Entry.form _ _ _ _ c.in_ok-line.line.now (Err c.in_err-entry.field-0.0) c.loop-entry.invariant.count c.loop-entry.invariant.at c.in_err-entry.ensures.judged in
    rw (p.1, p.2)
    (record { read = stop_judged _ _ _ _ _ c.loop-entry.invariant.read _ (length-take-le _ _ (omega arith)) (g.met.E.Entry.whole c.args.count c.loop-entry.entry-index) (omega arith) _ _ c.in_ok-line.ensures.line _ judged })

pub loop-entry-preserved : goal.loop-entry-preserved
loop-entry-preserved g c =
    let judged = judged_at g.E.Entry.form _ _ _ _ _ (Ok c.in_ok-entry.field-0) c.loop-entry.invariant.count c.loop-entry.invariant.at c.in_ok-entry.ensures.judged in
    record {
      count = c.following-spot.ensures.following.0 ∙ c.loop-entry.invariant.count;
      at = c.following-spot.ensures.following.1 ∙ ap (λ n. n + 1) c.loop-entry.invariant.at;
      read = upto_set _ _ c.loop-entry.list c.loop-entry.entry-index _ _ _ _ (omega arith) c.loop-entry.invariant.read judged c.in_ok-line.ensures.line.1;
    }

pub returns : goal.returns
returns g c =
    let many = length c.args.list.now in
    let number : c.number-2.result ≡ many + 2 = omega (arith, c.number-2.ensures.number, c.loop-entry.invariant.at) in
    record {
      read = MatchResult-weaker c.at_end.result c.at_end.ensures.end
          (λ _ none. upto_all _ _ _ c.loop-entry.entry-index _ (omega arith) (nil_from_length _ none) c.loop-entry.invariant.read)
          (λ e more.
          subst (Stops (g.E.Entry.form c.args.count) many c.args.text.now) (sym (more.1 ∙ ap Miscounted number))
          (stop_surplus _ _ many _ _ c.loop-entry.invariant.read c.loop-entry.entry-index (length-take-le _ _ (omega arith)) (omega arith) (λ nil. omega (arith, more.0, ap length nil))));
    }
