use Rattle.std.proofs.Common.{sym, subst, arith}
use Rattle.std.proofs.lemmas.Result.{err_from_is_err_and}
use Rattle.cc.specs.declared.faults.Fault.TheVariants.{Torn}
use Rattle.sheet.specs.Fields.{Says}
use Rattle.sheet.specs.Forms.{formless, beyond}
use Rattle.sheet.specs.Sheets.{Unopened, long}
use Rattle.sheet.proofs.Heads.{no_head, bad_head}
use Rattle.sheet.proofs.Results.{or_none, when_none, when_some}
use Rattle.sheet.proofs.opening.Goals as goal

pub returns-then-text-gt-LONGEST : goal.returns-then-text-gt-LONGEST
returns-then-text-gt-LONGEST c = record { opened = long c.if-text-gt-LONGEST.true }

pub returns-in_err-line : goal.returns-in_err-line
returns-in_err-line c =
    let p = err_from_is_err_and c.from_residual.result c.from_residual.ensures.1 in
    let none = or_none c.cut.result (Torn 1) c.in_err-line.field-0.0 c.in_err-line.ensures.value in
    rw (p.1, p.2)
    (record { opened = subst (Unopened c.args.text.now) (sym none.0) (no_head _ c.if-text-gt-LONGEST.false (when_none _ _ c.cut.result none.1 c.cut.ensures.parts)) })

pub returns-in_err-head : goal.returns-in_err-head
returns-in_err-head c =
    let p = err_from_is_err_and c.from_residual-in_err-head.result c.from_residual-in_err-head.ensures.1 in
    let none = or_none c.head_told.result (Torn 1) c.in_err-head.field-0.0 c.in_err-head.ensures.value in
    let parts = when_some _ _ c.cut.result _ c.in_ok-line.ensures.ok_part c.cut.ensures.parts in
    rw (p.1, p.2)
    (record { opened = subst (Unopened c.args.text.now) (sym none.0) (bad_head _ c.if-text-gt-LONGEST.false _ _ parts _ (formless (λ v w e. subst (Says _ _ c.in_ok-line.line.now) none.1 c.head_told.ensures.told (record { kind = v.0; count = v.1 }) w e))) })

pub returns-else-head-limit : goal.returns-else-head-limit
returns-else-head-limit c =
    let parts = when_some _ _ c.cut.result _ c.in_ok-line.ensures.ok_part c.cut.ensures.parts in
    let head = c.in_ok-head.head in
    let told = subst (Says _ _ c.in_ok-line.line.now) c.in_ok-head.ensures.ok_part c.head_told.ensures.told in
    record { opened = bad_head _ c.if-text-gt-LONGEST.false _ _ parts _ (beyond (head.kind, head.count) told.0 (λ le. omega (arith, c.if-head-limit.false, c.limit.ensures.limit)) told.1) }
