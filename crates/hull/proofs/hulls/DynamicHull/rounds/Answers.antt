use Rattle.std.proofs.Common.{take, subst, arith}
use mathlib.Core.Path.{fun_ext}
use Rattle.runs.specs.Calls.{Rounds}
use Rattle.hull.proofs.Telling.{counts_by, tight_by}
use Rattle.hull.proofs.hulls.DynamicHull.rounds.Goals as goal

pub returns-then-list-count : goal.returns-then-list-count
returns-then-list-count g c = record { answer = tight_by c.args.list.now c.count-count.result c.count-count.ensures.count c.if-list-count.true }

pub returns : goal.returns
returns g c =
    let h = c.args.self.now in
    let m = g.S.CcSystem.meaning h.system in
    let after = c.rounds_of.new.entries in
    record {
      answer = counts_by c.args.list.now after c.rounds_of.result (omega (arith, c.count-count.ensures.count, c.if-list-count.false))
          (subst (λ s. Rounds m s (take m.count after) c.rounds_of.result) (fun_ext c.flags-flags.ensures.flags) c.rounds_of.ensures.rounds) c.rounds_of.ensures.rest;
    }
