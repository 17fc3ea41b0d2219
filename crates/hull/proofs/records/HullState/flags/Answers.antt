use Rattle.std.proofs.Common.{false, sym, ap, ◌∙◌, arith}
use native.Mathlib.Decide.{dec_lt}
use lib.ListN.{get_or-eq_default}
use Rattle.hull.specs.declared.records.Record.{Record}
use Rattle.hull.specs.Records.{away}
use Rattle.hull.proofs.records.HullState.flags.Goals as goal

pub returns : goal.returns
returns c =
    let s = c.args.self.now in
    record {
      flags = λ p. elim (dec_lt p 128) [
        | yes h ↦ c.loop-mark.invariant.so_far p (omega (arith, c.loop-mark-test.false, s.long))
        | no h ↦
            get_or-eq_default c.loop-mark.flags false {n = p} (omega (arith, c.loop-mark.invariant.long))
            ∙ sym (ap (λ (r : Record). r.is_in) (get_or-eq_default s.records away {n = p} (omega (arith, s.long))))
      ];
    }
