use Rattle.std.proofs.Common.{◌≡◌, ◌-◌, ◌++◌, length, take, replicate, ap, ◌∙◌, arith}
use Rattle.std.proofs.lemmas.List.{replicate-append-replicate, take-replicate}
use Rattle.shell.proofs.Making.{refilled}
use Rattle.shell.proofs.calls.hand_over.Goals as goal

pub returns-in-Ok : goal.returns-in-Ok
returns-in-Ok c =
    let kept = c.truncate.new.self.items in
    let old = c.deref_mut.result.now in
    let filled = c.fill.new.self in
    let more = c.min-room.result - c.len-then-len-room.result in
    let zeros : filled ≡ replicate (length old) 0 = c.fill.ensures.after (λ y e. e) in
    let same : length old ≡ length kept = ap length c.deref_mut.ensures.value in
    let written = refilled kept filled (c.fill.ensures.len ∙ same) in
    record {
      zeros = c.in-Ok.ensures.ok ∙ ap (λ l. l ++ take more (replicate 128 0)) (written ∙ zeros) ∙ ap (λ l. replicate (length old) 0 ++ l) (take-replicate more 128 0 (omega (arith, c.min-room.ensures)))
          ∙ replicate-append-replicate (length old) more 0 ∙ ap (λ n. replicate n 0) (omega (arith, c.len-then-len-room.ensures.value, c.len.ensures.value, ap length written, c.fill.ensures.len, c.if-len-room.true, c.min-room.ensures));
    }
