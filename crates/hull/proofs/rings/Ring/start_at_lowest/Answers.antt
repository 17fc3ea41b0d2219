use Rattle.std.proofs.Common.{◌≡◌, ◌++◌, take, drop, subst, sym, length, arith}
use Rattle.std.specs.List.{refill}
use Rattle.std.proofs.lemmas.Grind.{common_steps}
use Rattle.laws.specs.Outlines.{ReadOut}
use Rattle.hull.specs.Rings.{listed}
use Rattle.hull.proofs.Lists.{read_out_from}
use Rattle.hull.proofs.rings.Ring.start_at_lowest.Goals as goal

pub returns-in-Some-clause-lowest : goal.returns-in-Some-clause-lowest
returns-in-Some-clause-lowest c =
    let l = listed c.args.self.now in
    let p = c.in-Some.position in
    let (inside, low) = c.in-Some.ensures.lowest in
    let turned : refill (length l) l c.rotate_left.new.self ≡ drop p l ++ take p l = grind (arith, common_steps, c.rotate_left.ensures.after, c.rotate_left.ensures.len, c.deref_mut.ensures.value) in
    subst ReadOut (sym turned) (read_out_from l p (λ _. inside) low)
