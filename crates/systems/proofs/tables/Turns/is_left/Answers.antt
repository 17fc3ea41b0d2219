-- The entry is one of the table's, and its turn is that of the three.
use Rattle.std.proofs.Common.{◌<◌, false, map, length, get_or, sym, ap, ◌∙◌, arith}
use Rattle.cc.specs.declared.Turn.TheVariants.{Left as to-left}
use Rattle.models.proofs.Entries.{entry_below}
use Rattle.systems.specs.Orders.{is_left}
use Rattle.systems.proofs.Lefts.{left_at, tested}
use Rattle.systems.proofs.tables.Turns.is_left.Goals as goal
use Rattle.systems.proofs.tables.Turns.is_left.Goals.{After-entry}

inside : (c : After-entry) → c.entry.result < length c.args.self.now.list.now
inside c =
    let h = entry_below c.args.self.now.count c.args.i c.args.j c.args.k c.requires.rising.0 c.requires.rising.1 c.requires.rising.2 c.args.self.now.fits.few in
    omega (arith, h, c.args.self.now.fits.long, c.entry.ensures.entry)

pub bounds-self-entry : goal.bounds-self-entry
bounds-self-entry c = inside c

pub returns : goal.returns
returns c =
    let t = c.args.self.now in
    let e = (goal.at.returns c).After-entry in
    record {
      left = c.eq.ensures ∙ tested (get_or t.list.now c.entry.result to-left)
          ∙ sym (left_at t.list.now c.entry.result to-left (inside e)) ∙ ap (λ k. get_or (map is_left t.list.now) k false) c.entry.ensures.entry;
    }
