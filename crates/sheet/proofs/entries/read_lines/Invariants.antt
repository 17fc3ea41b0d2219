use Rattle.std.proofs.Common.{◌≡◌, take}
use Rattle.sheet.specs.Forms.{Upto}
use Rattle.sheet.proofs.entries.read_lines.Given as goal

-- the first lines are in the list, and the spot is that of the next one
abbrev pub invariant-loop-entry : goal.invariant-loop-entry
invariant-loop-entry g l = record {
  count : l.spot.count ≡ l.count;
  at : l.spot.at ≡ l.entry-index;
  read : Upto (g.E.Entry.form l.count) l.text (take l.entry-index l.list) l.rest;
}
