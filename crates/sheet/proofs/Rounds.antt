-- A sheet that is written is read back.
use Rattle.std.proofs.Common.{◌≡◌, List, ◌++◌, drop, Ok, sym, refl, ap, ◌∙◌, subst}
use Rattle.sheet.specs.Sheets.{Lists, Others, Reads, Value, due, list, written}
use Rattle.sheet.specs.Theorems.{RoundTrip}
use Rattle.sheet.specs.declared.Kind.{Kind}
use Rattle.sheet.specs.declared.Kind.TheVariants.{Points, FlatPoints, Network, Table}
use Rattle.sheet.proofs.Exact.{one_answer}
use Rattle.sheet.proofs.Lengths.{short_enough}

-- the lists, with another one in the place of that of the kind
abbrev put : (k : Kind) → List (Value k) → Lists → Lists
put Points l b = record { places = l; crossings = b.crossings; turns = b.turns }
put FlatPoints l b = record { places = l; crossings = b.crossings; turns = b.turns }
put Network l b = record { places = b.places; crossings = l; turns = b.turns }
put Table l b = record { places = b.places; crossings = b.crossings; turns = l }

list_put : (k : Kind) (l : List (Value k)) (b : Lists) → list k (put k l b) ≡ l
list_put Points l b = refl
list_put FlatPoints l b = refl
list_put Network l b = refl
list_put Table l b = refl

others_put : (k : Kind) (l : List (Value k)) (b : Lists) → Others k b (put k l b)
others_put Points l b = (refl, refl)
others_put FlatPoints l b = (refl, refl)
others_put Network l b = (refl, refl)
others_put Table l b = (refl, refl)

pub round_trip : RoundTrip
round_trip k n vs b a r sheet long answers =
    let later = vs ++ drop (due k n) (list k b) in
    let reads : Reads (written k n vs) k n b (put k later b) = record {
      values = vs;
      holds = record { short = short_enough k n vs sheet; sheet = sheet; is = refl };
      long = long;
      front = list_put k later b;
      others = others_put k later b;
    } in
    let same = one_answer (written k n vs) b a (put k later b) r (Ok (k, n)) answers reads in
    record {
      ok = same.0;
      front = ap (list k) same.1 ∙ list_put k later b;
      others = subst (Others k b) (sym same.1) (others_put k later b);
    }
