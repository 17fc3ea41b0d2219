use Rattle.std.proofs.Common.{vec_items, sym, ◌∙◌, eqb-true}
use Rattle.std.proofs.lemmas.List.{nil_from_length}
use Rattle.shell.proofs.Words.{no_colon, no_rename, rename_nothing}
use Rattle.shell.proofs.layers.layer_of.Goals as goal

pub returns-in_default : goal.returns-in_default
returns-in_default c = record { layer = no_colon _ c.if-is.ensures.same c.in_default.ensures.parts }

pub returns-then-not-is : goal.returns-then-not-is
returns-then-not-is c = record { layer = no_rename _ _ _ c.if-is.ensures.same c.in-Some.ensures.parts c.if-not-is.ensures.same }

pub returns-then-is_empty : goal.returns-then-is_empty
returns-then-is_empty c =
    record {
      layer = rename_nothing _ _ _ c.if-is.ensures.same c.in-Some.ensures.parts c.if-not-is.ensures.same (nil_from_length _ (eqb-true _ 0 (sym c.is_empty.ensures ∙ c.if-is_empty.true))) (vec_items c.new.result)
          c.new.ensures.items;
    }
