-- Answers as text.
use Rattle.std.specs.Prelude.{ℕ, List, [], ◌∷◌, ◌++◌, codes, decimal}
use Rattle.cc.specs.Texts.{tabbed}
use Rattle.hull.specs.declared.answers.Side.{Side}
use Rattle.hull.specs.declared.answers.Side.TheVariants.{Edge, Inside}
use Rattle.hull.specs.declared.answers.Placed.TheVariants.{Edge as EdgeAt, Inside as InsideOf}
use Rattle.hull.specs.declared.histories.Reply.{Reply}
use Rattle.hull.specs.declared.histories.Reply.TheVariants.{Added, Dropped, Placed, Beside, Wrote}

-- the word of a side
abbrev pub word : Side → List ℕ
word Edge = codes "edge"
word Inside = codes "inside"

-- the fields of a reply, parted by tabs; a list that was written into is not shown
abbrev pub fields : Reply → List ℕ
fields (Added a) = word a.side ++ tabbed (a.left ∷ a.units ∷ [])
fields (Dropped n) = decimal n
fields (Placed (EdgeAt i)) = word Edge ++ tabbed (i ∷ [])
fields (Placed (InsideOf a b)) = word Inside ++ tabbed (a ∷ b ∷ [])
fields (Beside a b) = decimal a ++ tabbed (b ∷ [])
fields (Wrote n) = decimal n
