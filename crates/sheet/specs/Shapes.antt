-- The lines of a sheet, without the byte 10 that ends each. A line is its letter, a tab, and its fields, parted by tabs.
use Rattle.std.specs.Prelude.{◌≡◌, ◌≢◌, ℕ, List, [], ◌∷◌, ◌++◌, Result, MatchResult}
use Rattle.cc.specs.Texts.{side}
use Rattle.cc.specs.declared.Turn.{Turn}
use Rattle.cc.specs.declared.texts.UnknownLetter.{UnknownLetter}
use Rattle.sheet.specs.Fields.{Lacks}
use Rattle.sheet.specs.declared.Kind.{Kind}
use Rattle.sheet.specs.declared.Kind.TheVariants.{Points, FlatPoints, Network, Table}
use Rattle.sheet.specs.declared.lines.Line.{Line}
use Rattle.sheet.specs.declared.lines.Line.TheVariants as line

-- a kind's letter: P, F, W or T
abbrev pub letter : Kind → ℕ
letter Points = 80
letter FlatPoints = 70
letter Network = 87
letter Table = 84

-- what is read from a letter: the kind that has it, or an error that holds it where no kind has it
abbrev pub Lettered : ℕ → Result Kind UnknownLetter → Type 0
Lettered b r = MatchResult r (λ kind. b ≡ letter kind) (λ error. ((kind : Kind) → b ≢ letter kind) × (error.0 ≡ b))

-- a line of a sheet, by its fields
pub data Shape : Type 0 where
  head : Kind → List ℕ → Shape
  mark : List ℕ → List ℕ → Shape
  crossing : List ℕ → Shape
  turning : List ℕ → List ℕ → List ℕ → Turn → Shape

-- P, F, W or T of a head, m of a mark, c of a crossing, t of a turn
abbrev pub initial : Shape → ℕ
initial (head kind count) = letter kind
initial (mark x y) = 109
initial (crossing place) = 99
initial (turning i j k turn) = 116

-- what stands after the letter and its tab
abbrev pub fields : Shape → List ℕ
fields (head kind count) = count
fields (mark x y) = x ++ 9 ∷ y
fields (crossing place) = place
fields (turning i j k turn) = i ++ 9 ∷ (j ++ 9 ∷ (k ++ 9 ∷ side turn ∷ []))

-- the bytes of the line
abbrev pub spelled : Shape → List ℕ
spelled s = initial s ∷ 9 ∷ fields s

-- no field but the last holds a tab
abbrev pub Parted : Shape → Type 0
Parted (head kind count) = Unit {0}
Parted (mark x y) = Lacks 9 x
Parted (crossing place) = Unit {0}
Parted (turning i j k turn) = Lacks 9 i × Lacks 9 j × Lacks 9 k

-- the shape of a `Line` of the code
abbrev pub shape : Line → Shape
shape (line.Head kind count) = head kind count.now
shape (line.Mark x y) = mark x.now y.now
shape (line.Crossing place) = crossing place.now
shape (line.Turning i j k turn) = turning i.now j.now k.now turn
