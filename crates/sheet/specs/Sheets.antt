-- The text of a sheet, and what reading a text answers.
use Rattle.std.specs.Prelude.{◌≡◌, ℕ, ◌+◌, ◌<◌, ◌≤◌, List, ◌∷◌, ◌++◌, length, drop, replicate, pos, decimal, Result, MatchResult, ◌≢◌}
use Rattle.std.specs.Fmt.{signed_decimal}
use Rattle.cc.specs.declared.Turn.{Turn}
use Rattle.cc.specs.declared.Turn.TheVariants.{Left}
use Rattle.cc.specs.declared.faults.Fault.{Fault}
use Rattle.cc.specs.declared.faults.Fault.TheVariants.{Torn, Outsize, Tight}
use Rattle.models.specs.Places.{Near}
use Rattle.models.specs.Threes.{pairs_of, threes_of}
use Rattle.models.specs.declared.places.Place.{Place}
use Rattle.sheet.specs.Fields.{Six, SixSigned}
use Rattle.sheet.specs.Forms.{Fine, Form, Stops, lines}
use Rattle.sheet.specs.Shapes.{spelled, head, mark, crossing, turning}
use Rattle.sheet.specs.Triples.{triple_at}
use Rattle.sheet.specs.declared.Kind.{Kind}
use Rattle.sheet.specs.declared.Kind.TheVariants.{Points, FlatPoints, Network, Table}
use Rattle.sheet.specs.declared.spots.Triple.{Triple}
use Rattle.sheet.specs.declared.rooms.Room.{Room}
use Rattle.sheet.specs.declared.rooms.Values.{Values}
use Rattle.sheet.specs.declared.rooms.Values.TheVariants as values

-- the greatest count that a sheet of the kind may have
abbrev pub limit : Kind → ℕ
limit Points = 128
limit FlatPoints = 128
limit Network = 32
limit Table = 24

-- how many lines follow the head: one for each mark, for each pair, or for each triple
abbrev pub due : Kind → ℕ → ℕ
due Points n = n
due FlatPoints n = n
due Network n = pairs_of n
due Table n = threes_of n

-- the form of the head: the kind's letter and the count
abbrev pub heads : Form (Kind × ℕ)
heads = record { line = λ at v. spelled (head v.0 (decimal v.1)); Written = λ at v. Six v.1; Fits = λ v. v.1 ≤ limit v.0 }

-- the form of a line that says a mark's place
abbrev pub marks : Form Place
marks = record { line = λ at p. spelled (mark (signed_decimal p.x) (signed_decimal p.y)); Written = λ at p. SixSigned p.x × SixSigned p.y; Fits = Near }

-- the form of a line that says a crossing of n wires: k, where it swaps the wires at places k and k + 1
abbrev pub crossings : ℕ → Form ℕ
crossings n = record { line = λ at k. spelled (crossing (decimal k)); Written = λ at. Six; Fits = λ k. k + 2 ≤ n }

-- the marks of a triple have at most six digits
abbrev pub sixes : Triple → Type 0
sixes t = Six t.i × Six t.j × Six t.k

-- the line that says how a triple turns
abbrev pub turn_line : Triple → Turn → List ℕ
turn_line t turn = spelled (turning (decimal t.i) (decimal t.j) (decimal t.k) turn)

-- the form of a line that says how its triple of the n marks turns
abbrev pub turns : ℕ → Form Turn
turns n = record { line = λ at. turn_line (triple_at n at); Written = λ at _. sixes (triple_at n at); Fits = λ _. Unit {0} }

-- what a line after the head says, in the sheets of a kind
abbrev pub Value : Kind → Type 0
Value Points = Place
Value FlatPoints = Place
Value Network = ℕ
Value Table = Turn

-- the form of the lines after the head, in the sheets of a kind and a count
abbrev pub form : (k : Kind) → ℕ → Form (Value k)
form Points n = marks
form FlatPoints n = marks
form Network n = crossings n
form Table n = turns n

-- the text of the sheet of this kind and count with these values
abbrev pub written : (k : Kind) (n : ℕ) → List (Value k) → List ℕ
written k n vs = heads.line 0 (k, n) ++ 10 ∷ lines (form k n) 0 vs

-- a sheet in range: its count, as many values as are due, each in range
pub record Sheet (k : Kind) (n : ℕ) (vs : List (Value k)) : Type 0 where
  pub limited : n ≤ limit k
  pub many : length vs ≡ due k n
  pub fine : Fine (form k n) 0 vs

-- the text is that of a sheet in range, and not too long, which no such text is (`ShortEnough`)
pub record Holds (text : List ℕ) (k : Kind) (n : ℕ) (vs : List (Value k)) : Type 0 where
  pub short : length text ≤ 32768
  pub sheet : Sheet k n vs
  pub is : text ≡ written k n vs

-- the text is that of the sheet with these values
abbrev pub Tells : List ℕ → Values → Type 0
Tells text (values.Points ps) = Holds text Points (length ps.now) ps.now
Tells text (values.FlatPoints ps) = Holds text FlatPoints (length ps.now) ps.now
Tells text (values.Network n cs) = Holds text Network n cs.now
Tells text (values.Table n ts) = Holds text Table n ts.now

-- the text is short enough, and begins with a head in range
pub record Opens (text : List ℕ) (k : Kind) (n : ℕ) (rest : List ℕ) : Type 0 where
  pub short : length text ≤ 32768
  pub limited : n ≤ limit k
  pub is : text ≡ heads.line 0 (k, n) ++ 10 ∷ rest

-- why no lines after a head are looked at: the text is too long, or no head begins it, or one that is out of range
pub data Unopened (text : List ℕ) : Fault → Type 0 where
  long : 32768 < length text → Unopened text (Outsize 0)
  headless : length text ≤ 32768 → ((v : Kind × ℕ) (rest : List ℕ) → heads.Written 0 v → text ≢ heads.line 0 v ++ 10 ∷ rest) → Unopened text (Torn 1)
  overcount : length text ≤ 32768 → (v : Kind × ℕ) (rest : List ℕ) → heads.Written 0 v → (heads.Fits v → ⊥) → text ≡ heads.line 0 v ++ 10 ∷ rest → Unopened text (Outsize 1)

-- the caller's lists
pub record Lists : Type 0 where
  pub places : List Place
  pub crossings : List ℕ
  pub turns : List Turn

-- three lists as the caller's
abbrev pub lists : List Place → List ℕ → List Turn → Lists
lists ps cs ts = record { places = ps; crossings = cs; turns = ts }

-- the list that a sheet of the kind is read into
abbrev pub list : (k : Kind) → Lists → List (Value k)
list Points l = l.places
list FlatPoints l = l.places
list Network l = l.crossings
list Table l = l.turns

-- the two other lists are as before
abbrev pub Others : Kind → Lists → Lists → Type 0
Others Points b a = (a.crossings ≡ b.crossings) × (a.turns ≡ b.turns)
Others FlatPoints b a = (a.crossings ≡ b.crossings) × (a.turns ≡ b.turns)
Others Network b a = (a.places ≡ b.places) × (a.turns ≡ b.turns)
Others Table b a = (a.places ≡ b.places) × (a.crossings ≡ b.crossings)

-- the text is a sheet's, whose values stand at the front of the list of its kind; the rest of that list and the other lists are as before
pub record Reads (text : List ℕ) (k : Kind) (n : ℕ) (b a : Lists) : Type 0 where
  pub values : List (Value k)
  pub holds : Holds text k n values
  pub long : due k n ≤ length (list k b)
  pub front : list k a ≡ values ++ drop (due k n) (list k b)
  pub others : Others k b a

-- why a text is refused: for its length or its head, for the lines after the head, or for a list of its kind that is too short
pub data Declines (text : List ℕ) (b : Lists) (fault : Fault) : Type 0 where
  unopened : Unopened text fault → Declines text b fault
  stopped : (k : Kind) (n : ℕ) (rest : List ℕ) → Opens text k n rest → Stops (form k n) (due k n) rest fault → Declines text b fault
  tight : (k : Kind) (n : ℕ) (vs : List (Value k)) → Holds text k n vs → length (list k b) < due k n → fault ≡ Tight (due k n) → Declines text b fault

-- what `read` answers, and what it leaves in the lists: a refusal leaves them as they were
abbrev pub Answers : List ℕ → Lists → Lists → Result (Kind × ℕ) Fault → Type 0
Answers text b a r = MatchResult r (λ o. Reads text o.0 o.1 b a) (λ e. Declines text b e × (a ≡ b))

-- the room before any sheet is read into it: each place is 0, 0, each crossing 0, and each turn left
abbrev pub Blank : Room → Type 0
Blank room =
    (room.places ≡ replicate 128 (record { x = pos 0; y = pos 0 })) × (room.crossings ≡ replicate 496 0) × (room.turns ≡ replicate 2024 Left)
