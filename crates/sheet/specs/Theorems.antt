-- What holds of sheets and of their reading.
use Rattle.std.specs.Prelude.{◌≡◌, ℕ, suc, ◌+◌, ◌<◌, ◌≤◌, ◌⊎◌, List, [], ◌∷◌, ◌++◌, length, drop, Ok, Err, Result, ◌≢◌}
use Rattle.cc.specs.Refusals.{number, places}
use Rattle.cc.specs.declared.Turn.{Turn}
use Rattle.cc.specs.declared.faults.Fault.{Fault}
use Rattle.sheet.specs.Fields.{Lacks}
use Rattle.sheet.specs.Sheets.{Answers, Lists, Others, Sheet, Value, due, limit, list, written}
use Rattle.sheet.specs.Triples.{triple_at}
use Rattle.sheet.specs.declared.Kind.{Kind}
use Rattle.sheet.specs.declared.Kind.TheVariants.{Table}
use Rattle.sheet.specs.declared.spots.Triple.{Triple}

-- a text has one answer, and leaves the lists in one way
abbrev pub OneAnswer : Type 0
OneAnswer = (text : List ℕ) (b a c : Lists) (r s : Result (Kind × ℕ) Fault) → Answers text b a r → Answers text b c s → (r ≡ s) × (a ≡ c)

-- the bytes are n lines, each ended by a byte 10
pub data Lined : ℕ → List ℕ → Type 0 where
  none : Lined 0 []
  more : {n : ℕ} {rest : List ℕ} (bs : List ℕ) → Lacks 10 bs → Lined n rest → Lined (suc n) (bs ++ 10 ∷ rest)

-- the text of some sheet in range begins with these bytes
pub record Begins (bytes : List ℕ) : Type 0 where
  pub kind : Kind
  pub count : ℕ
  pub values : List (Value kind)
  pub sheet : Sheet kind count values
  pub rest : List ℕ
  pub is : written kind count values ≡ bytes ++ rest

-- the first lines of the text, `before` of them, begin a sheet, and with the line after them they begin none; the text is no sheet either
pub record StopsAfter (text : List ℕ) (before : ℕ) : Type 0 where
  pub lines : List ℕ
  pub rest : List ℕ
  pub is : text ≡ lines ++ rest
  pub lined : Lined before lines
  pub begins : Begins lines
  pub ends : (bs after : List ℕ) → Lacks 10 bs → rest ≡ bs ++ 10 ∷ after → Begins (lines ++ (bs ++ 10 ∷ [])) → ⊥
  pub no_sheet : (k : Kind) (n : ℕ) (vs : List (Value k)) → Sheet k n vs → text ≢ written k n vs

-- a refusal with number 1, 2 or 3 names the first line at which the text stops being the beginning of a sheet, unless it names line 0,
-- as it does for a text that is too long
abbrev pub FirstLine : Type 0
FirstLine =
    (text : List ℕ) (b a : Lists) (fault : Fault) (before : ℕ) → Answers text b a (Err fault) → number fault ≤ 3 → places fault ≡ (before + 1) ∷ [] → StopsAfter text before

-- the sheet is read: its kind and count are answered, its values stand at the front of the list of its kind, and nothing else has changed
pub record Back (k : Kind) (n : ℕ) (vs : List (Value k)) (b a : Lists) (r : Result (Kind × ℕ) Fault) : Type 0 where
  pub ok : r ≡ Ok (k, n)
  pub front : list k a ≡ vs ++ drop (due k n) (list k b)
  pub others : Others k b a

-- whatever sheet is written is read back, where its list is long enough
abbrev pub RoundTrip : Type 0
RoundTrip =
    (k : Kind) (n : ℕ) (vs : List (Value k)) (b a : Lists) (r : Result (Kind × ℕ) Fault) → Sheet k n vs → due k n ≤ length (list k b) → Answers (written k n vs) b a r → Back k n vs b a r

-- no sheet in range is too long
abbrev pub ShortEnough : Type 0
ShortEnough = (k : Kind) (n : ℕ) (vs : List (Value k)) → Sheet k n vs → length (written k n vs) ≤ 32768

-- every table of turns, of at most 24 marks, has a sheet
abbrev pub EveryTable : Type 0
EveryTable = (n : ℕ) (ts : List Turn) → n ≤ limit Table → length ts ≡ due Table n → Sheet Table n ts

-- the triple is one of marks below n, and i < j < k
pub record Below (n : ℕ) (t : Triple) : Type 0 where
  pub ij : t.i < t.j
  pub jk : t.j < t.k
  pub kn : t.k < n

-- t comes before u in rising order
abbrev pub Before : Triple → Triple → Type 0
Before t u = (t.i < u.i) ⊎ ((t.i ≡ u.i) × ((t.j < u.j) ⊎ ((t.j ≡ u.j) × (t.k < u.k))))

-- the triples of a table's lines are triples of its marks, they rise, and none is left out: so each has one line
pub record Listed (n : ℕ) : Type 0 where
  pub below : (at : ℕ) → at < due Table n → Below n (triple_at n at)
  pub rising : (at later : ℕ) → at < later → later < due Table n → Before (triple_at n at) (triple_at n later)
  pub all : (t : Triple) → Below n t → (at : ℕ) × (at < due Table n) × (triple_at n at ≡ t)

-- the triples of every table in range are listed so
abbrev pub AllTriples : Type 0
AllTriples = (n : ℕ) → n ≤ limit Table → Listed n
