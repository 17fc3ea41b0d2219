-- What a run of lines says, and how a line or a run of lines is judged.
use Rattle.std.specs.Prelude.{◌≡◌, ℕ, suc, ◌+◌, ◌<◌, ◌≢◌, List, [], ◌∷◌, ◌++◌, length, Result, MatchResult}
use Rattle.cc.specs.declared.faults.Fault.{Fault}
use Rattle.cc.specs.declared.faults.Fault.TheVariants.{Torn, Outsize, Miscounted}
use Rattle.sheet.specs.Fields.{Lacks}

-- a form of lines, each of which says one value of V: `line i v` is the bytes of the i-th line where it says v, `Written i v` that the
-- numbers in it have at most six digits, and `Fits v` that they are in range
pub record Form (V : Type 0) : Type 1 where
  pub line : ℕ → V → List ℕ
  pub Written : ℕ → V → Type 0
  pub Fits : V → Type 0

-- why the i-th line is refused, `number` being its line number in the sheet: it says no value of the form, or one that is out of range
pub data Flawed {V : Type 0} (f : Form V) (i number : ℕ) (bs : List ℕ) : Fault → Type 0 where
  formless : ((v : V) → f.Written i v → bs ≢ f.line i v) → Flawed f i number bs (Torn number)
  beyond : (v : V) → f.Written i v → (f.Fits v → ⊥) → bs ≡ f.line i v → Flawed f i number bs (Outsize number)

-- what is answered for the i-th line, bs being its bytes before the byte 10: the value in range that it says, or why it is refused
abbrev pub Judged : {V : Type 0} → Form V → ℕ → ℕ → List ℕ → Result V Fault → Type 0
Judged {V} f i number bs r = MatchResult r (λ v. f.Written i v × f.Fits v × (bs ≡ f.line i v)) (Flawed f i number bs)

-- why a line that is due is missed, `number` being its line number: no text is left, or none that a byte 10 ends
pub data Missed (rest : List ℕ) (number : ℕ) : Fault → Type 0 where
  ended : rest ≡ [] → Missed rest number (Miscounted number)
  unended : rest ≢ [] → Lacks 10 rest → Missed rest number (Torn number)

-- the lines that say vs, from the i-th on, each ended by a byte 10
abbrev pub lines : {V : Type 0} → Form V → ℕ → List V → List ℕ
lines f i [] = []
lines f i (v ∷ vs) = f.line i v ++ 10 ∷ lines f (suc i) vs

-- the values that the i-th line and those after it say are all in range, and written with at most six digits
abbrev pub Fine : {V : Type 0} → Form V → ℕ → List V → Type 0
Fine f i [] = Unit {0}
Fine f i (v ∷ vs) = f.Written i v × f.Fits v × Fine f (suc i) vs

-- the first lines of a text say vs, all in range, and rest is left
pub record Upto {V : Type 0} (f : Form V) (text : List ℕ) (vs : List V) (rest : List ℕ) : Type 0 where
  pub fine : Fine f 0 vs
  pub read : text ≡ lines f 0 vs ++ rest

-- what is wrong where i of n lines are read and rest is left; the first line after the head is line 2 of the sheet
pub data Wrong {V : Type 0} (f : Form V) (n i : ℕ) (rest : List ℕ) : Fault → Type 0 where
  missing : i < n → rest ≡ [] → Wrong f n i rest (Miscounted (i + 2))
  surplus : i ≡ n → rest ≢ [] → Wrong f n i rest (Miscounted (i + 2))
  torn : i < n → rest ≢ [] → ((v : V) (after : List ℕ) → f.Written i v → rest ≢ f.line i v ++ 10 ∷ after) → Wrong f n i rest (Torn (i + 2))
  outsize : i < n → (v : V) (after : List ℕ) → f.Written i v → (f.Fits v → ⊥) → rest ≡ f.line i v ++ 10 ∷ after → Wrong f n i rest (Outsize (i + 2))

-- a text that is to have n lines is refused: its first lines are fine, and the next one is wrong
pub record Stops {V : Type 0} (f : Form V) (n : ℕ) (text : List ℕ) (fault : Fault) : Type 0 where
  pub good : List V
  pub rest : List ℕ
  pub upto : Upto f text good rest
  pub wrong : Wrong f n (length good) rest fault
