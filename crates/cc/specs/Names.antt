-- Why a renaming is refused.
use Rattle.std.specs.Prelude.{◌≡◌, ℕ, ◌<◌, ◌≤◌, ◌⊎◌, List, length, Some, None, Option}
use Rattle.laws.specs.First.{First, Never}
use Rattle.laws.specs.Layers.{named}
use Rattle.cc.specs.declared.faults.Fault.{Fault}
use Rattle.cc.specs.declared.faults.Fault.TheVariants.{Misnamed}

-- the entry at i is the same as an earlier one
abbrev pub Repeats : List ℕ → ℕ → Type 0
Repeats xs i = (j : ℕ) × (j < i) × (named xs j ≡ named xs i)

-- the entry at i is none of the n marks of the system below, or the same as an earlier one
abbrev pub Bad : ℕ → List ℕ → ℕ → Type 0
Bad n xs i = (n ≤ named xs i) ⊎ Repeats xs i

-- the fault of a renaming, none where it is accepted: the length is looked at first, and then the first bad entry is named
pub data Judged (n : ℕ) (xs : List ℕ) : Option Fault → Type 0 where
  too_long : 128 < length xs → Judged n xs (Some (Misnamed 128))
  bad : {i : ℕ} → length xs ≤ 128 → First (length xs) (Bad n xs) i → Judged n xs (Some (Misnamed i))
  accepted : length xs ≤ 128 → Never (length xs) (Bad n xs) → Judged n xs None

-- each list is judged in one way, and in no other
abbrev pub OneJudgement : Type 0
OneJudgement = (n : ℕ) (xs : List ℕ) (f g : Option Fault) → Judged n xs f → Judged n xs g → f ≡ g
