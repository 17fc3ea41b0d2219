-- What an opened system holds.
use Rattle.std.specs.Prelude.{◌≡◌, ℕ, List, [], Some, None, Option}
use Rattle.cc.specs.declared.faults.Fault.{Fault}

-- of a count n and a list, and their fault: count and held are the same two where there is no fault; where there is one, the count is 0 and
-- nothing of the list is held
abbrev pub Holds : {E : Type 0} → ℕ → List E → ℕ → List E → Option Fault → Type 0
Holds n list count held None = (count ≡ n) × (held ≡ list)
Holds n list count held (Some f) = (count ≡ 0) × (held ≡ [])
