-- What is written into a list of the caller's.
use Rattle.std.specs.Prelude.{◌≡◌, ℕ, ◌<◌, ◌≤◌, List, ◌++◌, length, drop, Result, MatchResult}
use Rattle.cc.specs.declared.faults.Fault.{Fault}
use Rattle.cc.specs.declared.faults.Fault.TheVariants.{Tight}

-- the values stand at the front of the list, the rest of it is as before, and the answer is how many they are; or the list is too short for
-- them, which the fault tells, and is as before
abbrev pub Copied : {V : Type 0} → List V → List V → List V → Result ℕ Fault → Type 0
Copied values before after r =
    MatchResult r
    (λ n. (n ≡ length values) × (length values ≤ length before) × (after ≡ values ++ drop (length values) before))
    (λ f. (f ≡ Tight (length values)) × (length before < length values) × (after ≡ before))
