-- The outline and the rounds of all marks of a system.
use Rattle.std.specs.Prelude.{ℕ, Bool, List, nat_lt}
use Rattle.laws.specs.Systems.{Meaning}
use Rattle.runs.specs.Calls.{RingOf, Rounds}

-- the marks below n
abbrev pub first : ℕ → ℕ → Bool
first n p = nat_lt p n

-- with all marks of the system in: the outline as it is read out, and the round of each mark
pub record Layered (m : Meaning) (ring rounds : List ℕ) : Type 0 where
  pub is_ring : RingOf m (first m.count) ring
  pub number : ℕ
  pub are_rounds : Rounds m (first m.count) rounds number
