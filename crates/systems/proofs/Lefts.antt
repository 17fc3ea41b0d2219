-- The turn at an entry of a list, and whether it is left.
use Rattle.std.proofs.Common.{◌≡◌, ℕ, zero, suc, ◌<◌, false, List, [], ◌∷◌, map, length, get_or, refl, le_of_suc-le-suc, arith}
use Rattle.cc.specs.declared.Turn.{Turn}
use denote.Enum.Bare.{sameb}
use Rattle.cc.specs.contracts.Turn.{the_type}
use Rattle.cc.specs.declared.Turn.TheVariants.{Left as to-left, Right as to-right}
use Rattle.systems.specs.Orders.{is_left}

pub left_at : (ts : List Turn) (k : ℕ) (d : Turn) → k < length ts → get_or (map is_left ts) k false ≡ is_left (get_or ts k d)
left_at [] k d h = absurd (omega arith)
left_at (t ∷ ts) zero d h = refl
left_at (t ∷ ts) (suc k) d h = left_at ts k d (le_of_suc-le-suc h)

-- what the test against left tells
pub tested : (t : Turn) → sameb the_type t to-left ≡ is_left t
tested to-left = refl
tested to-right = refl
