-- Three marks in rising order, and what they tell of the marks as they were given.
use Rattle.std.specs.Prelude.{◌≡◌, ℕ, ◌<◌, Bool, true, false, cond, not}
use Rattle.cc.specs.declared.Turn.{Turn}
use Rattle.cc.specs.declared.Turn.TheVariants.{Left as to-left, Right as to-right}
use Rattle.laws.specs.Systems.{Three}
use Rattle.models.specs.Spread.{Turns, spread}

-- whether a turn is left
abbrev pub is_left : Turn → Bool
is_left to-left = true
is_left to-right = false

-- p, q and r are different marks below n; in rising order they are i, j and k, which turn as p, q and r do, or else the other way
pub record Ordered (n p q r i j k : ℕ) (same : Bool) : Type 0 where
  pub three : Three n p q r
  pub low : i < j
  pub high : j < k
  pub within : k < n
  pub turns : (g : Turns) → spread g p q r ≡ cond same (g i j k) (not (g i j k))
