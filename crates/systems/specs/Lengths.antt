-- A count that is beyond its limit, and a list that is not as long as its count asks.
use Rattle.std.specs.Prelude.{ℕ, ◌<◌, ◌≤◌, ◌≢◌}
use Rattle.cc.specs.declared.faults.Fault.{Fault}
use Rattle.cc.specs.declared.faults.Fault.TheVariants.{Outsize, Miscounted}

-- the fault of a count beyond its limit, or else that of a list of another length than is due
pub data Misfit (count limit due len : ℕ) : Fault → Type 0 where
  beyond : limit < count → Misfit count limit due len (Outsize limit)
  another : count ≤ limit → len ≢ due → Misfit count limit due len (Miscounted len)
