-- Lists that are as long as their count asks, and those that are not.
use Rattle.std.proofs.Common.{◌≡◌, ℕ, ◌<◌, ◌≤◌, ◌≢◌, min, ap, sym, ◌∙◌}
use Rattle.std.proofs.Math.Nat.{min-eq_left}
use Rattle.cc.specs.declared.faults.Fault.{Fault}
use Rattle.cc.specs.declared.faults.Fault.TheVariants.{Outsize, Miscounted}
use Rattle.systems.specs.Lengths.{Misfit, beyond, another}

-- what is counted of the lesser of a number and a limit, where the number is within the limit
pub within : (f : ℕ → ℕ) {n limit r : ℕ} → n ≤ limit → r ≡ f (min n limit) → r ≡ f n
within f h e = e ∙ ap f (min-eq_left h)

-- what holds of each of the two faults of a misfit holds of its fault
pub unfit : (f : ℕ → ℕ) (J : Fault → Type 0) {n limit due len : ℕ} {fault : Fault} → due ≡ f (min n limit) →
    (limit < n → J (Outsize limit)) → (n ≤ limit → len ≢ f n → J (Miscounted len)) → Misfit n limit due len fault → J fault
unfit f J e few long (beyond h) = few h
unfit f J e few long (another h k) = long h (λ l. k (l ∙ sym (within f h e)))
