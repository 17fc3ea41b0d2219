-- The wires stand where the crossings so far have taken them, these are legal, and their times are noted.
use Rattle.std.proofs.Common.{◌≡◌, ℕ, ◌<◌, [], length, get_or}
use Rattle.models.specs.Networks.{wire, Legal, crossing}
use Rattle.systems.proofs.Following.{Rows}
use Rattle.systems.proofs.networks.Crossings.times.Given as goal

abbrev pub invariant-loop-t : goal.invariant-loop-t
invariant-loop-t l =
    (length l.wires ≡ 32) × (length l.times ≡ 32) × Rows l.times ×
    ((p : ℕ) → p < l.self.count → get_or l.wires p 0 ≡ wire l.self.list.now l.t p) ×
    ((s : ℕ) → s < l.t → Legal l.self.list.now s) ×
    (((s : ℕ) → s < length l.self.list.now → Legal l.self.list.now s) →
    (i j : ℕ) → i < j → j < l.self.count → crossing l.self.list.now i j < l.t → get_or (get_or l.times i []) j 0 ≡ crossing l.self.list.now i j)
