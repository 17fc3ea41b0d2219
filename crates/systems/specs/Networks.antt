-- What the opener of a reflection network of at most 32 wires answers.
use Rattle.std.specs.Prelude.{◌≡◌, ℕ, ◌<◌, ◌≤◌, ◌≢◌, List, [], ◌∷◌, length, Some, None, Option, slice_index, slice_index_or}
use Rattle.cc.specs.declared.faults.Fault.{Fault}
use Rattle.cc.specs.declared.faults.Fault.TheVariants.{Outsize, Miscounted, Recrossed}
use Rattle.laws.specs.Systems.{Left, Right}
use Rattle.models.specs.Threes.{pairs_of}
use Rattle.models.specs.Networks.{InRange, Legal, Network, crossing, network}

-- t is the first entry, of a list of this length, for which P does not hold
pub record FirstWithout (P : ℕ → Type 0) (length t : ℕ) : Type 0 where
  pub within : t < length
  pub fails : P t → ⊥
  pub before : (s : ℕ) → s < t → P s

-- the fault of a network, none where it is accepted; a fault is given only where none of those before it fits
pub data Judged (n : ℕ) (cs : List ℕ) : Option Fault → Type 0 where
  accepted : n ≤ 32 → Network n cs → Judged n cs None
  outsize : 32 < n → Judged n cs (Some (Outsize 32))
  miscounted : n ≤ 32 → length cs ≢ pairs_of n → Judged n cs (Some (Miscounted (length cs)))
  beyond : {t : ℕ} → n ≤ 32 → length cs ≡ pairs_of n → FirstWithout (InRange n cs) (length cs) t → Judged n cs (Some (Outsize t))
  recrossed : {t : ℕ} → n ≤ 32 → length cs ≡ pairs_of n → ((s : ℕ) → s < length cs → InRange n cs s) →
      FirstWithout (Legal cs) (length cs) t → Judged n cs (Some (Recrossed t))

-- the rows have, in row i at j, the entry at which wires i and j cross
abbrev pub Timed : ℕ → List ℕ → List (List ℕ) → Type 0
Timed n cs times = (i j : ℕ) → i < j → j < n → slice_index (slice_index_or times i []) j ≡ crossing cs i j

-- each list of crossings is judged in one way, and in no other
abbrev pub OneJudgement : Type 0
OneJudgement = (n : ℕ) (cs : List ℕ) (f f' : Option Fault) → Judged n cs f → Judged n cs f' → f ≡ f'

-- on three wires the crossings 0, 1, 0 turn 0, 1, 2 left, and 1, 0, 1 turn them right; 0, 0, 1 is refused for its entry 1
abbrev pub ThreeWires : Type 0
ThreeWires =
    Left (network 3 (0 ∷ 1 ∷ 0 ∷ [])) 0 1 2 × Right (network 3 (1 ∷ 0 ∷ 1 ∷ [])) 0 1 2 × Judged 3 (0 ∷ 0 ∷ 1 ∷ []) (Some (Recrossed 1))
