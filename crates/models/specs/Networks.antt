-- Reflection networks. Wires stand 0, 1, .. from top to bottom, and a list of crossings is read from its first entry on:
-- a crossing k swaps the wires at places k and k + 1, where place 0 is the top.
use Rattle.std.specs.Prelude.{◌≡◌, ℕ, zero, suc, ◌<◌, ◌≤◌, Bool, cond, ◌&&◌, ◌↔◌, List, length, ◌==◌, nat_lt, slice_index}
use Rattle.laws.specs.Systems.{Meaning, Left, Lawful}
use Rattle.models.specs.Spread.{Turns, system}
use Rattle.models.specs.Threes.{pairs_of}

-- the place with which a crossing exchanges place p
abbrev pub across : ℕ → ℕ → ℕ
across k p = cond (p == k) (suc k) (cond (p == suc k) k p)

-- the wire at place p after the first t crossings
abbrev pub wire : List ℕ → ℕ → ℕ → ℕ
wire cs zero p = p
wire cs (suc t) p = wire cs t (across (slice_index cs t) p)

-- the upper one of the two wires that the crossing at entry t swaps
abbrev pub upper : List ℕ → ℕ → ℕ
upper cs t = wire cs t (slice_index cs t)

-- the lower one
abbrev pub lower : List ℕ → ℕ → ℕ
lower cs t = wire cs t (suc (slice_index cs t))

-- wires i and j cross at entry t, i from above
pub record Cross (cs : List ℕ) (i j t : ℕ) : Type 0 where
  pub within : t < length cs
  pub above : upper cs t ≡ i
  pub below : lower cs t ≡ j

-- the crossing at entry t has both its places among n wires
abbrev pub InRange : ℕ → List ℕ → ℕ → Type 0
InRange n cs t = suc (slice_index cs t) < n

-- the crossing at entry t is legal: its upper wire has the smaller number
abbrev pub Legal : List ℕ → ℕ → Type 0
Legal cs t = upper cs t < lower cs t

-- the list is a network of n wires: as many crossings as there are pairs of wires, each in range and legal
pub record Network (n : ℕ) (cs : List ℕ) : Type 0 where
  pub long : length cs ≡ pairs_of n
  pub range : (t : ℕ) → t < length cs → InRange n cs t
  pub legal : (t : ℕ) → t < length cs → Legal cs t

-- the first number below n that passes a test, or n
abbrev pub first : (ℕ → Bool) → ℕ → ℕ
first f zero = 0
first f (suc n) = cond (f 0) 0 (suc (first (λ t. f (suc t)) n))

-- the first entry at which wires i and j cross, i from above; the length of the list where they do not
abbrev pub crossing : List ℕ → ℕ → ℕ → ℕ
crossing cs i j = first (λ t. (upper cs t == i) && lower cs t == j) (length cs)

-- i < j < k turn left where i and j cross before j and k
abbrev pub crossing_turns : List ℕ → Turns
crossing_turns cs i j k = nat_lt (crossing cs i j) (crossing cs j k)

-- what a network means: the system whose marks are its wires
abbrev pub network : ℕ → List ℕ → Meaning
network n cs = system n (crossing_turns cs)

-- every two wires of a network cross exactly once: the one with the smaller number from above, and never the other
abbrev pub CrossesOnce : Type 0
CrossesOnce =
    (n : ℕ) (cs : List ℕ) → Network n cs → (i j : ℕ) → i < j → j < n →
    (t : ℕ) × Cross cs i j t × ((s : ℕ) → Cross cs i j s → s ≡ t) × ((s : ℕ) → Cross cs j i s → ⊥)

-- three wires turn left exactly where the first two cross before the last two
abbrev pub TurnsByCrossings : Type 0
TurnsByCrossings =
    (n : ℕ) (cs : List ℕ) → Network n cs → (i j k : ℕ) → i < j → j < k → k < n →
    Left (network n cs) i j k ↔ ((s t : ℕ) × Cross cs i j s × Cross cs j k t × (s < t))

-- every network of at most 128 wires is a CC system
abbrev pub NetworksLawful : Type 0
NetworksLawful = (n : ℕ) (cs : List ℕ) → n ≤ 128 → Network n cs → Lawful (network n cs)
