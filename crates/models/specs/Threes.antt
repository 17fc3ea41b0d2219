-- The rising threes of n marks, one after the other in rising order: first marks are compared first, then second, then third ones.
use Rattle.std.specs.Prelude.{ℕ, zero, suc, ◌+◌, ◌-◌, ◌*◌, ◌/◌, Bool, false, List, [], ◌∷◌, ◌++◌, slice_index_or}
use Rattle.laws.specs.Systems.{Meaning}
use Rattle.models.specs.Spread.{Turns, system}

-- how many pairs n marks have
abbrev pub pairs_of : ℕ → ℕ
pairs_of n = n * (n - 1) / 2

-- how many threes n marks have
abbrev pub threes_of : ℕ → ℕ
threes_of n = n * (n - 1) * (n - 2) / 6

-- the number of pairs again, counted by their first marks: those that begin with 0, then the others
abbrev pub pairs : ℕ → ℕ
pairs zero = 0
pairs (suc n) = n + pairs n

-- the number of threes again, counted so
abbrev pub threes : ℕ → ℕ
threes zero = 0
threes (suc n) = pairs n + threes n

-- the list of what h says of each mark below n, in rising order
abbrev pub each_one : ℕ → (ℕ → Bool) → List Bool
each_one zero h = []
each_one (suc n) h = h 0 ∷ each_one n (λ k. h (suc k))

-- of each rising pair
abbrev pub each_two : ℕ → (ℕ → ℕ → Bool) → List Bool
each_two zero h = []
each_two (suc n) h = each_one n (λ k. h 0 (suc k)) ++ each_two n (λ j k. h (suc j) (suc k))

-- of each rising three
abbrev pub each_three : ℕ → Turns → List Bool
each_three zero h = []
each_three (suc n) h = each_two n (λ j k. h 0 (suc j) (suc k)) ++ each_three n (λ i j k. h (suc i) (suc j) (suc k))

-- the entry of the rising pair j, k in such a list
abbrev pub place2 : ℕ → ℕ → ℕ → ℕ
place2 zero j k = 0
place2 (suc n) zero zero = 0
place2 (suc n) zero (suc k) = k
place2 (suc n) (suc j) zero = 0
place2 (suc n) (suc j) (suc k) = n + place2 n j k

-- the entry of the rising three i, j, k in such a list
abbrev pub place3 : ℕ → ℕ → ℕ → ℕ → ℕ
place3 zero i j k = 0
place3 (suc n) i zero k = 0
place3 (suc n) i (suc j) zero = 0
place3 (suc n) zero (suc j) (suc k) = place2 n j k
place3 (suc n) (suc i) (suc j) (suc k) = pairs n + place3 n i j k

-- the turn of i < j < k, from the list of the turns of all rising threes of n marks (true is left)
abbrev pub table_turns : ℕ → List Bool → Turns
table_turns n turns i j k = slice_index_or turns (place3 n i j k) false

-- what such a list of turns means
abbrev pub table : ℕ → List Bool → Meaning
table n turns = system n (table_turns n turns)
