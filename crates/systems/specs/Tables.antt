-- Turn tables: the turns of all rising threes of at most 24 marks, in rising order.
use Rattle.std.specs.Prelude.{◌≡◌, ℕ, ◌<◌, ◌≤◌, ◌≢◌, List, [], ◌∷◌, map, length, Some, None, Option}
use Rattle.cc.specs.declared.Turn.{Turn}
use Rattle.cc.specs.declared.faults.Fault.{Fault}
use Rattle.cc.specs.declared.faults.Fault.TheVariants.{Outsize, Miscounted, LawlessFour, LawlessFive}
use Rattle.laws.specs.Systems.{Meaning, Lawful}
use Rattle.models.specs.Threes.{table, threes_of, place3}
use Rattle.models.specs.Rising.{Before, AllLawful, FirstLawless}
use Rattle.systems.specs.Orders.{is_left}

-- what a list of turns means: the turn of i < j < k is the entry of that three, and other orders follow by laws 1 and 2
abbrev pub turn_table : ℕ → List Turn → Meaning
turn_table n turns = table n (map is_left turns)

-- the count is within its limit, and the list has one turn for each three
pub record Fits (n : ℕ) (turns : List Turn) : Type 0 where
  pub few : n ≤ 24
  pub long : length turns ≡ threes_of n

-- the fault of a table, none where it is accepted; a fault is given only where none of those before it fits
pub data Judged (n : ℕ) (turns : List Turn) : Option Fault → Type 0 where
  accepted : Fits n turns → Lawful (turn_table n turns) → Judged n turns None
  outsize : 24 < n → Judged n turns (Some (Outsize 24))
  miscounted : n ≤ 24 → length turns ≢ threes_of n → Judged n turns (Some (Miscounted (length turns)))
  lawless_four : {a b c d : ℕ} → Fits n turns → FirstLawless 4 (turn_table n turns) (a ∷ b ∷ c ∷ d ∷ []) →
      Judged n turns (Some (LawlessFour a b c d))
  lawless_five : {a b c d e : ℕ} → Fits n turns → AllLawful 4 (turn_table n turns) →
      FirstLawless 5 (turn_table n turns) (a ∷ b ∷ c ∷ d ∷ e ∷ []) → Judged n turns (Some (LawlessFive a b c d e))

-- each list of turns is judged in one way, and in no other
abbrev pub OneJudgement : Type 0
OneJudgement = (n : ℕ) (turns : List Turn) (f f' : Option Fault) → Judged n turns f → Judged n turns f' → f ≡ f'

-- the threes stand in rising order: each has its entry in a list of n (n - 1) (n - 2) / 6, and of two threes the one that comes before the
-- other has the smaller entry
abbrev pub EntriesRise : Type 0
EntriesRise =
    (n i j k i' j' k' : ℕ) → n ≤ 24 → i < j → j < k → k < n → i' < j' → j' < k' → k' < n →
    (place3 n i j k < threes_of n) ×
    (Before (i ∷ j ∷ k ∷ []) (i' ∷ j' ∷ k' ∷ []) → place3 n i j k < place3 n i' j' k')
