-- The lines of a report: a word, its numbers, each after a tab, and byte 10.
use Rattle.std.specs.Prelude.{ℕ, zero, suc, List, [], ◌∷◌, ◌++◌, length, codes, slice_index, slice_index_or}
use Rattle.cc.specs.Texts.{tabbed}
use Rattle.cc.specs.Refusals.{number, places}
use Rattle.cc.specs.declared.faults.Fault.{Fault}
use Rattle.sheet.specs.Shapes.{letter}
use Rattle.sheet.specs.declared.Kind.{Kind}

-- a text for each number below n, in their order
abbrev pub each : (ℕ → List ℕ) → ℕ → List ℕ
each f zero = []
each f (suc n) = each f n ++ f n

-- a word, numbers with a tab before each, and byte 10
abbrev pub line : List ℕ → List ℕ → List ℕ
line word ns = word ++ tabbed ns ++ 10 ∷ []

-- the number of a refusal, and the places that it uses
abbrev pub fault_line : List ℕ → Fault → List ℕ
fault_line word f = line word (number f ∷ places f)

-- the kind's letter and the count
abbrev pub kind_line : Kind → ℕ → List ℕ
kind_line k n = line (codes "kind" ++ 9 ∷ letter k ∷ []) (n ∷ [])

-- the outline as it is read out
abbrev pub ring_line : List ℕ → List ℕ
ring_line ring = line (codes "ring") ring

-- each mark and its round
abbrev pub round_lines : List ℕ → List ℕ
round_lines rounds = each (λ p. line (codes "round") (p ∷ slice_index rounds p ∷ [])) (length rounds)

-- each pair of a star
abbrev pub pair_lines : List (ℕ × ℕ) → List ℕ
pair_lines pairs = each (λ k. line (codes "star") ((slice_index_or pairs k (0, 0)).0 ∷ (slice_index_or pairs k (0, 0)).1 ∷ [])) (length pairs)

-- the length of the tape
abbrev pub tape_line : ℕ → List ℕ
tape_line total = line (codes "tape") (total ∷ [])
