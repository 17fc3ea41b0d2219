-- Numbers, turns and refusals as text.
use Rattle.std.specs.Prelude.{◌≡◌, ◌≢◌, ℕ, List, [], ◌∷◌, ◌++◌, codes, decimal, Result, MatchResult}
use Rattle.cc.specs.declared.faults.Fault.{Fault}
use Rattle.cc.specs.Refusals.{number, places}
use Rattle.cc.specs.declared.Turn.{Turn}
use Rattle.cc.specs.declared.Turn.TheVariants.{Left, Right}
use Rattle.cc.specs.declared.texts.UnknownLetter.{UnknownLetter}

-- numbers, each after a tab
abbrev pub tabbed : List ℕ → List ℕ
tabbed [] = []
tabbed (n ∷ ns) = 9 ∷ (decimal n ++ tabbed ns)

-- a refusal: the word `no`, its number, and the places that it uses
abbrev pub refused : Fault → List ℕ
refused f = codes "no" ++ tabbed (number f ∷ places f)

-- the letter of a turn: L or R
abbrev pub side : Turn → ℕ
side Left = 76
side Right = 82

-- the turn that has this letter; or else no turn has it, and the error holds it
abbrev pub Sided : ℕ → Result Turn UnknownLetter → Type 0
Sided letter r = MatchResult r (λ turn. letter ≡ side turn) (λ error. ((turn : Turn) → letter ≢ side turn) × (error.0 ≡ letter))

-- what is printed for a letter that stands for nothing
abbrev pub unknown : ℕ → List ℕ
unknown letter = codes "unknown letter " ++ decimal letter
