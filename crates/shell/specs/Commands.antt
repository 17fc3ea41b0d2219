-- How a call is written, as a line without the byte 10 that ends it: the call's word, a space, and its number. `decimal` writes no needless
-- zero in front.
use Rattle.std.specs.Prelude.{ℕ, ◌<◌, List, ◌∷◌, ◌++◌, codes, decimal}
use Rattle.shell.specs.declared.commands.Verb.{Verb}
use Rattle.shell.specs.declared.commands.Verb.TheVariants.{Add, Drop, Place, Neighbours, Outline, Rounds}
use Rattle.shell.specs.declared.commands.Command.{Command}
use Rattle.shell.specs.declared.commands.Command.TheVariants.{Call, Census}

-- the word of a call
abbrev pub name : Verb → List ℕ
name Add = codes "add"
name Drop = codes "drop"
name Place = codes "place"
name Neighbours = codes "neighbours"
name Outline = codes "outline"
name Rounds = codes "rounds"

-- a number of 64 bits
abbrev pub Wide : ℕ → Type 0
Wide n = n < 18446744073709551616

-- the line that asks for it
abbrev pub written : Command → List ℕ
written (Call c) = name c.verb ++ 32 ∷ decimal c.number
written Census = codes "census"

-- its number has 64 bits
abbrev pub Fits : Command → Type 0
Fits (Call c) = Wide c.number
Fits Census = Unit {0}
