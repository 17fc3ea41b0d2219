-- What the shell's calls mean.
use Rattle.std.specs.Prelude.{ℕ, min, List, replicate}
use Rattle.runs.specs.Calls.{add, drop, place, neighbours, outline, rounds}
use Rattle.runs.specs.Calls.{Call as TheCall}
use Rattle.shell.specs.declared.commands.Call.{Call}
use Rattle.shell.specs.declared.commands.Verb.{Verb}
use Rattle.shell.specs.declared.commands.Verb.TheVariants.{Add, Drop, Place, Neighbours, Outline, Rounds}

-- the list that is handed over: as many zeros as there is room for, but no more than 128, since no system has more marks
abbrev pub handed : ℕ → List ℕ
handed room = replicate (min room 128) 0

-- the call that a word and a number mean
abbrev pub call_of : Verb → ℕ → TheCall
call_of Add x = add x
call_of Drop x = drop x
call_of Place x = place x
call_of Neighbours x = neighbours x
call_of Outline room = outline (handed room)
call_of Rounds room = rounds (handed room)

-- the same of the two together
abbrev pub meant : Call → TheCall
meant c = call_of c.verb c.number
