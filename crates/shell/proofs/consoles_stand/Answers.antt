use Rattle.shell.proofs.OneWord.{one_census}
use Rattle.shell.proofs.OneConsole.{one_console}
use Rattle.shell.proofs.OneStar.{one_star_console}
use Rattle.shell.proofs.OneTalk.{one_dialogue, one_talk}
use Rattle.shell.proofs.consoles_stand.Goals as goal

pub returns : goal.returns
returns c = record { censuses = one_census; dialogues = one_dialogue; talks = one_talk; one = one_console; one_of_star = one_star_console }
