use Rattle.std.proofs.Common.{◌≡◌, ◌≢◌, rules, tests}
use Rattle.std.proofs.lemmas.Iterator.{first_from_find, YieldsList-from_slice}
use Rattle.std.proofs.lemmas.Iterator.Consumers.{YieldsList-from_copied}
use Rattle.shell.specs.Commands.{name}
use Rattle.shell.proofs.Calling.{found_word, verbs}
use Rattle.shell.proofs.commands.verb_of.Goals as goal

pub returns : goal.returns
returns c =
    let word = c.args.word.now in
    record {
      verb = found_word word c.find.result (first_from_find _ _ c.find.result (λ v. word ≡ name v) (λ v. word ≢ name v) c.find.ensures.ran (YieldsList-from_copied (YieldsList-from_slice verbs (search rules))) (λ x q k. search (rules, tests)) (λ x q k. search (rules, tests)));
    }
