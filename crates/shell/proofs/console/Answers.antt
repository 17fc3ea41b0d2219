use Rattle.std.proofs.Common.{string_bytes}
use Rattle.hull.proofs.Recording.{made_so}
use Rattle.shell.proofs.Opening.{answered, refused_text}
use Rattle.shell.proofs.console.Goals as goal

pub returns-in-Ok : goal.returns-in-Ok
returns-in-Ok c = record { console = made_so c.with_words.result (λ out t. answered _ _ _ c.in-Ok.system (string_bytes out) c.in-Ok.ensures.opened t) c.with_words.ensures.talk }

pub returns-in-Err : goal.returns-in-Err
returns-in-Err c = record { console = made_so c.refusal.result (λ out e. refused_text _ _ _ c.in-Err.fault (string_bytes out) c.in-Err.ensures.opened e) c.refusal.ensures.line }
