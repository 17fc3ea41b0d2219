use Rattle.std.proofs.Common.{string_bytes}
use Rattle.hull.proofs.Recording.{made_so}
use Rattle.shell.specs.Layered.{bare}
use Rattle.shell.proofs.Layering.{laid_on, refused_on}
use Rattle.shell.proofs.layers.with_layer.Goals as goal

pub returns-in-Ok : goal.returns-in-Ok
returns-in-Ok g c = record { layered = made_so c.converse.result (λ out h. laid_on (string_bytes out) c.in-Ok.ensures.laid (bare h)) c.converse.ensures.dialogue }

pub returns-in-Err : goal.returns-in-Err
returns-in-Err g c = record { layered = made_so c.refusal.result (λ out e. refused_on (string_bytes out) c.in-Err.ensures.laid e) c.refusal.ensures.line }
