use Rattle.sheet.proofs.Lengths.{every_table, short_enough}
use Rattle.sheet.proofs.Rounds.{round_trip}
use Rattle.sheet.proofs.round_trip_stands.Goals as goal

pub returns : goal.returns
returns c = record { back = round_trip; short = short_enough; tables = every_table }
