use Rattle.std.proofs.Common.{◌+◌, sym, subst, arith}
use Rattle.sheet.specs.Turnings.{Rises, triple_rises}
use Rattle.sheet.proofs.spots.Spot.following.Goals as goal

pub following-requires : goal.following-requires
following-requires c =
    let s = c.args.self in
    let rises = subst (λ t. Rises t (s.at + 2)) (sym s.here) (triple_rises s.count s.at) in
    record { small = (omega (arith, s.low), omega (arith, s.low), omega (arith, s.low)) }
