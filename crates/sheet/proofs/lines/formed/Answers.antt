use Rattle.std.proofs.Common.{◌≡◌, ◌-◌, ◌∷◌, length, take, drop, arith}
use Rattle.sheet.specs.Cuts.{only_mark, cut_none, lettered}
use Rattle.sheet.proofs.lines.formed.Goals as goal

pub returns-in_err-x-in-m : goal.returns-in_err-x-in-m
returns-in_err-x-in-m c =
    let bytes = c.args.bytes.now in
    let begins : bytes ≡ 109 ∷ 9 ∷ take (length bytes - 2) (drop 2 bytes) = lettered _ 109 (omega arith) (omega arith) (omega arith) in
    rw (c.from_residual.ensures, begins) (record { formed = only_mark _ (λ x y l e. cut_none _ x y c.in_err-x-in-m.ensures.parts e) })
