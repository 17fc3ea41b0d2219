-- How many pairs and threes some marks have, by the formulas and by the first mark.
use Rattle.std.proofs.Common.{◌≡◌, ℕ, zero, suc, ◌+◌, ◌-◌, ◌*◌, ◌≤◌, Bool, ◌&&◌, T, eqb, leb, refl, ap, ◌∙◌, mul_comm, mul-add, sub-one, arith, eqb→eq, leb→le}
use Rattle.models.specs.Threes.{pairs, threes, pairs_of, threes_of}
use Rattle.models.specs.Catalogue.{all}
use Rattle.laws.proofs.Names.{both}
use Rattle.models.proofs.Tests.{all_at}

double : (n : ℕ) → 2 * pairs n ≡ n * (n - 1)
double zero = refl
double (suc zero) = refl
double (suc (suc n)) =
    let e = double (suc n) in
    let f : suc n * suc (suc n) ≡ suc n * n + suc n * 2 = rw (← mul-add (suc n) n 2) (ap (λ m. suc n * m) (omega arith)) in
    let g : suc (suc n) * suc n ≡ suc n * suc (suc n) = mul_comm (suc (suc n)) (suc n) in
    let x : 2 * pairs (suc n) ≡ suc n * n = e ∙ ap (λ m. suc n * m) (omega arith) in
    rw (sub-one (suc (suc n))) (omega arith)

pub pairs_is : (n : ℕ) → pairs n ≡ pairs_of n
pairs_is n = let e = double n in omega arith

pairs_right : ℕ → Bool
pairs_right n = leb (pairs_of n) 496

pairs_computed : T (all 33 pairs_right)
unfolding pairs_right
pairs_computed = tt

pub pairs_few : (n : ℕ) → n ≤ 32 → pairs_of n ≤ 496
unfolding pairs_right
pairs_few n h = leb→le (pairs_of n) 496 (all_at 33 pairs_right pairs_computed n (omega arith))

threes_right : ℕ → Bool
threes_right n = eqb (threes n) (threes_of n) && leb (threes_of n) 2024

threes_computed : T (all 25 threes_right)
unfolding threes_right
threes_computed = tt

pub threes_is : (n : ℕ) → n ≤ 24 → threes n ≡ threes_of n
unfolding threes_right
threes_is n h = eqb→eq (threes n) (threes_of n) (both (eqb (threes n) (threes_of n)) _ (all_at 25 threes_right threes_computed n (omega arith))).0
