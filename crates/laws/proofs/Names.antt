-- The lists of renamings: when their entries are different marks below the count.
use Rattle.std.proofs.Common.{ℕ, suc, ◌<◌, Bool, true, false, not, ◌&&◌, T, eqb, ltb, ◌≢◌, List, [], ◌∷◌, length, sym, subst, arith, ltb→lt, lt→ltb, T_not, ne_eqb}
use lib.Dec.{eqb_refl}
use Rattle.std.specs.List.{AllByRecursion}
use Rattle.laws.specs.Outlines.{Apart}
use Rattle.laws.specs.Layers.{named, fresh, different}

pub both : (a b : Bool) → T (a && b) → T a × T b
both true true h = (tt, tt)
both true false h = absurd h
both false b h = absurd h

pub and : (a b : Bool) → T a → T b → T (a && b)
and true true h k = tt
and true false h k = absurd k
and false b h k = absurd h

fresh_all : (x : ℕ) (xs : List ℕ) → T (fresh x xs) → AllByRecursion (λ y. y ≢ x) xs
fresh_all x [] h = tt
fresh_all x (y ∷ ys) h =
    let (n, k) = both (not (eqb x y)) (fresh x ys) h in
    (λ e. T_not (eqb x y) n (subst (λ z. T (eqb x z)) (sym e) (eqb_refl x)), fresh_all x ys k)

-- a list that passes the test has different marks below n
pub different_apart : (n : ℕ) (xs : List ℕ) → T (different n xs) → Apart xs × AllByRecursion (λ x. x < n) xs
different_apart n [] h = (tt, tt)
different_apart n (x ∷ xs) h =
    let (i, k) = both (ltb x n) (fresh x xs && different n xs) h in
    let (f, d) = both (fresh x xs) (different n xs) k in
    let (a, s) = different_apart n xs d in
    ((fresh_all x xs f, a), (ltb→lt x n i, s))

-- a list passes if each of its marks is below n and no two of them are alike
pub different_if : (n : ℕ) (xs : List ℕ) → ((i : ℕ) → i < length xs → named xs i < n)
    → ((i j : ℕ) → i < j → j < length xs → named xs i ≢ named xs j) → T (different n xs)
different_if n [] small apart = tt
different_if n (x ∷ xs) small apart =
    and (ltb x n) (fresh x xs && different n xs) (lt→ltb x n (small 0 (omega arith)))
    (and (fresh x xs) (different n xs) (unseen xs (λ j h. apart 0 (suc j) (omega arith) (omega arith)))
    (different_if n xs (λ i h. small (suc i) (omega arith)) (λ i j h k. apart (suc i) (suc j) (omega arith) (omega arith))))
  where
    unseen : (ys : List ℕ) → ((j : ℕ) → j < length ys → x ≢ named ys j) → T (fresh x ys)
    unseen [] h = tt
    unseen (y ∷ ys) h =
        and (not (eqb x y)) (fresh x ys) (subst (λ b. T (not b)) (sym (ne_eqb x y (h 0 (omega arith)))) tt) (unseen ys (λ j k. h (suc j) (omega arith)))
