-- The list of the turns of all rising threes gives each turn back at its place, and a pattern's number gives its bits back.
use Rattle.std.proofs.Common.{◌≡◌, ℕ, zero, suc, ◌+◌, ◌*◌, ◌/◌, ◌%◌, ◌^◌, ◌<◌, Bool, true, false, cond, eqb, List, [], ◌∷◌, ◌++◌, length, get_or, refl, ap, ◌∙◌, subst, ap₂, le_of_suc-le-suc, pow-suc, arith, length-append}
use Rattle.std.proofs.lemmas.List.{get_or_append_left, get_or-append-add}
use Rattle.models.specs.Spread.{Turns}
use Rattle.models.specs.Threes.{pairs, threes, each_one, each_two, each_three, place2, place3, table_turns}
use Rattle.models.specs.Catalogue.{bits, value}
use Rattle.models.proofs.Spread.{Agree}

length_one : (n : ℕ) (h : ℕ → Bool) → length (each_one n h) ≡ n
length_one zero h = refl
length_one (suc n) h = ap suc (length_one n (λ k. h (suc k)))

length_two : (n : ℕ) (h : ℕ → ℕ → Bool) → length (each_two n h) ≡ pairs n
length_two zero h = refl
length_two (suc n) h =
    length-append (each_one n (λ k. h 0 (suc k))) (each_two n (λ j k. h (suc j) (suc k))) ∙
    ap₂ ◌+◌ (length_one n (λ k. h 0 (suc k))) (length_two n (λ j k. h (suc j) (suc k)))

pub length_three : (n : ℕ) (h : Turns) → length (each_three n h) ≡ threes n
length_three zero h = refl
length_three (suc n) h =
    length-append (each_two n (λ j k. h 0 (suc j) (suc k))) (each_three n (λ i j k. h (suc i) (suc j) (suc k))) ∙
    ap₂ ◌+◌ (length_two n (λ j k. h 0 (suc j) (suc k))) (length_three n (λ i j k. h (suc i) (suc j) (suc k)))

pub place2_below : (n j k : ℕ) → j < k → k < n → place2 n j k < pairs n
place2_below zero j k x y = absurd (omega arith)
place2_below (suc n) j zero x y = absurd (omega arith)
place2_below (suc n) zero (suc k) x y = omega arith
place2_below (suc n) (suc j) (suc k) x y = omega (arith, place2_below n j k (omega arith) (omega arith))

pub place3_below : (n i j k : ℕ) → i < j → j < k → k < n → place3 n i j k < threes n
place3_below zero i j k x y z = absurd (omega arith)
place3_below (suc n) i zero k x y z = absurd (omega arith)
place3_below (suc n) i (suc j) zero x y z = absurd (omega arith)
place3_below (suc n) zero (suc j) (suc k) x y z = omega (arith, place2_below n j k (omega arith) (omega arith))
place3_below (suc n) (suc i) (suc j) (suc k) x y z = omega (arith, place3_below n i j k (omega arith) (omega arith) (omega arith))

-- an element of two lists joined
in_first : (xs ys : List Bool) (n k : ℕ) → length xs ≡ n → k < n → get_or (xs ++ ys) k false ≡ get_or xs k false
in_first xs ys n k e h = get_or_append_left xs ys false k (omega arith)

in_second : (xs ys : List Bool) (n k : ℕ) → length xs ≡ n → get_or (xs ++ ys) (n + k) false ≡ get_or ys k false
in_second xs ys n k e = subst (λ m. get_or (xs ++ ys) (m + k) false ≡ get_or ys k false) e (get_or-append-add xs ys k false)

read_one : (n : ℕ) (h : ℕ → Bool) (k : ℕ) → k < n → get_or (each_one n h) k false ≡ h k
read_one zero h k x = absurd (omega arith)
read_one (suc n) h zero x = refl
read_one (suc n) h (suc k) x = read_one n (λ k. h (suc k)) k (le_of_suc-le-suc x)

read_two : (n : ℕ) (h : ℕ → ℕ → Bool) (j k : ℕ) → j < k → k < n → get_or (each_two n h) (place2 n j k) false ≡ h j k
read_two zero h j k x y = absurd (omega arith)
read_two (suc n) h j zero x y = absurd (omega arith)
read_two (suc n) h zero (suc k) x y =
    in_first (each_one n (λ k. h 0 (suc k))) _ n k (length_one n _) (le_of_suc-le-suc y) ∙ read_one n _ k (le_of_suc-le-suc y)
read_two (suc n) h (suc j) (suc k) x y =
    in_second (each_one n (λ k. h 0 (suc k))) _ n (place2 n j k) (length_one n _) ∙ read_two n _ j k (le_of_suc-le-suc x) (le_of_suc-le-suc y)

-- each turn stands at its place in the list of all
pub read_three : (n : ℕ) (h : Turns) → Agree n (table_turns n (each_three n h)) h
read_three zero h i j k x y z = absurd (omega arith)
read_three (suc n) h i zero k x y z = absurd (omega arith)
read_three (suc n) h i (suc j) zero x y z = absurd (omega arith)
read_three (suc n) h zero (suc j) (suc k) x y z =
    in_first (each_two n (λ j k. h 0 (suc j) (suc k))) _ (pairs n) (place2 n j k) (length_two n _)
    (place2_below n j k (le_of_suc-le-suc y) (le_of_suc-le-suc z)) ∙
    read_two n _ j k (le_of_suc-le-suc y) (le_of_suc-le-suc z)
read_three (suc n) h (suc i) (suc j) (suc k) x y z =
    in_second (each_two n (λ j k. h 0 (suc j) (suc k))) _ (pairs n) (place3 n i j k) (length_two n _) ∙
    read_three n _ i j k (le_of_suc-le-suc x) (le_of_suc-le-suc y) (le_of_suc-le-suc z)

-- the bits of a list's number are the list
low : (b : Bool) (v : ℕ) → (eqb ((cond b 1 0 + 2 * v) % 2) 1 ≡ b) × ((cond b 1 0 + 2 * v) / 2 ≡ v)
low true v = (ap (λ m. eqb m 1) (let e : (1 + 2 * v) % 2 ≡ 1 = omega arith in e), omega arith)
low false v = (ap (λ m. eqb m 1) (let e : (0 + 2 * v) % 2 ≡ 0 = omega arith in e), omega arith)

pub bits_value : (bs : List Bool) → bits (length bs) (value bs) ≡ bs
bits_value [] = refl
bits_value (b ∷ bs) = ap₂ ◌∷◌ (low b (value bs)).0 (ap (bits (length bs)) (low b (value bs)).1 ∙ bits_value bs)

pub value_below : (bs : List Bool) → value bs < 2 ^ length bs
value_below [] = omega arith
value_below (true ∷ bs) = rw pow-suc (omega (arith, value_below bs))
value_below (false ∷ bs) = rw pow-suc (omega (arith, value_below bs))
