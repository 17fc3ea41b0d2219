-- Words and their bits.
use Rattle.std.proofs.Common.{◌≡◌, ℕ, zero, suc, ◌+◌, ◌*◌, ◌/◌, ◌%◌, ◌^◌, ◌<◌, ◌≤◌, Bool, true, false, cond, eqb, List, [], ◌∷◌, length, filter, take, drop, reverse, fold, drop-cons, sym, refl, ap, ◌∙◌, add-zero, zero-add, add-one, one-add, arith}
use native.Mathlib.Nat.{pow-succ'}
use lib.Count.{ones, ones_step}
use lib.Bits.{bit_or}
use Rattle.std.specs.List.{range_with_len}
use Rattle.std.proofs.lemmas.List.{reverse-append}
use Rattle.std.proofs.lemmas.List.Sums.{fold-append}
use Rattle.hull.specs.declared.records.Record.{Record}
use Rattle.hull.specs.Records.{away, at, held}
use Rattle.std.proofs.lemmas.Nat.{shr-shr, shl_whole, or_shifted}
use Rattle.hull.specs.Words.{word_of, bit, how_many}

abbrev b01 : Bool → ℕ
b01 b = cond b 1 0

b01_le : (b : Bool) → b01 b ≤ 1
b01_le true = omega arith
b01_le false = omega arith

-- ---- a number with one more bit below
module _ (b : Bool) (w : ℕ) where
  low_bit : (b01 b + 2 * w) % 2 ≡ b01 b
  low_bit = omega (arith, b01_le b)

  rest : (b01 b + 2 * w) / 2 ≡ w
  rest = omega (arith, b01_le b)

pub word_lt : (f : ℕ → Bool) (a n : ℕ) → word_of f a n < 2 ^ n
unfolding word_of
word_lt f a zero = omega arith
word_lt f a (suc n) = omega (arith, b01_le (f a), word_lt f (a + 1) n, pow-succ' 2 n)

one_more : (b : Bool) (a : ℕ) (xs : List ℕ) → b01 b + length xs ≡ length (cond b (a ∷ xs) xs)
one_more true a xs = omega arith
one_more false a xs = omega arith

is_one : (b : Bool) → eqb (b01 b) 1 ≡ b
is_one true = refl
is_one false = refl

-- how many bits are set is how many pass
pub word_ones : (f : ℕ → Bool) (a n : ℕ) → ones (word_of f a n) ≡ how_many f a n
unfolding word_of ones how_many
word_ones f a zero = refl
word_ones f a (suc n) =
    ones_step (b01 (f a) + 2 * word_of f (a + 1) n)
    ∙ rw (low_bit (f a) (word_of f (a + 1) n), rest (f a) (word_of f (a + 1) n), word_ones f (a + 1) n) (one_more (f a) a (filter f (range_with_len (a + 1) n)))

pub word_bit : (f : ℕ → Bool) (a n k : ℕ) → k < n → bit (word_of f a n) k ≡ f (a + k)
unfolding word_of
word_bit f a zero k h = absurd (omega arith)
word_bit f a (suc n) zero h =
    let e : (b01 (f a) + 2 * word_of f (a + 1) n) / 2 ^ 0 % 2 ≡ b01 (f a) = omega (arith, b01_le (f a)) in
    ap (λ x. eqb x 1) e ∙ is_one (f a) ∙ ap f (sym (add-zero a))
word_bit f a (suc n) (suc k) h =
    let w : ℕ = b01 (f a) + 2 * word_of f (a + 1) n in
    let e : w / 2 ^ suc k ≡ word_of f (a + 1) n / 2 ^ k =
    ap (λ j. w / 2 ^ j) (sym (one-add k)) ∙ sym (shr-shr w 1 k) ∙ ap (λ x. x / 2 ^ k) (rest (f a) (word_of f (a + 1) n)) in
    ap (λ x. eqb (x % 2) 1) e ∙ word_bit f (a + 1) n k (omega arith) ∙ ap f (omega arith)

-- a record's bit put below those of the records after it
abbrev pub with_bit : ℕ → Record → ℕ
with_bit w r = bit_or (w * 2 ^ 1 % 2 ^ 64) (b01 r.is_in)

with_bit_is : (w n : ℕ) (r : Record) → w < 2 ^ n → n < 64 → with_bit w r ≡ b01 r.is_in + 2 * w
with_bit_is w n r h k =
    ap (λ x. bit_or x (b01 r.is_in)) (shl_whole w n 1 64 h (omega arith)) ∙ or_shifted w 1 (b01 r.is_in) (omega (arith, b01_le r.is_in)) ∙ omega arith

pub word_folded : (rs : List Record) (a n : ℕ) → a + n ≤ length rs → n ≤ 64 → fold with_bit 0 (reverse (take n (drop a rs))) ≡ word_of (held rs) a n
unfolding word_of
word_folded rs a zero h k = refl
word_folded rs a (suc n) h k =
    let r = at rs a in
    let l = take n (drop (a + 1) rs) in
    let cut : take (suc n) (drop a rs) ≡ r ∷ l = ap (take (suc n)) (drop-cons rs a away (omega arith)) ∙ ap (λ i. r ∷ take n (drop i rs)) (sym (add-one a)) in
    ap (λ i. fold with_bit 0 (reverse i)) cut ∙ ap (fold with_bit 0) (reverse-append (r ∷ []) l) ∙ fold-append with_bit 0 (reverse l) (r ∷ [])
    ∙ ap (λ w. with_bit w r) (word_folded rs (a + 1) n (omega arith) (omega arith))
    ∙ with_bit_is (word_of (held rs) (a + 1) n) n r (word_lt (held rs) (a + 1) n) (omega arith)

-- ---- the numbers from a on, in two parts
how_many_none : (f : ℕ → Bool) (a : ℕ) → how_many f a 0 ≡ 0
unfolding how_many
how_many_none f a = refl

how_many_cons : (f : ℕ → Bool) (a n : ℕ) → how_many f a (suc n) ≡ b01 (f a) + how_many f (a + 1) n
unfolding how_many
how_many_cons f a n = sym (one_more (f a) a (filter f (range_with_len (a + 1) n)))

pub how_many_both : (f : ℕ → Bool) (a n m : ℕ) → how_many f a n + how_many f (a + n) m ≡ how_many f a (n + m)
how_many_both f a zero m = omega (arith, how_many_none f a, ap (λ j. how_many f j m) (add-zero a), ap (how_many f a) (zero-add m))
how_many_both f a (suc n) m =
    let e : a + suc n ≡ a + 1 + n = omega arith in
    let s : suc n + m ≡ suc (n + m) = omega arith in
    omega (arith, how_many_cons f a n, ap (λ j. how_many f j m) e, ap (how_many f a) s, how_many_cons f a (n + m), how_many_both f (a + 1) n m)
