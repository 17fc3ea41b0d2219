-- Lemmas on the digits that write a number, on a minus, and on bytes that neither writes. They are proved here; the lemmas that the code
-- cites (`Marks`, `Turnings`) build on them.
use Rattle.std.specs.Prelude.{◌≡◌, ℕ, zero, suc, ◌+◌, ◌-◌, ◌*◌, ◌^◌, ◌<◌, ◌≤◌, ◌≢◌, List, [], ◌∷◌, ◌++◌, length, take, drop, ℤ, pos, negsuc, neg_ℤ, Some, None, decimal, Option, MatchOption, slice_index, slice_index_or, refl}
use Rattle.std.proofs.Common.{sym, ap, subst, ◌∙◌, arith, take-append-drop, get_or-take, length-take-le}
use Rattle.std.proofs.Math.Nat.{sub-zero}
use Rattle.std.specs.Str.Parse.{AllDigits, digits_value}
use Rattle.std.specs.Fmt.{signed_decimal}
use Rattle.std.proofs.lemmas.List.{drop_more, take_all, take_rest}
use Rattle.std.specs.Char.{digit_value}
use Rattle.std.proofs.lemmas.Int.Digits.{digits_more, digits_value_more}
use Rattle.std.proofs.lemmas.Str.Parse.{IsNumeralModel, numerals_by_value, digit_at, tells_digits, digits_value_short}
use Rattle.std.proofs.lemmas.Fmt.{decimal_digit, decimal_nonempty, decimal-digits_value, digits_decimal, first_decimal, length-decimal-le, decimal_injective}
use Rattle.sheet.specs.Fields.{Six, SixSigned, Lacks, Says}

-- a text whose first b stands at i is cut there
pub cut_here : (bs : List ℕ) (i b : ℕ) → i < length bs → slice_index bs i ≡ b → ((k : ℕ) → k < i → slice_index bs k ≢ b) → Lacks b (take (i - 0) bs) × (bs ≡ take (i - 0) bs ++ b ∷ take (length bs - (i + 1)) (drop (i + 1) bs))
cut_here bs i b h here before =
    simp sub-zero (λ k lt e. before k (short k lt) (sym (get_or-take i bs k 0 (short k lt)) ∙ e), sym (take-append-drop i bs) ∙ ap (λ l. take i bs ++ l) (drop_more bs i 0 h ∙ ap (λ y. y ∷ drop (i + 1) bs) here ∙ ap (λ l. b ∷ l) (sym (take_rest bs (i + 1)))))
  where
    short : (k : ℕ) → k < length (take i bs) → k < i
    short k lt = omega (arith, length-take-le i bs (omega arith))

-- the lemmas of `std` on numerals hold of `AllDigits 10` and `digits_value 10`
pub own : IsNumeralModel (AllDigits 10) (digits_value 10)
own = numerals_by_value (AllDigits 10) tells_digits

-- what `decimal` writes of a number of 64 bits
module _ (n : ℕ) (wide : n < 2 ^ 64) (bs : List ℕ) (is : bs ≡ decimal n) where
  pub written_digits : AllDigits 10 bs
  written_digits = subst (AllDigits 10) (sym is) (digits_decimal own n wide)

  pub written_some : 0 < length bs
  written_some = omega (arith, ap length is, decimal_nonempty n wide)

  pub written_zero : slice_index_or bs 0 0 ≡ 48 → length bs ≡ 1
  written_zero z = go n refl
    where
      go : (m : ℕ) → m ≡ n → length bs ≡ 1
      go zero e = ap length (is ∙ sym (ap decimal e) ∙ decimal_digit 0 (omega arith))
      go (suc m) e = absurd (omega (arith, first_decimal n (omega arith) wide, ap (λ l. slice_index l 0) is))

-- a number of at most six digits has no more of them
pub written_six : (n : ℕ) → Six n → (bs : List ℕ) → bs ≡ decimal n → length bs ≤ 6
written_six n six bs is = omega (arith, ap length is, length-decimal-le 6 n (omega arith) (omega arith) (omega arith))

-- digits with no needless zero are what `decimal` writes
pub written : (bs : List ℕ) → AllDigits 10 bs → 0 < length bs → length bs ≤ 6 → (slice_index bs 0 ≡ 48 → length bs ≡ 1) → Six (digits_value 10 bs) × (bs ≡ decimal (digits_value 10 bs))
written bs ds some six plain =
    let small : Six (digits_value 10 bs) = digits_value_short own bs 6 ds six in
    (small, sym (decimal-digits_value own bs ds some plain (omega arith)))

-- what digits say that are read one after another, over the first i bytes
pub record Sofar (bs : List ℕ) (i n : ℕ) : Type 0 where
  pub all : AllDigits 10 (take i bs)
  pub is : n ≡ digits_value 10 (take i bs)

pub digit_value_at : (bs : List ℕ) (i : ℕ) → AllDigits 10 bs → i < length bs → digit_value (slice_index bs i) < 10
digit_value_at [] i ds h = absurd (omega arith)
digit_value_at (b ∷ bs) zero ds h = ds.0
digit_value_at (b ∷ bs) (suc i) ds h = digit_value_at bs i ds.1 (omega arith)

module _ (bs : List ℕ) (i n : ℕ) (few : length bs ≤ 6) (h : i < length bs) (sofar : Sofar bs i n) where
  pub sofar_small : n < 100000
  sofar_small =
      let small : digits_value 10 (take i bs) < 100000 = digits_value_short own (take i bs) 5 sofar.all (omega (arith, length-take-le i bs (omega arith))) in
      omega (arith, sofar.is)

  pub sofar_more : (c d : ℕ) → c ≡ slice_index bs i → (digit_value c < 10) × (d ≡ digit_value c) → Sofar bs (i + 1) (n * 10 + d)
  sofar_more c d here told =
      record {
        all = digits_more 10 bs i h sofar.all (subst (λ x. digit_value x < 10) here told.0);
        is = (λ j. sofar.is j * 10 + (told.1 ∙ ap digit_value here) j) ∙ sym (digits_value_more 10 bs i h);
      }

pub sofar_all : (bs : List ℕ) (i n : ℕ) → length bs ≤ i → Sofar bs i n → AllDigits 10 bs × (n ≡ digits_value 10 bs)
sofar_all bs i n h sofar =
    let whole = take_all i bs h in
    (subst (AllDigits 10) whole sofar.all, sofar.is ∙ ap (digits_value 10) whole)

-- what is said of bytes as digits with no needless zero is what they say as a number
pub says_number : (bs : List ℕ) (r : Option ℕ) → 0 < length bs → length bs ≤ 6 → (slice_index bs 0 ≡ 48 → length bs ≡ 1) → MatchOption r (AllDigits 10 bs → ⊥) (λ n. AllDigits 10 bs × (n ≡ digits_value 10 bs)) → Says Six decimal bs r
says_number bs None some six plain told = λ v few is. told (written_digits v (omega arith) bs is)
says_number bs (Some n) some six plain told =
    let w = written bs told.0 some six plain in
    subst (λ m. Six m × (bs ≡ decimal m)) (sym told.1) w

-- bytes that match `[first, rest @ ..]`, where first is b
pub front : (bs : List ℕ) (b : ℕ) → 0 < length bs → slice_index bs 0 ≡ b → bs ≡ b ∷ take (length bs - 1) (drop 1 bs)
front [] b h is = absurd (omega arith)
front (x ∷ bs) b h is = ap (λ l. x ∷ l) (sym (take_all (suc (length bs) - 1) bs (omega arith))) ∙ ap (λ y. y ∷ take (suc (length bs) - 1) bs) is

-- a minus that no number above 0 follows begins no coordinate
pub no_minus : (bs rest : List ℕ) → bs ≡ 45 ∷ rest → ((n : ℕ) → Six (suc n) → rest ≢ decimal (suc n)) → (z : ℤ) → SixSigned z → bs ≢ signed_decimal z
no_minus bs rest first none (pos n) six is = let d : 36 < 10 = (written_digits n (omega arith) (45 ∷ rest) (sym first ∙ is)).0 in omega arith
no_minus bs rest first none (negsuc n) six is = none n six (ap (drop 1) (sym first ∙ is))

pub minus : (bs rest : List ℕ) (n : ℕ) (z : ℤ) → bs ≡ 45 ∷ rest → Six n → rest ≡ decimal n → 0 < n → z ≡ neg_ℤ (pos n) → SixSigned z × (bs ≡ signed_decimal z)
minus bs rest zero z first six is some e = absurd (omega arith)
minus bs rest (suc n) z first six is some e =
    subst (λ y. SixSigned y × (bs ≡ signed_decimal y)) (sym e) (six, first ∙ ap (λ l. 45 ∷ l) is)

-- what bytes say that begin with a minus, by the number after it
pub says_minus : (bs rest : List ℕ) (n : ℕ) (r : Option ℤ) → bs ≡ 45 ∷ rest → Six n × (rest ≡ decimal n) → MatchOption r (n ≡ 0) (λ z. (0 < n) × (z ≡ neg_ℤ (pos n))) → Says SixSigned signed_decimal bs r
says_minus bs rest n None first told none =
    no_minus bs rest first (λ m six is. omega (arith, none, decimal_injective n (suc m) (omega (arith, told.0)) (omega arith) (sym told.1 ∙ is)))
says_minus bs rest n (Some z) first told some = minus bs rest n z first told.0 told.1 some.0 some.1

-- a number that is written holds no byte below its digits and its minus: neither a tab nor a byte 10
pub decimal_lacks : (b n : ℕ) → b < 48 → Six n → Lacks b (decimal n)
decimal_lacks b n low six i h e =
    let digit = digit_at (decimal n) i (digits_decimal own n (omega arith)) h in
    omega (arith, digit.0)

pub signed_lacks : (b : ℕ) (z : ℤ) → b < 45 → SixSigned z → Lacks b (signed_decimal z)
signed_lacks b (pos n) low six = decimal_lacks b n (omega arith) six
signed_lacks b (negsuc n) low six = λ i. minus_lacks i
  where
    minus_lacks : (i : ℕ) → i < suc (length (decimal (suc n))) → slice_index (45 ∷ decimal (suc n)) i ≢ b
    minus_lacks zero h e = omega arith
    minus_lacks (suc i) h e = decimal_lacks b (suc n) (omega arith) six i (omega arith) e
