-- Digits that write a number of 64 bits, and what `parse` makes of them.
use Rattle.std.proofs.Common.{◌≡◌, ℕ, ◌^◌, ◌<◌, ◌≤◌, ◌≢◌, Bool, true, false, leb, List, length, get_or, Some, None, Ok, Err, Option, Result, decimal, ◌⊎◌, ⊎_elim, refl, sym, ap, ◌∙◌, subst, arith, leb-true, leb-false}
use Rattle.std.specs.Bool.{then_some}
use Rattle.std.specs.Result.{OkIff, result_ok}
use Rattle.std.specs.Str.{IsUtf8}
use Rattle.std.specs.Str.Parse.{AllDigits, ParsesUnsigned, digits_value}
use Rattle.std.proofs.lemmas.Fmt.{IsAscii-from_digits, decimal-digits_value, decimal_injective, digits_value-decimal}
use Rattle.std.proofs.lemmas.Str.{IsUtf8-from_ascii}
use Rattle.std.proofs.lemmas.Str.Parse.{not_in_digits, parse_plain}
use Rattle.sheet.specs.Fields.{Says, UpTo}
use Rattle.sheet.specs.FieldsLemmas.{own, written_digits, written_some, written_zero}

-- ---- what a number looks like

module _ (n : ℕ) (wide : n < 2 ^ 64) (bs : List ℕ) (is : bs ≡ decimal n) where
  -- neither a plus nor a needless zero in front
  pub unadorned : ((get_or bs 0 0 ≡ 43) ⊎ ((get_or bs 0 0 ≡ 48) × (1 < length bs))) → ⊥
  unadorned a =
      let some = written_some n wide bs is in
      ⊎_elim
      (λ e. not_in_digits own bs 43 (written_digits n wide bs is) (λ r. omega (arith, r.0)) 0 some e)
      (λ e. omega (arith, e.1, written_zero n wide bs is e.0))
      a

  pub number_utf8 : IsUtf8 bs
  number_utf8 = IsUtf8-from_ascii bs (IsAscii-from_digits bs (written_digits n wide bs is))

-- ---- what `parse` says of bytes with no plus in front

abbrev Number : List ℕ → Type 0
Number bs = AllDigits 10 bs × (0 < length bs) × (digits_value 10 bs < 2 ^ 64)

no_numeral : {E : Type 0} (P : Type 0) (v : ℕ) (r : Result ℕ E) (o : Option ℕ) → o ≡ result_ok r → o ≡ None → OkIff r P v → P → ⊥
no_numeral P v (Ok x) o e none h p = absurd (cc)
no_numeral P v (Err x) o e none h p = h p

numeral : {E : Type 0} (P : Type 0) (v : ℕ) (r : Result ℕ E) (n : ℕ) → Some n ≡ result_ok r → OkIff r P v → P × (n ≡ v)
numeral P v (Ok x) n e h = let same : n ≡ x = cc in (h.0, same ∙ h.1)
numeral P v (Err x) n e h = absurd (cc)

module _ (greatest : ℕ) (wide : greatest < 2 ^ 64) (bs t : List ℕ) (is : t ≡ bs) (plain : (get_or bs 0 0 ≢ 43) × (get_or bs 0 0 ≡ 48 → length bs ≤ 1)) {E : Type 0} (r : Result ℕ E) (parsed : ParsesUnsigned 64 10 t r) where
  read : OkIff r (Number bs) (digits_value 10 bs)
  read = parse_plain own 64 bs r (subst (λ t. ParsesUnsigned 64 10 t r) is parsed) plain.0

  -- where `parse` finds no number, the bytes write none up to `greatest`
  pub not_parsed : (o : Option ℕ) → o ≡ result_ok r → o ≡ None → (v : ℕ) → v ≤ greatest → bs ≢ decimal v
  not_parsed o e none v le it =
      let v64 : v < 2 ^ 64 = omega arith in
      no_numeral _ _ r o e none read (written_digits v v64 bs it, written_some v v64 bs it, subst (λ n. n < 2 ^ 64) (sym (ap (digits_value 10) it ∙ digits_value-decimal own v v64)) v64)

  -- where `parse` finds a number, the bytes write it; it may be too great
  pub parsed_number : (n : ℕ) → Some n ≡ result_ok r → Says (UpTo greatest) decimal bs (then_some (leb n greatest) n)
  parsed_number n e = go (leb n greatest) (leb-true n greatest) (leb-false n greatest)
    where
      w : Number bs × (n ≡ digits_value 10 bs)
      w = numeral _ _ r n e read

      it : decimal n ≡ bs
      it = ap decimal w.1 ∙ decimal-digits_value own bs w.0.0 w.0.1 (λ z. omega (arith, plain.1 z, w.0.1)) w.0.2

      go : (b : Bool) → (b ≡ true → n ≤ greatest) → (b ≡ false → greatest < n) → Says (UpTo greatest) decimal bs (then_some b n)
      go true le gt = (le refl, sym it)
      go false le gt = λ v few is. let beyond = gt refl in omega (arith, decimal_injective n v (omega (arith, w.0.2, w.1)) (omega arith) (it ∙ is))
