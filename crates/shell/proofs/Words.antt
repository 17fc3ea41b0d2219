-- The words that name layers.
use Rattle.std.proofs.Common.{◌≡◌, ℕ, zero, suc, ◌<◌, ◌≢◌, false, eqb, List, [], ◌∷◌, ◌++◌, map, length, get_or, Some, None, codes, decimal, All, sym, refl, ap, ◌∙◌, subst, append-nil, arith}
use Rattle.std.specs.List.{slice_split, join_with_byte}
use Rattle.std.proofs.lemmas.Bool.{ne_eqb}
use Rattle.std.proofs.lemmas.Fmt.{digits_decimal}
use Rattle.std.proofs.lemmas.List.{get_or-map, length-map}
use Rattle.std.proofs.lemmas.List.Elements.{All-from_get_or}
use Rattle.std.proofs.lemmas.List.Splits.{slice_split_at, slice_split_none, join_with_byte-slice_split, length-slice_split}
use Rattle.std.proofs.lemmas.Str.Parse.{digit_at}
use Rattle.laws.specs.Layers.{Layer, mirror, renaming}
use Rattle.sheet.specs.Fields.{Lacks, Says}
use Rattle.sheet.specs.Cuts.{cut_unique, lacks_not, not_nil}
use Rattle.shell.specs.Commands.{Wide}
use Rattle.shell.specs.Layered.{WideNames, SomeNames, Wides, joined, layer_word}
use Rattle.sheet.specs.FieldsLemmas.{own}
use Rattle.shell.proofs.Calling.{lacks_by}

-- digits hold no comma
pub wide_lacks : (b n : ℕ) → b < 48 → Wide n → Lacks b (decimal n)
wide_lacks b n low wide i h e =
    let digit = digit_at (decimal n) i (digits_decimal own n (omega arith)) h in
    omega (arith, digit.0)

-- what stands between the commas of a text
abbrev pub entries : List ℕ → List (List ℕ)
entries text = slice_split (λ b. eqb b 44) text

-- a name, as an entry
no_comma : (n : ℕ) → Wide n → All (λ b. eqb b 44 ≡ false) (decimal n)
no_comma n wide = All-from_get_or (λ b. eqb b 44 ≡ false) (decimal n) 0 (λ i h. ne_eqb _ 44 (wide_lacks 44 n (omega arith) wide i h))

-- the entries of names that are parted by commas, and back
pub entries_joined : (xs : List ℕ) → SomeNames xs → entries (joined xs) ≡ map decimal xs
entries_joined [] good = absurd (good.0 refl)
entries_joined (n ∷ []) good = ap entries (append-nil (decimal n)) ∙ slice_split_none (λ b. eqb b 44) (decimal n) (no_comma n good.1.0)
entries_joined (n ∷ k ∷ ns) good =
    slice_split_at (λ b. eqb b 44) (decimal n) 44 (joined (k ∷ ns)) (no_comma n good.1.0) refl ∙ ap (λ l. decimal n ∷ l) (entries_joined (k ∷ ns) ((λ z. not_nil k [] ns z), good.1.1))

joined_entries : (xs : List ℕ) → join_with_byte 44 (map decimal xs) ≡ joined xs
joined_entries [] = refl
joined_entries (n ∷ []) = sym (append-nil (decimal n))
joined_entries (n ∷ k ∷ ns) = ap (λ l. decimal n ++ 44 ∷ l) (joined_entries (k ∷ ns))

module _ (text : List ℕ) where
  -- all entries are names
  pub all_named : (xs : List ℕ) → Wides xs → map decimal xs ≡ entries text → Says SomeNames joined text (Some xs)
  all_named xs wides is = ((some xs is, wides), sym (ap (join_with_byte 44) is ∙ join_with_byte-slice_split 44 text) ∙ joined_entries xs)
    where
      some : (xs : List ℕ) → map decimal xs ≡ entries text → xs ≢ []
      some [] is e = omega (arith, ap length is, length-slice_split (λ b. eqb b 44) text)
      some (n ∷ ns) is e = not_nil n [] ns e

  -- an entry is no name
  pub one_unnamed : (entry : List ℕ) (k : ℕ) → (k < length (entries text)) × (entry ≡ get_or (entries text) k entry) → ((n : ℕ) → Wide n → entry ≡ decimal n → ⊥) → Says SomeNames joined text None
  one_unnamed entry k at none xs good is =
      let parts : entries text ≡ map decimal xs = ap entries is ∙ entries_joined xs good in
      let n = get_or xs k 0 in
      let few : k < length xs = omega (arith, at.0, ap length parts, length-map xs decimal) in
      none n (wide_at xs good.1 k few) (at.1 ∙ ap (λ l. get_or l k entry) parts ∙ get_or-map decimal xs k 0 entry few)
    where
      wide_at : (xs : List ℕ) → Wides xs → (k : ℕ) → k < length xs → Wide (get_or xs k 0)
      wide_at [] wides k few = absurd (omega arith)
      wide_at (n ∷ ns) wides zero few = wides.0
      wide_at (n ∷ ns) wides (suc k) few = wide_at ns wides.1 k (omega arith)

-- one name more
pub wides_more : (xs : List ℕ) (n : ℕ) → Wides xs → Wide n → Wides (xs ++ n ∷ [])
wides_more [] n wides wide = (wide, tt)
wides_more (x ∷ xs) n wides wide = (wides.0, wides_more xs n wides.1 wide)

-- a word with no colon names a mirror or nothing
pub no_colon : (word : List ℕ) → (word ≡ codes "mirror" → ⊥) → Lacks 58 word → (l : Layer) → WideNames l → word ≡ layer_word l → ⊥
no_colon word none l mirror u is = none is
no_colon word none l (renaming xs) u is = lacks_not 58 (codes "rename") (joined xs) (subst (Lacks 58) is l)

-- a word with one
module _ (word head text : List ℕ) (none : word ≡ codes "mirror" → ⊥) (cut : Lacks 58 head × (word ≡ head ++ 58 ∷ text)) where
  colon : (xs : List ℕ) → word ≡ layer_word (renaming xs) → (head ≡ codes "rename") × (text ≡ joined xs)
  colon xs is = cut_unique 58 head text (codes "rename") (joined xs) cut.0 (lacks_by 58 (codes "rename") tt) (sym cut.1 ∙ is)

  pub no_rename : (head ≡ codes "rename" → ⊥) → (l : Layer) → WideNames l → word ≡ layer_word l → ⊥
  no_rename other mirror u is = none is
  no_rename other (renaming xs) u is = other (colon xs is).0

  pub no_names : text ≢ [] → Says SomeNames joined text None → (l : Layer) → WideNames l → word ≡ layer_word l → ⊥
  no_names some bad mirror u is = none is
  no_names some bad (renaming []) u is = some (colon [] is).1
  no_names some bad (renaming (n ∷ ns)) u is = bad (n ∷ ns) ((λ z. not_nil n [] ns z), u) (colon (n ∷ ns) is).1

  pub rename_nothing : head ≡ codes "rename" → text ≡ [] → (xs : List ℕ) → xs ≡ [] → Says WideNames layer_word word (Some (renaming xs))
  rename_nothing h t xs e = subst (λ l. Wides l × (word ≡ codes "rename" ++ 58 ∷ joined l)) (sym e) (tt, cut.1 ∙ (λ i. h i ++ 58 ∷ t i))

  pub renames : head ≡ codes "rename" → (xs : List ℕ) → Says SomeNames joined text (Some xs) → Says WideNames layer_word word (Some (renaming xs))
  renames h xs says = (says.0.1, cut.1 ∙ (λ i. h i ++ 58 ∷ says.1 i))
