-- A line is one call, a word names one layer, and marks have one census.
use Rattle.std.proofs.Common.{◌≡◌, ℕ, zero, suc, ◌/◌, ◌%◌, ◌^◌, ◌<◌, cond, eqb, ◌≢◌, List, [], ◌∷◌, ◌++◌, map, length, get_or, drop, codes, decimal, sym, refl, ap, ◌∙◌, subst, arith, length-append}
use Rattle.std.proofs.lemmas.Fmt.{decimal_injective, decimal_nonempty}
use Rattle.std.proofs.lemmas.Nat.Bits.{same_from_bits_below}
use Rattle.laws.specs.Layers.{Layer, mirror, renaming}
use Rattle.hull.specs.Words.{bit}
use Rattle.sheet.specs.Fields.{Lacks}
use Rattle.sheet.specs.Cuts.{cut_unique, lacks_append, lacks_cons, lacks_not, not_nil}
use Rattle.shell.specs.Commands.{Wide, name, written}
use Rattle.shell.specs.Layered.{WideNames, Wides, commas, joined, layer_word}
use Rattle.shell.specs.declared.commands.Call.{Call as CallWith}
use Rattle.shell.specs.Theorems.{OneCensus}
use Rattle.shell.specs.declared.commands.Verb.{Verb}
use Rattle.shell.specs.declared.commands.Verb.TheVariants.{Add, Drop, Place, Neighbours, Outline, Rounds}
use Rattle.shell.specs.declared.commands.Command.TheVariants.{Call}
use Rattle.shell.specs.declared.commands.Command.TheVariants as command
use Rattle.shell.proofs.Calling.{lacks_by, word_lacks}
use Rattle.shell.proofs.Words.{entries, entries_joined, wide_lacks}

-- ---- calls

-- the verb whose word has this length
abbrev sized : ℕ → Verb
sized n = cond (eqb n 3) Add (cond (eqb n 4) Drop (cond (eqb n 5) Place (cond (eqb n 10) Neighbours (cond (eqb n 7) Outline Rounds))))

sized_name : (v : Verb) → sized (length (name v)) ≡ v
sized_name Add = refl
sized_name Drop = refl
sized_name Place = refl
sized_name Neighbours = refl
sized_name Outline = refl
sized_name Rounds = refl

-- a line is one call
pub one_call : (c d : CallWith) → Wide c.number → Wide d.number → written (Call c) ≡ written (Call d) → c ≡ d
one_call c d wide wide' e =
    let lacks = word_lacks c.verb in
    let (word, number) = cut_unique 32 (name c.verb) (decimal c.number) (name d.verb) (decimal d.number) lacks (word_lacks d.verb) e in
    let verb : c.verb ≡ d.verb = sym (sized_name c.verb) ∙ ap (λ l. sized (length l)) word ∙ sized_name d.verb in
    λ i. record { verb = verb i; number = decimal_injective c.number d.number wide wide' number i }

-- and where it is a call, it does not ask for the census
pub not_census : (c : CallWith) → written (Call c) ≡ written command.Census → ⊥
not_census c e = lacks_not 32 (name c.verb) (decimal c.number) (subst (Lacks 32) (sym e) (lacks_by 32 (codes "census") tt))

-- ---- layers

-- numbers and commas hold no byte below a comma
commas_lack : (b : ℕ) → b < 44 → (xs : List ℕ) → Wides xs → Lacks b (commas xs)
commas_lack b low [] wides = lacks_by b [] tt
commas_lack b low (x ∷ xs) wides =
    lacks_cons b 44 (decimal x ++ commas xs) (omega arith)
    (lacks_append b (decimal x) (commas xs) (wide_lacks b x (omega arith) wides.0) (commas_lack b low xs wides.1))

joined_lacks : (b : ℕ) → b < 44 → (xs : List ℕ) → Wides xs → Lacks b (joined xs)
joined_lacks b low [] wides = lacks_by b [] tt
joined_lacks b low (x ∷ xs) wides =
    lacks_append b (decimal x) (commas xs) (wide_lacks b x (omega arith) wides.0) (commas_lack b low xs wides.1)

-- a word that names a layer holds no space
pub layer_lacks : (l : Layer) → WideNames l → Lacks 32 (layer_word l)
layer_lacks mirror n = lacks_by 32 (codes "mirror") tt
layer_lacks (renaming xs) wides =
    lacks_append 32 (codes "rename") (58 ∷ joined xs) (lacks_by 32 (codes "rename") tt)
    (lacks_cons 32 58 (joined xs) (omega arith) (joined_lacks 32 (omega arith) xs wides))

pub layer_some : (l : Layer) → layer_word l ≢ []
layer_some mirror e = omega (arith, ap length e)
layer_some (renaming xs) e = omega (arith, ap length e)

joined_some : (x : ℕ) (xs : List ℕ) → Wide x → joined (x ∷ xs) ≢ []
joined_some x xs wide e = omega (arith, ap length e, length-append (decimal x) (commas xs), decimal_nonempty x wide)

-- numbers that are written alike are the same
decimals_same : (xs ys : List ℕ) → Wides xs → Wides ys → map decimal xs ≡ map decimal ys → xs ≡ ys
decimals_same [] [] u v e = refl
decimals_same [] (y ∷ ys) u v e = absurd (omega (arith, ap length e))
decimals_same (x ∷ xs) [] u v e = absurd (omega (arith, ap length e))
decimals_same (x ∷ xs) (y ∷ ys) u v e =
    λ i. decimal_injective x y u.0 v.0 (ap (λ l. get_or l 0 []) e) i ∷ decimals_same xs ys u.1 v.1 (ap (drop 1) e) i

-- and so are numbers that are written alike with commas between them
joined_same : (xs ys : List ℕ) → Wides xs → Wides ys → joined xs ≡ joined ys → xs ≡ ys
joined_same [] [] u v e = refl
joined_same [] (y ∷ ys) u v e = absurd (joined_some y ys v.0 (sym e))
joined_same (x ∷ xs) [] u v e = absurd (joined_some x xs u.0 e)
joined_same (x ∷ xs) (y ∷ ys) u v e =
    decimals_same (x ∷ xs) (y ∷ ys) u v
    (sym (entries_joined (x ∷ xs) ((λ z. not_nil x [] xs z), u)) ∙ ap entries e ∙ entries_joined (y ∷ ys) ((λ z. not_nil y [] ys z), v))

-- a word names one layer
pub one_layer : (k l : Layer) → WideNames k → WideNames l → layer_word k ≡ layer_word l → k ≡ l
one_layer mirror mirror u v e = refl
one_layer mirror (renaming xs) u v e =
    absurd (lacks_not 58 (codes "rename") (joined xs) (subst (Lacks 58) e (lacks_by 58 (codes "mirror") tt)))
one_layer (renaming xs) mirror u v e =
    absurd (lacks_not 58 (codes "rename") (joined xs) (subst (Lacks 58) (sym e) (lacks_by 58 (codes "mirror") tt)))
one_layer (renaming xs) (renaming ys) u v e =
    let plain = lacks_by 58 (codes "rename") tt in
    ap renaming (joined_same xs ys u v (cut_unique 58 (codes "rename") (joined xs) (codes "rename") (joined ys) plain plain e).1)

-- ---- the census

-- two bits are the same where both are one or neither is
test_one : (a b : ℕ) → a < 2 → b < 2 → eqb a 1 ≡ eqb b 1 → a ≡ b
test_one zero zero h k e = refl
test_one zero (suc zero) h k e = absurd (omega (arith, ap (λ b. cond {A = ℕ} b 1 0) e))
test_one (suc zero) zero h k e = absurd (omega (arith, ap (λ b. cond {A = ℕ} b 1 0) e))
test_one (suc zero) (suc zero) h k e = refl
test_one zero (suc (suc b)) h k e = absurd (omega arith)
test_one (suc zero) (suc (suc b)) h k e = absurd (omega arith)
test_one (suc (suc a)) b h k e = absurd (omega arith)

-- two words of 64 bits are the same where their bits are
same_word : (v w : ℕ) → v < 2 ^ 64 → w < 2 ^ 64 → ((k : ℕ) → k < 64 → bit v k ≡ bit w k) → v ≡ w
same_word v w fits fits' e =
    same_from_bits_below 64 v w fits fits' (λ k h. test_one (v / 2 ^ k % 2) (w / 2 ^ k % 2) (omega arith) (omega arith) (e k h))

-- marks have one census
pub one_census : OneCensus
one_census s q r c d =
    let low = same_word q.0 r.0 c.low_fits d.low_fits (λ k h. c.low k h ∙ sym (d.low k h)) in
    let high = same_word q.1 r.1 c.high_fits d.high_fits (λ k h. c.high k h ∙ sym (d.high k h)) in
    λ i. (low i, high i, (c.size ∙ sym d.size) i)
