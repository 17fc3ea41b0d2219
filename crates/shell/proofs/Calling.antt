-- The words of the calls, and the lines that they stand in.
use Rattle.std.proofs.Common.{◌≡◌, ℕ, not, T, eqb, ◌≢◌, List, [], ◌∷◌, ◌++◌, length, Some, None, Option, MatchOption, ◌<◌, codes, decimal, sym, ◌∙◌, subst, arith, T_not}
use Rattle.std.specs.List.{AllWithin, HoldsAt}
use lib.Dec.{eqb_refl}
use Rattle.laws.specs.Layers.{fresh}
use Rattle.laws.proofs.Names.{both}
use Rattle.sheet.specs.Fields.{Lacks}
use Rattle.sheet.specs.Cuts.{cut_unique, lacks_not, lacks_cons}
use Rattle.shell.specs.Commands.{Wide, Fits, name, written}
use Rattle.shell.specs.declared.commands.Verb.{Verb}
use Rattle.shell.specs.declared.commands.Verb.TheVariants.{Add, Drop, Place, Neighbours, Outline, Rounds}
use Rattle.shell.specs.declared.commands.Command.{Command}
use Rattle.shell.specs.declared.commands.Command.TheVariants.{Call, Census}

pub lacks_by : (b : ℕ) (bs : List ℕ) → T (fresh b bs) → Lacks b bs
lacks_by b [] t = λ i h. absurd (omega arith)
lacks_by b (x ∷ bs) t =
    let (n, k) = both (not (eqb b x)) (fresh b bs) t in
    lacks_cons b x bs (λ e. T_not (eqb b x) n (subst (λ z. T (eqb b z)) (sym e) (eqb_refl b))) (lacks_by b bs k)

-- a space stands in no word
pub word_lacks : (v : Verb) → Lacks 32 (name v)
word_lacks Add = lacks_by 32 (name Add) tt
word_lacks Drop = lacks_by 32 (name Drop) tt
word_lacks Place = lacks_by 32 (name Place) tt
word_lacks Neighbours = lacks_by 32 (name Neighbours) tt
word_lacks Outline = lacks_by 32 (name Outline) tt
word_lacks Rounds = lacks_by 32 (name Rounds) tt

-- a line without a space is no call but the census
pub no_space : (bs : List ℕ) → (bs ≡ codes "census" → ⊥) → Lacks 32 bs → (c : Command) → Fits c → bs ≡ written c → ⊥
no_space bs none l (Call c) wide is = lacks_not 32 (name c.verb) (decimal c.number) (subst (Lacks 32) is l)
no_space bs none l Census u is = none is

-- a line with a space is no call where its parts are not the word of a call and a number
pub no_parts : (bs w d : List ℕ) → (bs ≡ codes "census" → ⊥) → Lacks 32 w × (bs ≡ w ++ 32 ∷ d) → ((v : Verb) (n : ℕ) → Wide n → w ≡ name v → d ≡ decimal n → ⊥) → (c : Command) → Fits c → bs ≡ written c → ⊥
no_parts bs w d none cut parts (Call c) wide is =
    let e = cut_unique 32 w d (name c.verb) (decimal c.number) cut.0 (word_lacks c.verb) (sym cut.1 ∙ is) in
    parts c.verb c.number wide e.0 e.1
no_parts bs w d none cut parts Census u is = none is

-- all the calls, in the order of their list
abbrev pub verbs : List Verb
verbs = Add ∷ Drop ∷ Place ∷ Neighbours ∷ Outline ∷ Rounds ∷ []

-- the first of them that has the word, or none of them has it
pub found_word : (w : List ℕ) (r : Option Verb) → (let No : Verb → Type 0 = λ v. w ≢ name v in MatchOption r (AllWithin No verbs 0 (length verbs)) (λ v. (w ≡ name v) × (i : ℕ) × (i < length verbs) × HoldsAt (λ u. u ≡ v) verbs i × AllWithin No verbs 0 i))
    → MatchOption r ((v : Verb) → w ≢ name v) (λ v. w ≡ name v)
found_word w (Some v) found = found.0
found_word w None none = each
  where
    each : (v : Verb) → w ≢ name v
    each Add = none 0 Add (omega arith) (omega arith)
    each Drop = none 1 Add (omega arith) (omega arith)
    each Place = none 2 Add (omega arith) (omega arith)
    each Neighbours = none 3 Add (omega arith) (omega arith)
    each Outline = none 4 Add (omega arith) (omega arith)
    each Rounds = none 5 Add (omega arith) (omega arith)
