-- A table is judged in one way only, and is accepted exactly where it is lawful.
use Rattle.std.proofs.Common.{◌≡◌, ℕ, T, ◌↔◌, List, [], ◌∷◌, map, Some, None, Option, refl, ap, subst, arith}
use Rattle.cc.specs.declared.Turn.{Turn}
use Rattle.cc.specs.declared.faults.Fault.{Fault}
use Rattle.cc.specs.declared.faults.Fault.TheVariants.{LawlessFour, LawlessFive}
use Rattle.laws.specs.Systems.{Lawful}
use Rattle.models.specs.Threes.{table_turns}
use Rattle.models.specs.Rising.{AllLawful, FirstLawless}
use Rattle.models.specs.Spread.{spread}
use Rattle.models.specs.Catalogue.{keeps}
use Rattle.models.proofs.Patterns.{lawful_all, lawful_tested}
use Rattle.models.proofs.Groups.{one_first}
use Rattle.systems.specs.Orders.{is_left}
use Rattle.systems.specs.Tables.{turn_table, Fits, Judged, accepted, outsize, miscounted, lawless_four, lawless_five, OneJudgement}

module _ (n : ℕ) (turns : List Turn) where
  -- a lawful table has no lawless group
  none_lawless : (k : ℕ) (xs : List ℕ) → Lawful (turn_table n turns) → FirstLawless k (turn_table n turns) xs → ⊥
  none_lawless k xs law first = first.lawless (lawful_all (table_turns n (map is_left turns)) n law k xs first.group)

  some_lawless : (k : ℕ) (xs : List ℕ) → AllLawful k (turn_table n turns) → FirstLawless k (turn_table n turns) xs → ⊥
  some_lawless k xs all first = first.lawless (all xs first.group)

  same_four : (a b c d a' b' c' d' : ℕ) → a ∷ b ∷ c ∷ d ∷ [] ≡ a' ∷ b' ∷ c' ∷ d' ∷ [] → LawlessFour a b c d ≡ LawlessFour a' b' c' d'
  same_four a b c d a' b' c' d' e = cc

  same_five : (a b c d f a' b' c' d' f' : ℕ) → a ∷ b ∷ c ∷ d ∷ f ∷ [] ≡ a' ∷ b' ∷ c' ∷ d' ∷ f' ∷ [] →
      LawlessFive a b c d f ≡ LawlessFive a' b' c' d' f'
  same_five a b c d f a' b' c' d' f' e = cc

  one : {f f' : Option Fault} → Judged n turns f → Judged n turns f' → f ≡ f'
  one (accepted fits law) (accepted fits' law') = refl
  one (accepted fits law) (outsize h) = absurd (omega (arith, fits.few))
  one (accepted fits law) (miscounted h k) = absurd (k fits.long)
  one (accepted fits law) (lawless_four fits' l) = absurd (none_lawless 4 _ law l)
  one (accepted fits law) (lawless_five fits' a l) = absurd (none_lawless 5 _ law l)
  one (outsize h) (accepted fits law) = absurd (omega (arith, fits.few))
  one (outsize h) (outsize h') = refl
  one (outsize h) (miscounted h' k) = absurd (omega arith)
  one (outsize h) (lawless_four fits l) = absurd (omega (arith, fits.few))
  one (outsize h) (lawless_five fits a l) = absurd (omega (arith, fits.few))
  one (miscounted h k) (accepted fits law) = absurd (k fits.long)
  one (miscounted h k) (outsize h') = absurd (omega arith)
  one (miscounted h k) (miscounted h' k') = refl
  one (miscounted h k) (lawless_four fits l) = absurd (k fits.long)
  one (miscounted h k) (lawless_five fits a l) = absurd (k fits.long)
  one (lawless_four fits l) (accepted fits' law) = absurd (none_lawless 4 _ law l)
  one (lawless_four fits l) (outsize h) = absurd (omega (arith, fits.few))
  one (lawless_four fits l) (miscounted h k) = absurd (k fits.long)
  one (lawless_four {a} {b} {c} {d} fits l) (lawless_four {a = a'} {b = b'} {c = c'} {d = d'} fits' l') =
      ap Some (same_four a b c d a' b' c' d' (one_first 4 (turn_table n turns) _ _ l l'))
  one (lawless_four fits l) (lawless_five fits' a l') = absurd (some_lawless 4 _ a l)
  one (lawless_five fits a l) (accepted fits' law) = absurd (none_lawless 5 _ law l)
  one (lawless_five fits a l) (outsize h) = absurd (omega (arith, fits.few))
  one (lawless_five fits a l) (miscounted h k) = absurd (k fits.long)
  one (lawless_five fits a l) (lawless_four fits' l') = absurd (some_lawless 4 _ a l')
  one (lawless_five {a} {b} {c} {d} {e} fits i l) (lawless_five {a = a'} {b = b'} {c = c'} {d = d'} {e = e'} fits' i' l') =
      ap Some (same_five a b c d e a' b' c' d' e' (one_first 5 (turn_table n turns) _ _ l l'))

  pub table_tested : Fits n turns → Lawful (turn_table n turns) → T (keeps n (spread (table_turns n (map is_left turns))))
  table_tested fits law = (lawful_tested (table_turns n (map is_left turns)) n (omega (arith, fits.few))).1 law

  -- the table is accepted exactly where it is lawful
  pub accepts : (f : Option Fault) → Judged n turns f → (f ≡ None) ↔ (Fits n turns × Lawful (turn_table n turns))
  accepts f j = (λ e. lawful_of (subst (Judged n turns) e j), λ h. one j (accepted h.0 h.1))
    where
      lawful_of : Judged n turns None → Fits n turns × Lawful (turn_table n turns)
      lawful_of (accepted fits law) = (fits, law)

pub one_judgement : OneJudgement
one_judgement n turns f f' j j' = one n turns j j'
