-- A list of crossings is judged in one way only, and is accepted exactly where it is a network.
use Rattle.std.proofs.Common.{◌≡◌, ℕ, zero, suc, ◌<◌, ◌≤◌, ◌↔◌, List, [], ◌∷◌, length, Some, None, Option, refl, ap, subst, arith, lit≤}
use native.Mathlib.Decide.{dec_lt}
use Rattle.cc.specs.declared.faults.Fault.{Fault}
use Rattle.cc.specs.declared.faults.Fault.TheVariants.{Outsize, Recrossed}
use Rattle.models.specs.Networks.{InRange, Legal, Network}
use Rattle.systems.specs.Networks.{FirstWithout, Judged, accepted, outsize, miscounted, beyond, recrossed, OneJudgement, ThreeWires}

-- at most one entry is the first without a property, and none is where all entries have it
same_first : (P : ℕ → Type 0) (n t t' : ℕ) → FirstWithout P n t → FirstWithout P n t' → t ≡ t'
same_first P n t t' x y =
    elim (dec_lt t t') [
      | yes h ↦ absurd (x.fails (y.before t h))
      | no h ↦ elim (dec_lt t' t) [
        | yes k ↦ absurd (y.fails (x.before t' k))
        | no k ↦ omega arith
      ]
    ]

none_first : (P : ℕ → Type 0) (n t : ℕ) → ((s : ℕ) → s < n → P s) → FirstWithout P n t → ⊥
none_first P n t all x = x.fails (all t x.within)

module _ (n : ℕ) (cs : List ℕ) where
  one : {f f' : Option Fault} → Judged n cs f → Judged n cs f' → f ≡ f'
  one (accepted a w) (accepted a' w') = refl
  one (accepted a w) (outsize h) = absurd (omega arith)
  one (accepted a w) (miscounted a' h) = absurd (h w.long)
  one (accepted a w) (beyond {t} a' l f) = absurd (none_first (InRange n cs) (length cs) t w.range f)
  one (accepted a w) (recrossed {t} a' l r f) = absurd (none_first (Legal cs) (length cs) t w.legal f)
  one (outsize h) (accepted a w) = absurd (omega arith)
  one (outsize h) (outsize h') = refl
  one (outsize h) (miscounted a k) = absurd (omega arith)
  one (outsize h) (beyond a l f) = absurd (omega arith)
  one (outsize h) (recrossed a l r f) = absurd (omega arith)
  one (miscounted a h) (accepted a' w) = absurd (h w.long)
  one (miscounted a h) (outsize k) = absurd (omega arith)
  one (miscounted a h) (miscounted a' h') = refl
  one (miscounted a h) (beyond a' l f) = absurd (h l)
  one (miscounted a h) (recrossed a' l r f) = absurd (h l)
  one (beyond {t} a l f) (accepted a' w) = absurd (none_first (InRange n cs) (length cs) t w.range f)
  one (beyond a l f) (outsize h) = absurd (omega arith)
  one (beyond a l f) (miscounted a' h) = absurd (h l)
  one (beyond {t} a l f) (beyond {t = t'} a' l' f') = ap (λ t. Some (Outsize t)) (same_first (InRange n cs) (length cs) t t' f f')
  one (beyond {t} a l f) (recrossed a' l' r f') = absurd (none_first (InRange n cs) (length cs) t r f)
  one (recrossed {t} a l r f) (accepted a' w) = absurd (none_first (Legal cs) (length cs) t w.legal f)
  one (recrossed a l r f) (outsize h) = absurd (omega arith)
  one (recrossed a l r f) (miscounted a' h) = absurd (h l)
  one (recrossed a l r f) (beyond {t} a' l' f') = absurd (none_first (InRange n cs) (length cs) t r f')
  one (recrossed {t} a l r f) (recrossed {t = t'} a' l' r' f') = ap (λ t. Some (Recrossed t)) (same_first (Legal cs) (length cs) t t' f f')

  pub accepts : (f : Option Fault) → Judged n cs f → (f ≡ None) ↔ ((n ≤ 32) × Network n cs)
  accepts f j = (λ e. network_of (subst (Judged n cs) e j), λ h. one j (accepted h.0 h.1))
    where
      network_of : Judged n cs None → (n ≤ 32) × Network n cs
      network_of (accepted a w) = (a, w)

pub one_judgement : OneJudgement
one_judgement n cs f f' j j' = one n cs j j'

pub three_wires : ThreeWires
three_wires = (
  record { three = omega arith; turns = tt },
  record { three = omega arith; turns = λ t. t },
  recrossed (lit≤ tt) refl (λ s h. below s h)
      (record { within = lit≤ tt; fails = λ h. omega arith; before = λ s h. first_legal s h }),
)
  where
    below : (s : ℕ) → s < 3 → InRange 3 (0 ∷ 0 ∷ 1 ∷ []) s
    below zero h = lit≤ tt
    below (suc zero) h = lit≤ tt
    below (suc (suc zero)) h = lit≤ tt
    below (suc (suc (suc s))) h = absurd (omega arith)

    first_legal : (s : ℕ) → s < 1 → Legal (0 ∷ 0 ∷ 1 ∷ []) s
    first_legal zero h = lit≤ tt
    first_legal (suc s) h = absurd (omega arith)
