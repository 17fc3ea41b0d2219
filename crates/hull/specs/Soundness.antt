-- `Sound`, the fact that records and a ring are those of the marks that are in, has one proof at most, which is what `IsProp` says; so has
-- each fact that it is made of, and these come first.
use Rattle.std.specs.Prelude.{◌≡◌, ℕ, Bool, ◌≢◌, List, [], ◌∷◌}
use Rattle.std.specs.Coded.{×_prop, Π_prop, →_prop, Unit-prop, le_prop}
use Rattle.std.specs.List.{AllByRecursion, AllByRecursion-prop}
use mathlib.Core.Path.{sym, ap, ◌∙◌}
use mathlib.Core.HLevel.{⊥_prop, ¬_prop}
use mathlib.Core.Logic.{↔_prop, inl, inr}
use native.Mathlib.Nat.{ℕ_set}
use lib.Dec.{T_prop}
use Rattle.laws.specs.Systems.{Meaning, Left}
use Rattle.laws.specs.Outlines.{Arc, Apart, Step, Follows, Hull, Outline, none, one, more, ReadOut}
use Rattle.laws.specs.Theorems.{of}
use Rattle.runs.specs.Calls.{RingOf}
use Rattle.hull.specs.declared.records.Record.{Record}
use Rattle.hull.specs.Records.{at, held, Linked, Sound}

≢_prop : {p q : ℕ} → IsProp (p ≢ q)
≢_prop = ¬_prop

Apart-prop : (l : List ℕ) → IsProp (Apart l)
Apart-prop [] = Unit-prop
Apart-prop (a ∷ l) = ×_prop (AllByRecursion-prop (λ b. b ≢ a) (λ b. ≢_prop) l) (Apart-prop l)

ReadOut-prop : (l : List ℕ) → IsProp (ReadOut l)
ReadOut-prop [] = Unit-prop
ReadOut-prop (a ∷ l) = AllByRecursion-prop _ (λ b. le_prop) l

-- no step of the way starts at a mark that is not on it
step_leaves : (a c : ℕ) (l : List ℕ) (b p q : ℕ) → AllByRecursion (λ r. r ≢ a) (c ∷ l) → Step c l b p q → p ≢ a
step_leaves a c [] b p q (n, _) (e, _) d = n (sym e ∙ d)
step_leaves a c (k ∷ l) b p q (n, _) (inl (e, _)) d = n (sym e ∙ d)
step_leaves a c (k ∷ l) b p q (_, others) (inr s) d = step_leaves a k l b p q others s d

pair_prop : (p a q b : ℕ) → IsProp ((p ≡ a) × (q ≡ b))
pair_prop p a q b = ×_prop (ℕ_set p a) (ℕ_set q b)

Step-prop : (a : ℕ) (l : List ℕ) (b p q : ℕ) → Apart (a ∷ l) → IsProp (Step a l b p q)
Step-prop a [] b p q _ h k = pair_prop p a q b h k
Step-prop a (c ∷ l) b p q (_, _) (inl h) (inl k) = ap inl (pair_prop p a q c h k)
Step-prop a (c ∷ l) b p q (_, rest) (inr h) (inr k) = ap inr (Step-prop c l b p q rest h k)
Step-prop a (c ∷ l) b p q (others, _) (inl h) (inr k) = absurd (step_leaves a c l b p q others k h.0)
Step-prop a (c ∷ l) b p q (others, _) (inr h) (inl k) = absurd (step_leaves a c l b p q others h k.0)

Follows-prop : (ring : List ℕ) (p q : ℕ) → Apart ring → IsProp (Follows ring p q)
Follows-prop [] p q _ = ⊥_prop
Follows-prop (a ∷ l) p q apart = Step-prop a l a p q apart

Left-prop : (m : Meaning) (p q r : ℕ) → IsProp (Left m p q r)
Left-prop m p q r h k =
    λ i. record {
      three = record {
        p_in = le_prop h.three.p_in k.three.p_in i;
        q_in = le_prop h.three.q_in k.three.q_in i;
        r_in = le_prop h.three.r_in k.three.r_in i;
        p≢q = ≢_prop h.three.p≢q k.three.p≢q i;
        q≢r = ≢_prop h.three.q≢r k.three.q≢r i;
        r≢p = ≢_prop h.three.r≢p k.three.r≢p i;
      };
      turns = T_prop (m.left p q r) h.turns k.turns i;
    }

module _ (m : Meaning) (s : ℕ → Bool) where
  Arc-prop : (p q : ℕ) → IsProp (Arc m (of s) p q)
  Arc-prop p q h k =
      λ i. record {
        from = T_prop (s p) h.from k.from i;
        to = T_prop (s q) h.to k.to i;
        apart = ≢_prop h.apart k.apart i;
        left = Π_prop (λ r. →_prop (→_prop (→_prop (Left-prop m p q r)))) h.left k.left i;
      }

  Hull-prop : (ring : List ℕ) → IsProp (Hull m (of s) ring)
  Hull-prop ring h k =
      λ i. record {
        apart = Apart-prop ring h.apart k.apart i;
        arcs = Π_prop (λ p. Π_prop (λ q. ↔_prop (Follows-prop ring p q h.apart) (Arc-prop p q))) h.arcs k.arcs i;
      }

  Outline-prop : (ring : List ℕ) → IsProp (Outline m (of s) ring)
  Outline-prop [] (none h) (none k) = ap none (Π_prop (λ p. →_prop ⊥_prop) h k)
  Outline-prop (a ∷ []) (one x f) (one y g) = λ i. one (T_prop (s a) x y i) (Π_prop (λ p. →_prop (ℕ_set p a)) f g i)
  Outline-prop (a ∷ b ∷ l) (more h) (more k) = ap more (Hull-prop (a ∷ b ∷ l) h k)

  RingOf-prop : (ring : List ℕ) → IsProp (RingOf m s ring)
  RingOf-prop ring h k = λ i. record { outline = Outline-prop ring h.outline k.outline i; lowest = ReadOut-prop ring h.lowest k.lowest i }

Linked-prop : (rs : List Record) (ring : List ℕ) → IsProp (Linked rs ring)
Linked-prop rs ring h k =
    λ i. record {
      beside = Π_prop (λ p. Π_prop (λ q. →_prop (pair_prop (at rs p).after q (at rs q).before p))) h.beside k.beside i;
      positions = Π_prop (λ j. →_prop (ℕ_set _ j)) h.positions k.positions i;
    }

pub Sound-prop : (m : Meaning) (rs : List Record) (ring : List ℕ) → IsProp (Sound m rs ring)
Sound-prop m rs ring h k =
    λ i. record {
      marks = Π_prop (λ p. →_prop le_prop) h.marks k.marks i;
      is_ring = RingOf-prop m (held rs) ring h.is_ring k.is_ring i;
      links = Linked-prop rs ring h.links k.links i;
    }
