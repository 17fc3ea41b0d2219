-- The marks of a set below a number, one more at a time.
use Rattle.std.proofs.Common.{◌≡◌, ℕ, ◌+◌, ◌<◌, ◌≤◌, Bool, false, T, ltb, ◌≢◌, [], sym, ap, ◌∙◌, subst, arith, ltb→lt, lt-ltb}
use Rattle.laws.specs.Systems.{Meaning}
use Rattle.laws.specs.Outlines.{Marks, none}
use Rattle.laws.specs.Theorems.{of}
use Rattle.laws.proofs.Names.{both, and}
use Rattle.runs.specs.Calls.{RingOf, OneMore}
use Rattle.runs.proofs.Decided.{test_same, set_same}
use Rattle.hull.specs.Records.{below}

module _ (s : ℕ → Bool) where
  pub below_in : (n p : ℕ) → T (below s n p) → T (s p) × (p < n)
  below_in n p h = let (a, b) = both (s p) (ltb p n) h in (a, ltb→lt p n b)

  pub in_below : (n p : ℕ) → T (s p) → p < n → T (below s n p)
  in_below n p h lt = and (s p) (ltb p n) h (subst T (sym (lt-ltb p n lt)) tt)

  pub below_none : (m : Meaning) → RingOf m (below s 0) []
  below_none m = record { outline = none (λ p h. let lt = (below_in 0 p h).1 in omega arith); lowest = tt }

  pub below_more : (n : ℕ) → T (s n) → OneMore (below s n) n (below s (n + 1))
  below_more n h =
      record {
        new = in_below (n + 1) n h (omega arith);
        was = λ k. let lt = (below_in n n k).1 in omega arith;
        others = λ p i. test_same _ _ (λ k. let (a, b) = below_in n p k in in_below (n + 1) p a (omega arith)) (λ k. let (a, b) = below_in (n + 1) p k in in_below n p a (omega arith));
      }

  pub below_skip : (n : ℕ) → s n ≡ false → below s n ≡ below s (n + 1)
  below_skip n h =
      set_same {s = below s n} {t = below s (n + 1)} (λ p. (
        λ k. let (a, b) = below_in n p k in in_below (n + 1) p a (omega arith),
        λ k. let (a, b) = below_in (n + 1) p k in in_below n p a (earlier p b (λ e. subst T (ap s e ∙ h) a)),
      ))
    where
      earlier : (p : ℕ) → p < n + 1 → p ≢ n → p < n
      earlier p lt i = omega arith

  pub below_all : (m : Meaning) → Marks m (of s) → (n : ℕ) → m.count ≤ n → below s n ≡ s
  below_all m marks n h = set_same {s = below s n} {t = s} (λ p. (λ k. (below_in n p k).0, λ k. let lt = marks p k in in_below n p k (omega arith)))
