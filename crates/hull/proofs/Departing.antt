-- How many marks a new mark pushes off the ring.
use Rattle.std.proofs.Common.{◌≡◌, ℕ, ◌+◌, ◌-◌, ◌<◌, Bool, List, [], ◌∷◌, ◌++◌, length, subst, inl, inr, arith, length-append}
use native.Mathlib.Decide.{dec_lt}
use Rattle.laws.specs.Systems.{Meaning, Lawful}
use Rattle.laws.specs.Outlines.{Marks}
use Rattle.laws.specs.Theorems.{of}
use Rattle.laws.proofs.Uniqueness.{turned}
use Rattle.runs.specs.Calls.{On, RingOf, OneMore, Lacking}
use Rattle.runs.proofs.Decided.{more_marks}
use Rattle.runs.proofs.Leaving.{one_more, one_more_of_few, turned_length}
use Rattle.hull.proofs.Growth.{few_round}

module _ {m : Meaning} (L : Lawful m) (s t : ℕ → Bool) (x : ℕ) (old new : List ℕ) (marks : Marks m (of s)) (x_in : x < m.count)
    (one : OneMore s x t) (r : RingOf m s old) (r' : RingOf m t new) where
  small_length : length old < 2 → length new ≡ length old + 1
  small_length h =
      let tu = turned L (more_marks m one x_in marks) (few_round L x old h x_in s t marks r one) r'.outline in
      omega (arith, turned_length (old ++ x ∷ []) new tu, length-append old (x ∷ []))

  pub edge_lacking : On new x → Lacking new old (length old + 1 - length new)
  edge_lacking o =
      elim (dec_lt (length old) 2) [
        | yes h ↦ let e = small_length h in subst (Lacking new old) (omega arith) (one_more_of_few L s t x one r r' h).1
        | no h ↦
            elim (one_more L s t x old new marks x_in one r r' (omega arith)) [
              | inl (n, _, _) ↦ absurd (n o)
              | inr (g, _, la, e) ↦ subst (Lacking new old) (omega arith) la
            ]
      ]

  pub inside_lacking : (On new x → ⊥) → Lacking new old 0
  inside_lacking n =
      elim (dec_lt (length old) 2) [
        | yes h ↦ (one_more_of_few L s t x one r r' h).1
        | no h ↦
            elim (one_more L s t x old new marks x_in one r r' (omega arith)) [
              | inl (_, _, la) ↦ la
              | inr (g, o, _, _) ↦ absurd (n o)
            ]
      ]
