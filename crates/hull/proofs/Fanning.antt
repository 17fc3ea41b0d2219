-- The fan triangle around a mark within the ring, by places.
use Rattle.std.proofs.Common.{◌≡◌, ℕ, ◌+◌, ◌<◌, ◌≤◌, true, false, T, List, [], ◌∷◌, length, get_or, sym, refl, ap, ◌∙◌, subst, inl, inr, arith}
use Rattle.std.proofs.ByRecursion.{All-get_or}
use Rattle.laws.specs.Systems.{Meaning, Three, Left, Lawful}
use Rattle.laws.specs.Outlines.{Follows}
use Rattle.laws.specs.Theorems.{of}
use Rattle.laws.proofs.Turns.{cyclic², swapped}
use Rattle.laws.proofs.Fans.{three_or_more}
use Rattle.laws.proofs.Renaming.{named_apart}
use Rattle.laws.proofs.Uniqueness.{outline_apart}
use Rattle.runs.specs.Calls.{Fan, fan}
use Rattle.runs.proofs.Standing.{outline_in, off_all, left_of_all, hull_beside}
use Rattle.hull.specs.Rings.{Within, rotated}
use Rattle.hull.proofs.Lists.{rotated_next, rotated_last, follows_at}

module _ {m : Meaning} (L : Lawful m) (l : List ℕ) (x : ℕ) (w : Within m l x) where
  pub three_long : 3 ≤ length l
  three_long = three_or_more L w.is_ring.outline w.x_in (off_all l x w.x_off)

  mark_at : (i : ℕ) → i < length l → T (w.set (get_or l i 0))
  mark_at i h = All-get_or (of w.set) l i 0 h (outline_in w.is_ring.outline)

  -- the first mark, another mark of the ring, and x
  pub three_from : (i : ℕ) → 0 < i → i < length l → Three m.count (get_or l 0 0) (get_or l i 0) x
  three_from i pos h =
      let long = three_long in
      record {
        p_in = w.marks _ (mark_at 0 (omega arith));
        q_in = w.marks _ (mark_at i h);
        r_in = w.marks x w.x_in;
        p≢q = named_apart l (outline_apart w.is_ring.outline) 0 i (omega arith) h (omega arith);
        q≢r = λ e. w.x_off (i, h, e);
        r≢p = λ e. w.x_off (0, omega arith, sym e);
      }

  pub left_at : (i : ℕ) → i < length l → Left m (get_or l i 0) (get_or (rotated l) i 0) x
  left_at i h = left_of_all (hull_beside L w.is_ring.outline w.x_in w.x_off) w.x_in w.x_off _ _ (follows_at l i h)

  -- where the bisection begins, and where it ends
  pub left_of_second : Left m (get_or l 0 0) (get_or l 1 0) x
  left_of_second = let long = three_long in subst (λ q. Left m (get_or l 0 0) q x) (rotated_next l 0 (omega arith)) (left_at 0 (omega arith))

  pub right_of_last : (i : ℕ) → i + 1 ≡ length l → Left m (get_or l 0 0) x (get_or l i 0)
  right_of_last i e = L.cyclic (subst (λ q. Left m (get_or l i 0) q x) (rotated_last l i (omega arith) (omega arith)) (left_at i (omega arith)))

  pub fan_at : (i j : ℕ) → 0 < i → j ≡ i + 1 → j < length l → Left m (get_or l 0 0) (get_or l i 0) x → Left m (get_or l 0 0) x (get_or l j 0)
      → Fan m x (get_or l i 0) (get_or l j 0) l
  fan_at i j pos e h left right = go l refl
    where
      go : (k : List ℕ) → l ≡ k → Fan m x (get_or l i 0) (get_or l j 0) k
      go [] d = absurd (omega (arith, ap length d))
      go (a ∷ k) d =
          let first : get_or l 0 0 ≡ a = ap (λ y. get_or y 0 0) d in
          let next : get_or (rotated l) i 0 ≡ get_or l j 0 = rotated_next l i (omega arith) ∙ ap (λ n. get_or l n 0) (sym e) in
          let f = subst (λ y. Follows y (get_or l i 0) (get_or l j 0)) d (subst (Follows l (get_or l i 0)) next (follows_at l i (omega arith))) in
          let left' = subst (λ y. Left m y (get_or l i 0) x) first left in
          let right' = subst (λ y. Left m y x (get_or l j 0)) first right in
          fan f (λ n. left'.three.p≢q (sym n)) right'.three.r≢p
          (record { hpx = left'; pqx = subst (λ q. Left m (get_or l i 0) q x) next (left_at i (omega arith)); qhx = cyclic² L right' })

  -- what the question about the mark at a place tells
  pub goes_right : (i : ℕ) → 0 < i → i < length l → m.left (get_or l 0 0) x (get_or l i 0) ≡ true → Left m (get_or l 0 0) x (get_or l i 0)
  goes_right i pos h e = record { three = swapped (three_from i pos h); turns = subst T (sym e) tt }

  pub goes_left : (i : ℕ) → 0 < i → i < length l → m.left (get_or l 0 0) x (get_or l i 0) ≡ false → Left m (get_or l 0 0) (get_or l i 0) x
  goes_left i pos h e = elim (L.nondegenerate (three_from i pos h)) [ inl k ↦ k | inr k ↦ absurd (subst T e k.turns) ]
