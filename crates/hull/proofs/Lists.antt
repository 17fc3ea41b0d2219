-- Rings as lists: places, the mark that follows, one mark more.
use Rattle.std.proofs.Common.{◌≡◌, ℕ, zero, suc, ◌+◌, ◌-◌, ◌<◌, ◌≤◌, List, [], ◌∷◌, ◌++◌, length, get_or, take, drop, sym, refl, ap, ◌∙◌, subst, add-one, arith, take-append-drop, drop-cons}
use lib.ListN.{get_or-append}
use lib.Seq.{get_or_at}
use Rattle.std.specs.List.{AllByRecursion}
use Rattle.std.proofs.lemmas.Grind.{common_steps}
use Rattle.std.proofs.ByRecursion.{All-append, All-from_get_or}
use Rattle.laws.specs.Outlines.{Follows, ReadOut}
use Rattle.laws.proofs.Walks.{all_cut}
use Rattle.runs.proofs.Places.{at_place}
use Rattle.hull.specs.Rings.{rotated}

-- what stands at a place of the rotated ring: the mark at the next place, or at the last place the first
pub rotated_next : (l : List ℕ) (i : ℕ) → i + 1 < length l → get_or (rotated l) i 0 ≡ get_or l (i + 1) 0
rotated_next [] i h = absurd (omega arith)
rotated_next (a ∷ l) i h = get_or-append l (a ∷ []) 0 i (omega arith) ∙ sym (ap (λ k. get_or (a ∷ l) k 0) (add-one i))

pub rotated_last : (l : List ℕ) (i : ℕ) → i < length l → length l ≤ i + 1 → get_or (rotated l) i 0 ≡ get_or l 0 0
rotated_last [] i h k = absurd (omega arith)
rotated_last (a ∷ l) i h k = get_or_at l a [] 0 i (omega arith)

-- the mark at a place is followed by the one at that place of the rotated ring
pub follows_at : (l : List ℕ) (i : ℕ) → i < length l → Follows l (get_or l i 0) (get_or (rotated l) i 0)
follows_at [] i h = absurd (omega arith)
follows_at (a ∷ l) i h = at_place a l a _ _ (i, h, refl, refl)

-- a loop along the ring l: it goes through the marks behind the first of the slice k, which is l, and has gone through i of them
module _ (l k : List ℕ) (i : ℕ) (e : k ≡ l) where
  abbrev behind : List ℕ
  behind = take (length k - 1) (drop 1 k)

  long : length k ≡ length l
  long = ap length e

  pub next_at : i < length behind → (i + 1 < length l) × (get_or behind i 0 ≡ get_or l (i + 1) 0) × (get_or behind i 0 ≡ get_or (rotated l) i 0)
  next_at h =
      let same_length = long in
      let inside : i + 1 < length l = grind (arith, common_steps) in
      let next_is : get_or behind i 0 ≡ get_or l (i + 1) 0 = grind (arith, common_steps) in
      (inside, next_is, next_is ∙ sym (rotated_next l i inside))

  pub last_at : 0 < length l → length behind ≤ i → i ≤ length behind
      → (i + 1 ≡ length l) × (get_or k (length k - 1) 0 ≡ get_or l i 0) × (get_or k 0 0 ≡ get_or (rotated l) i 0)
  last_at some most least =
      let same_length = long in
      let n : i + 1 ≡ length l = grind (arith, common_steps) in (
        n,
        ap (λ b. get_or b (length b - 1) 0) e ∙ ap (λ j. get_or l j 0) (omega arith),
        ap (λ b. get_or b 0 0) e ∙ sym (rotated_last l i (omega arith) (omega arith)),
      )

-- the list from place p on, and then what stands before p, starts at its lowest mark if that stands at p
pub read_out_from : (l : List ℕ) (p : ℕ) → (0 < length l → p < length l) → ((i : ℕ) → i < length l → get_or l p 0 ≤ get_or l i 0) → ReadOut (drop p l ++ take p l)
read_out_from [] zero inside low = tt
read_out_from [] (suc p) inside low = tt
read_out_from (a ∷ l) p inside low =
    let k = a ∷ l in
    let h = inside (omega arith) in
    let (front, back) = all_cut _ (take p k) (drop p k) (subst (AllByRecursion (λ c. get_or k p 0 ≤ c)) (sym (take-append-drop p k)) (All-from_get_or _ k 0 low)) in
    subst (λ d. ReadOut (d ++ take p k)) (sym (drop-cons k p 0 h))
    (All-append _ (drop (suc p) k) (take p k) (subst (AllByRecursion (λ c. get_or k p 0 ≤ c)) (drop-cons k p 0 h) back).1 front)
