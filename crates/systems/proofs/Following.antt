-- One more crossing: the list of the wires, and the times of the pairs that have crossed.
use Rattle.std.proofs.Common.{◌≡◌, ℕ, suc, ◌+◌, ◌<◌, ◌≤◌, List, [], length, get_or, set, sym, ap, ap₂, ◌∙◌, subst, add-one, arith, length-set, get_or-set_other, get_or-set_same}
use Rattle.std.specs.List.{SwappedAt}
use native.Mathlib.Decide.{ℕ_discrete}
use Rattle.models.specs.Networks.{across, wire, upper, lower, Cross, InRange, Legal, crossing}
use Rattle.models.proofs.Crossings.{Across, down, up, still, moved, stays_in, wire_in, crossing_is, crosses_at}

-- the list after a crossing
swap_at : (ws vs : List ℕ) (k : ℕ) {p m : ℕ} → SwappedAt ws vs k (k + 1) → Across k p m → get_or vs p 0 ≡ get_or ws m 0
swap_at ws vs k s (up x) = rw (x, ← add-one k) (s.1 0)
swap_at ws vs k s (down x) = rw (x, ← add-one k) (s.0 0)
swap_at ws vs k {p} s (still x y) = s.2 p 0 x (λ e. y (e ∙ add-one k))

-- a list of the wires at each place
abbrev pub Stand : ℕ → List ℕ → ℕ → List ℕ → Type 0
Stand n cs t ws = (p : ℕ) → p < n → get_or ws p 0 ≡ wire cs t p

pub stand_more : (n : ℕ) (cs : List ℕ) (t : ℕ) (ws vs : List ℕ) → InRange n cs t → Stand n cs t ws →
    SwappedAt ws vs (get_or cs t 0) (get_or cs t 0 + 1) → Stand n cs (t + 1) vs
stand_more n cs t ws vs range stand s p h =
    subst (λ s. get_or vs p 0 ≡ wire cs s p) (sym (add-one t))
    (swap_at ws vs (get_or cs t 0) s (moved (get_or cs t 0) p) ∙
    stand (across (get_or cs t 0) p) (stays_in (moved (get_or cs t 0) p) range h))

-- the two wires that a crossing swaps
pub record Swapped (n : ℕ) (cs : List ℕ) (t : ℕ) (ws : List ℕ) : Type 0 where
  pub is_upper : get_or ws (get_or cs t 0) 0 ≡ upper cs t
  pub is_lower : get_or ws (get_or cs t 0 + 1) 0 ≡ lower cs t
  pub below : get_or ws (get_or cs t 0 + 1) 0 < n

pub swapped : (n : ℕ) (cs : List ℕ) (t : ℕ) (ws : List ℕ) → ((s : ℕ) → s < length cs → InRange n cs s) → t < length cs → Stand n cs t ws →
    Swapped n cs t ws
swapped n cs t ws range within stand =
    let here = range t within in
    let e : get_or ws (get_or cs t 0 + 1) 0 ≡ lower cs t = stand (get_or cs t 0 + 1) (omega arith) ∙ ap (wire cs t) (add-one (get_or cs t 0)) in
    record {
      is_upper = stand (get_or cs t 0) (omega arith);
      is_lower = e;
      below = subst (λ l. l < n) (sym e) (wire_in n cs t (λ s h. range s (omega arith)) (suc (get_or cs t 0)) here);
    }

-- rows of 32 numbers, of which one is written
abbrev pub Rows : List (List ℕ) → Type 0
Rows rows = (i : ℕ) → i < length rows → length (get_or rows i []) ≡ 32

abbrev pub written : List (List ℕ) → ℕ → ℕ → ℕ → List (List ℕ)
written rows u l t = set rows u (set (get_or rows u []) l t)

module _ (rows : List (List ℕ)) (u l t : ℕ) (inside : u < length rows) (wide : Rows rows) where
  pub rows_more : Rows (written rows u l t)
  rows_more i h =
      let k : i < length rows = simp length-set at h in
      elim (ℕ_discrete i u) [
        | yes e ↦
            subst (λ k. length (get_or (written rows u l t) k []) ≡ 32) (sym e)
            (ap length (get_or-set_same rows u (set (get_or rows u []) l t) [] inside) ∙ simp length-set (wide u inside))
        | no e ↦ ap length (get_or-set_other rows u i (set (get_or rows u []) l t) [] e) ∙ wide i k
      ]

  written_at : l < 32 → get_or (get_or (written rows u l t) u []) l 0 ≡ t
  written_at h =
      let k : l < length (get_or rows u []) = omega (arith, wide u inside) in
      ap (λ row. get_or row l 0) (get_or-set_same rows u (set (get_or rows u []) l t) [] inside) ∙ get_or-set_same (get_or rows u []) l t 0 k

  kept : (i j : ℕ) → (i ≡ u → j ≡ l → ⊥) → get_or (get_or (written rows u l t) i []) j 0 ≡ get_or (get_or rows i []) j 0
  kept i j other =
      elim (ℕ_discrete i u) [
        | yes e ↦
            subst (λ k. get_or (get_or (written rows u l t) k []) j 0 ≡ get_or (get_or rows k []) j 0) (sym e)
            (ap (λ row. get_or row j 0) (get_or-set_same rows u (set (get_or rows u []) l t) [] inside) ∙
            get_or-set_other (get_or rows u []) l j t 0 (other e))
        | no e ↦ ap (λ row. get_or row j 0) (get_or-set_other rows u i (set (get_or rows u []) l t) [] e)
      ]

-- the times of the pairs that have crossed
abbrev pub Noted : ℕ → List ℕ → ℕ → List (List ℕ) → Type 0
Noted n cs t times = (i j : ℕ) → i < j → j < n → crossing cs i j < t → get_or (get_or times i []) j 0 ≡ crossing cs i j

module _ (n : ℕ) (cs : List ℕ) (t : ℕ) (times : List (List ℕ)) (u l : ℕ) (is_upper : u ≡ upper cs t) (is_lower : l ≡ lower cs t)
    (few : n ≤ 32) (within : t < length cs) (rises : u < l) (below : l < n) (long : length times ≡ 32) (wide : Rows times)
    (legal : (s : ℕ) → s < length cs → Legal cs s) (noted : Noted n cs t times) where
  here : Cross cs u l t
  here = record { within = within; above = sym is_upper; below = sym is_lower }

  pub noted_more : Noted n cs (t + 1) (written times u l t)
  noted_more i j x y h =
      elim (ℕ_discrete (crossing cs i j) t) [
        | yes e ↦
            let c = crossing_is cs i j (omega arith) in
            let a : i ≡ u = sym c.above ∙ ap (upper cs) e ∙ sym is_upper in
            let b : j ≡ l = sym c.below ∙ ap (lower cs) e ∙ sym is_lower in
            let g = written_at times u l t (omega arith) wide (omega arith) in
            ap₂ (λ p q. get_or (get_or (written times u l t) p []) q 0) a b ∙ g ∙ sym e
        | no e ↦
            let other : i ≡ u → j ≡ l → ⊥ = λ a b.
            let z = crosses_at cs legal u l t rises here in
            e (ap (crossing cs i) b ∙ ap (λ i. crossing cs i l) a ∙ sym z) in
            kept times u l t (omega arith) wide i j other ∙ noted i j x y (omega arith)
      ]
