-- The links of a ring in the records.
use Rattle.std.proofs.Common.{◌≡◌, ℕ, zero, suc, ◌+◌, ◌<◌, Bool, false, ◌≢◌, List, [], ◌∷◌, length, get_or, set, replicate, sym, refl, ap, ◌∙◌, subst, inl, inr, arith, length-append, length-set, get_or-set_other, get_or-set_same}
use native.Mathlib.Decide.{dec_lt}
use Rattle.laws.specs.Outlines.{Follows}
use Rattle.laws.proofs.Walks.{other}
use Rattle.laws.proofs.Renaming.{named_apart}
use Rattle.runs.proofs.Places.{place}
use Rattle.hull.proofs.Lists.{rotated_next, rotated_last}
use Rattle.hull.specs.declared.records.Record.{Record}
use Rattle.hull.specs.Rings.{rotated}
use Rattle.hull.specs.Records.{away, at, held, Linked, Recorded, with_position, with_before, with_held}

-- a record put in place of another
put_at : (rs : List Record) (p : ℕ) (r : Record) → p < length rs → at (set rs p r) p ≡ r
put_at rs p r h = get_or-set_same rs p r away h

put_other : (rs : List Record) (p q : ℕ) (r : Record) → q ≢ p → at (set rs p r) q ≡ at rs q
put_other rs p q r n = get_or-set_other rs p q r away n

-- what a field of the records tells after a change of one record that leaves it
kept_field : {X : Type 0} (f : Record → X) (rs : List Record) (p : ℕ) (r : Record) → p < length rs → f r ≡ f (at rs p) → (q : ℕ) → f (at (set rs p r) q) ≡ f (at rs q)
kept_field f rs p r h e q =
    elim (other q p) [
      | inl d ↦ ap (λ k. f (at (set rs p r) k)) d ∙ ap f (put_at rs p r h) ∙ e ∙ ap (λ k. f (at rs k)) (sym d)
      | inr n ↦ ap f (put_other rs p q r n)
    ]

module _ (rs : List Record) (p i q : ℕ) (hp : p < length rs) (hq : q < length rs) where
  abbrev tied : List Record
  tied = with_before (with_position rs p i q) q p

  hq' : q < length (with_position rs p i q)
  hq' = subst (λ n. q < n) (sym (length-set rs p _)) hq

  tied_held : (r : ℕ) → held tied r ≡ held rs r
  tied_held r = kept_field (λ (x : Record). x.is_in) (with_position rs p i q) q _ hq' refl r ∙ kept_field (λ (x : Record). x.is_in) rs p _ hp refl r

  tied_after : (at tied p).after ≡ q
  tied_after = kept_field (λ (x : Record). x.after) (with_position rs p i q) q _ hq' refl p ∙ ap (λ (x : Record). x.after) (put_at rs p _ hp)

  tied_position : (at tied p).position ≡ i
  tied_position = kept_field (λ (x : Record). x.position) (with_position rs p i q) q _ hq' refl p ∙ ap (λ (x : Record). x.position) (put_at rs p _ hp)

  tied_before : (at tied q).before ≡ p
  tied_before = ap (λ (x : Record). x.before) (put_at (with_position rs p i q) q _ hq')

  other_after : (r : ℕ) → r ≢ p → (at tied r).after ≡ (at rs r).after
  other_after r n = kept_field (λ (x : Record). x.after) (with_position rs p i q) q _ hq' refl r ∙ ap (λ (x : Record). x.after) (put_other rs p r _ n)

  other_position : (r : ℕ) → r ≢ p → (at tied r).position ≡ (at rs r).position
  other_position r n = kept_field (λ (x : Record). x.position) (with_position rs p i q) q _ hq' refl r ∙ ap (λ (x : Record). x.position) (put_other rs p r _ n)

  other_before : (r : ℕ) → r ≢ q → (at tied r).before ≡ (at rs r).before
  other_before r n = ap (λ (x : Record). x.before) (put_other (with_position rs p i q) q r _ n) ∙ kept_field (λ (x : Record). x.before) rs p _ hp refl r

-- the mark at a position of the ring is linked with its follower, and its record tells that position
abbrev pub LinkAt : List Record → List ℕ → ℕ → Type 0
LinkAt rs l i = ((at rs (get_or l i 0)).after ≡ get_or (rotated l) i 0) × ((at rs (get_or (rotated l) i 0)).before ≡ get_or l i 0) × ((at rs (get_or l i 0)).position ≡ i)

rotated_length : (l : List ℕ) → length (rotated l) ≡ length l
rotated_length [] = refl
rotated_length (a ∷ l) = length-append l (a ∷ []) ∙ omega arith

-- the follower of a mark has a record too
pub small_next : (l : List ℕ) → Recorded l → (i : ℕ) → i < length l → get_or (rotated l) i 0 < 128
small_next l rec i h =
    elim (dec_lt (i + 1) (length l)) [
      | yes k ↦ subst (λ c. c < 128) (sym (rotated_next l i k)) (rec.small (i + 1) k)
      | no k ↦ subst (λ c. c < 128) (sym (rotated_last l i h (omega arith))) (rec.small 0 (omega arith))
    ]

-- one link more: p stands at position i, and q follows it
module _ (rs : List Record) (l : List ℕ) (i p q : ℕ) (long : length rs ≡ 128) (rec : Recorded l) (h : i < length l) (p_is : p ≡ get_or l i 0) (q_is : q ≡ get_or (rotated l) i 0) where
  p_has : p < length rs
  p_has = omega (arith, rec.small i h)

  q_has : q < length rs
  q_has = omega (arith, small_next l rec i h)

  pub link_more : (rs' : List Record) → rs' ≡ with_before (with_position rs p i q) q p → ((k : ℕ) → k < i → LinkAt rs l k) → (k : ℕ) → k < i + 1 → LinkAt rs' l k
  link_more rs' e old k lt =
      subst (λ (r : List Record). LinkAt r l k) (sym e)
      (elim (other k i) [
        | inl d ↦ (
          ap (λ a. (at (tied rs p i q p_has q_has) a).after) (ap (λ j. get_or l j 0) d ∙ sym p_is) ∙ tied_after rs p i q p_has q_has ∙ q_is ∙ ap (λ j. get_or (rotated l) j 0) (sym d),
          ap (λ b. (at (tied rs p i q p_has q_has) b).before) (ap (λ j. get_or (rotated l) j 0) d ∙ sym q_is) ∙ tied_before rs p i q p_has q_has ∙ p_is ∙ ap (λ j. get_or l j 0) (sym d),
          ap (λ a. (at (tied rs p i q p_has q_has) a).position) (ap (λ j. get_or l j 0) d ∙ sym p_is) ∙ tied_position rs p i q p_has q_has ∙ sym d,
        )
        | inr n ↦
            let (x, y, z) = old k (omega arith) in (
              other_after rs p i q p_has q_has (get_or l k 0) (λ d. named_apart l rec.apart k i (omega arith) h n (d ∙ p_is)) ∙ x,
              other_before rs p i q p_has q_has (get_or (rotated l) k 0)
                  (λ d. named_apart (rotated l) rec.apart_next k i (omega (arith, rotated_length l)) (omega (arith, rotated_length l)) n (d ∙ q_is)) ∙ y,
              other_position rs p i q p_has q_has (get_or l k 0) (λ d. named_apart l rec.apart k i (omega arith) h n (d ∙ p_is)) ∙ z,
            )
      ])

-- linking changes nothing about which marks are in
pub link_held : (rs rs' : List Record) (p i q : ℕ) → length rs ≡ 128 → p < 128 → q < 128 → rs' ≡ with_before (with_position rs p i q) q p → (r : ℕ) → held rs' r ≡ held rs r
link_held rs rs' p i q long hp hq e r = ap (λ (k : List Record). held k r) e ∙ tied_held rs p i q (omega arith) (omega arith) r

-- if the mark at each position of the ring is linked with the next, the ring is linked
all_beside : (rs : List Record) (l : List ℕ) → ((k : ℕ) → k < length l → LinkAt rs l k) → (p q : ℕ) → Follows l p q → ((at rs p).after ≡ q) × ((at rs q).before ≡ p)
all_beside rs [] h p q f = absurd f
all_beside rs (a ∷ l) h p q f =
    let (i, lt, e, d) = place a l a p q f in
    let (x, y, _) = h i lt in
    (ap (λ c. (at rs c).after) (sym e) ∙ x ∙ d, ap (λ c. (at rs c).before) (sym d) ∙ y ∙ e)

pub all_linked : (rs : List Record) (l : List ℕ) → ((k : ℕ) → k < length l → LinkAt rs l k) → Linked rs l
all_linked rs l h = record { beside = all_beside rs l h; positions = λ i lt. (h i lt).2 }

replicate_at : {X : Type 0} (n k : ℕ) (x : X) → get_or (replicate n x) k x ≡ x
replicate_at zero k x = refl
replicate_at (suc n) zero x = refl
replicate_at (suc n) (suc k) x = replicate_at n k x

-- nothing is in at first
pub none_held : (p : ℕ) → held (replicate 128 away) p ≡ false
none_held p = ap (λ (r : Record). r.is_in) (replicate_at 128 p away)

-- x in or out: the other marks are as they were
pub held_new : (rs : List Record) (x : ℕ) (b : Bool) → x < length rs → held (with_held rs x b) x ≡ b
held_new rs x b h = ap (λ (r : Record). r.is_in) (put_at rs x _ h)

pub held_other : (rs : List Record) (x : ℕ) (b : Bool) (p : ℕ) → p ≢ x → held (with_held rs x b) p ≡ held rs p
held_other rs x b p n = ap (λ (r : Record). r.is_in) (put_other rs x p _ n)

-- x in or out: the links are as they were
pub linked_held : (rs : List Record) (x : ℕ) (b : Bool) (ring : List ℕ) → x < length rs → Linked rs ring → Linked (with_held rs x b) ring
linked_held rs x b ring h links =
    record {
      beside = λ p q f.
          let (i, j) = links.beside p q f in
          (kept_field (λ (r : Record). r.after) rs x _ h refl p ∙ i, kept_field (λ (r : Record). r.before) rs x _ h refl q ∙ j);
      positions = λ i lt. kept_field (λ (r : Record). r.position) rs x _ h refl _ ∙ links.positions i lt;
    }
