-- Marks under new numbers: the laws, and the outlines, which correspond.
use Rattle.std.proofs.Common.{◌≡◌, ℕ, zero, suc, ◌<◌, ◌≢◌, List, [], ◌∷◌, map, length, sym, refl, ap, ◌∙◌, subst, inl, inr, arith}
use Rattle.std.specs.List.{AllByRecursion}
use Rattle.std.proofs.ByRecursion.{All-get_or}
use Rattle.laws.specs.Systems.{Meaning, Three, Left, Lawful}
use Rattle.laws.specs.Outlines.{Marks, Arc, Apart, Hull, Outline, none, one, more}
use Rattle.laws.specs.Layers.{named, picked, image}
use Rattle.laws.proofs.Walks.{Walk, end, on, first, other}
use Rattle.laws.proofs.Counts.{few}
use Rattle.laws.proofs.Arcs.{whole}
use Rattle.laws.proofs.Insertion.{loop}
use Rattle.laws.proofs.Existence.{outline_of}

-- a list without repeats has different marks at different places
pub named_apart : (xs : List ℕ) → Apart xs → (i j : ℕ) → i < length xs → j < length xs → i ≢ j → named xs i ≢ named xs j
named_apart [] a i j hi hj n e = omega arith
named_apart (x ∷ xs) a zero zero hi hj n e = n refl
named_apart (x ∷ xs) a zero (suc j) hi hj n e = All-get_or _ xs j 0 (omega arith) a.0 (sym e)
named_apart (x ∷ xs) a (suc i) zero hi hj n e = All-get_or _ xs i 0 (omega arith) a.0 e
named_apart (x ∷ xs) a (suc i) (suc j) hi hj n e = named_apart xs a.1 i j (omega arith) (omega arith) (λ k. n (ap suc k)) e

pub named_same : (xs : List ℕ) → Apart xs → (i j : ℕ) → i < length xs → j < length xs → named xs i ≡ named xs j → i ≡ j
named_same xs apart i j hi hj e = elim (other i j) [ inl d ↦ d | inr n ↦ absurd (named_apart xs apart i j hi hj n e) ]

-- three different places of the list have three different marks
pub in_names : (m : Meaning) (xs : List ℕ) → Apart xs → AllByRecursion (λ x. x < m.count) xs → {i j k : ℕ} → Three (length xs) i j k
    → Three m.count (named xs i) (named xs j) (named xs k)
in_names m xs apart small t =
    record {
      p_in = All-get_or _ xs _ 0 t.p_in small;
      q_in = All-get_or _ xs _ 0 t.q_in small;
      r_in = All-get_or _ xs _ 0 t.r_in small;
      p≢q = named_apart xs apart _ _ t.p_in t.q_in t.p≢q;
      q≢r = named_apart xs apart _ _ t.q_in t.r_in t.q≢r;
      r≢p = named_apart xs apart _ _ t.r_in t.p_in t.r≢p;
    }

module _ {m : Meaning} (L : Lawful m) (xs : List ℕ) (apart : Apart xs) (small : AllByRecursion (λ x. x < m.count) xs) where
  pub left_in : {i j k : ℕ} → Left (picked m xs) i j k → Left m (named xs i) (named xs j) (named xs k)
  left_in h = record { three = in_names m xs apart small h.three; turns = h.turns }

  left_out : {i j k : ℕ} → i < length xs → j < length xs → k < length xs → Left m (named xs i) (named xs j) (named xs k) → Left (picked m xs) i j k
  left_out hi hj hk h =
      record {
        three = record {
          p_in = hi;
          q_in = hj;
          r_in = hk;
          p≢q = λ e. h.three.p≢q (ap (named xs) e);
          q≢r = λ e. h.three.q≢r (ap (named xs) e);
          r≢p = λ e. h.three.r≢p (ap (named xs) e);
        };
        turns = h.turns;
      }

  -- the system of a list of different marks is lawful
  pub picked_lawful : Lawful (picked m xs)
  picked_lawful =
      record {
        limit = let i = few m.count xs apart small in let j = L.limit in omega arith;
        cyclic = λ h. left_out h.three.q_in h.three.r_in h.three.p_in (L.cyclic (left_in h));
        antisymmetric = λ h k. L.antisymmetric (left_in h) (left_in k);
        nondegenerate = λ t.
            elim (L.nondegenerate (in_names m xs apart small t)) [
              | inl h ↦ inl (left_out t.p_in t.q_in t.r_in h)
              | inr h ↦ inr (left_out t.p_in t.r_in t.q_in h)
            ];
        interior = λ h i j.
            left_out i.three.p_in h.three.q_in h.three.r_in (L.interior (left_in h) (left_in i) (left_in j));
        transitive = λ a b c d e.
            left_out a.three.p_in a.three.r_in c.three.r_in
            (L.transitive (left_in a) (left_in b) (left_in c) (left_in d) (left_in e));
      }

  module _ {s : ℕ → Type 0} (marks : Marks (picked m xs) s) where
    picked_arc : {i j : ℕ} → Arc (picked m xs) s i j → Arc m (image xs s) (named xs i) (named xs j)
    picked_arc {i} {j} a =
        record {
          from = (i, a.from, refl);
          to = (j, a.to, refl);
          apart = named_apart xs apart i j (marks i a.from) (marks j a.to) a.apart;
          left = λ r (k, h, e) n n'.
              subst (Left m _ _) e
              (left_in (a.left k h (λ d. n (sym e ∙ ap (named xs) d)) (λ d. n' (sym e ∙ ap (named xs) d))));
        }

    picked_walk : {i j : ℕ} {l : List ℕ} → Walk (Arc (picked m xs) s) i l j → Walk (Arc m (image xs s)) (named xs i) (map (named xs) l) (named xs j)
    picked_walk (end r) = end (picked_arc r)
    picked_walk (on r w) = on (picked_arc r) (picked_walk w)

    all_in : {i j : ℕ} {l : List ℕ} → Walk (Arc (picked m xs) s) i l j → AllByRecursion s l
    all_in (end r) = tt
    all_in (on r w) = (r.to, all_in w)

    away : (h : ℕ) → s h → (l : List ℕ) → AllByRecursion s l → AllByRecursion (λ c. c ≢ h) l → AllByRecursion (λ c. c ≢ named xs h) (map (named xs) l)
    away h k [] i n = tt
    away h k (a ∷ l) i n = (named_apart xs apart a h (marks a i.0) (marks h k) n.0, away h k l i.1 n.1)

    pub image_marks : Marks m (image xs s)
    image_marks p (i, h, e) = subst (λ x. x < m.count) e (All-get_or _ xs i 0 (marks i h) small)

    pub picked_hull : {h : ℕ} {l : List ℕ} → Hull (picked m xs) s (h ∷ l) → Hull m (image xs s) (map (named xs) (h ∷ l))
    picked_hull {h} {l} r =
        let o = loop r in
        whole L image_marks (picked_walk o.walk) (away h (first o.walk).from l (all_in o.walk) o.away)

    -- the outline's marks stand for the marks of an outline
    pub picked_outline : {l : List ℕ} → Outline (picked m xs) s l → Outline m (image xs s) (map (named xs) l)
    picked_outline (none h) = none (λ p i. h i.0 i.1)
    picked_outline (one {a = a} h u) = one (a, h, refl) (λ p i. sym i.2 ∙ ap (named xs) (u i.0 i.1))
    picked_outline (more r) = outline_of _ _ (picked_hull r)

    -- and back: an outline of what the marks stand for, by their names
    in_s : {i : ℕ} → i < length xs → image xs s (named xs i) → s i
    in_s {i} hi (k, h, e) = subst s (named_same xs apart k i (marks k h) hi e) h

    back_arc : {i j : ℕ} → i < length xs → j < length xs → Arc m (image xs s) (named xs i) (named xs j) → Arc (picked m xs) s i j
    back_arc {i} {j} hi hj a =
        record {
          from = in_s hi a.from;
          to = in_s hj a.to;
          apart = λ e. a.apart (ap (named xs) e);
          left = λ r h n n'.
              let hr = marks r h in
              left_out hi hj hr
              (a.left (named xs r) (r, h, refl) (named_apart xs apart r i hr hi n) (named_apart xs apart r j hr hj n'));
        }

    back_walk : (i : ℕ) (l : List ℕ) (j : ℕ) → AllByRecursion (λ c. c < length xs) (i ∷ l) → j < length xs
        → Walk (Arc m (image xs s)) (named xs i) (map (named xs) l) (named xs j) → Walk (Arc (picked m xs) s) i l j
    back_walk i [] j h hj (end r) = end (back_arc h.0 hj r)
    back_walk i (c ∷ l) j h hj (on r w) = on (back_arc h.0 h.1.0 r) (back_walk c l j h.1 hj w)

    back_away : (h : ℕ) (l : List ℕ) → AllByRecursion (λ c. c ≢ named xs h) (map (named xs) l) → AllByRecursion (λ c. c ≢ h) l
    back_away h [] n = tt
    back_away h (a ∷ l) n = (λ e. n.0 (ap (named xs) e), back_away h l n.1)

    pub back_outline : (l : List ℕ) → AllByRecursion (λ c. c < length xs) l → Outline m (image xs s) (map (named xs) l) → Outline (picked m xs) s l
    back_outline [] h (none k) = none (λ p i. k (named xs p) (p, i, refl))
    back_outline (a ∷ []) h (one k u) = one (in_s h.0 k) (λ p i. named_same xs apart p a (marks p i) h.0 (u _ (p, i, refl)))
    back_outline (a ∷ b ∷ l) h (more r) =
        let o = loop r in
        more (whole picked_lawful marks (back_walk a (b ∷ l) a h h.0 o.walk) (back_away a (b ∷ l) o.away))
