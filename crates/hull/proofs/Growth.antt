-- The ring around one mark more, put together mark by mark: it is an outline of the marks and the new one.
use Rattle.std.proofs.Common.{◌≡◌, ℕ, zero, suc, ◌+◌, ◌-◌, ◌<◌, ◌≤◌, Bool, true, false, T, List, [], ◌∷◌, ◌++◌, length, get_or, drop, sym, refl, ap, ◌∙◌, subst, ap₂, inl, inr, append_assoc, append-nil, add-one, arith, length-append, drop-cons, drop_of_length-le}
use mathlib.Core.Logic.Iff
use Rattle.laws.specs.Systems.{Meaning, Three, Left, Lawful}
use Rattle.laws.specs.Outlines.{Step, Follows, Outline, none, one as single, more, ReadOut, Turned}
use Rattle.laws.specs.Theorems.{of}
use Rattle.std.proofs.ByRecursion.{All-weaker}
use Rattle.laws.proofs.Turns.{swapped}
use Rattle.laws.proofs.Walks.{after, before}
use Rattle.laws.proofs.Insertion.{insert}
use Rattle.laws.proofs.Existence.{two, outline_of, outline_same, outline_turned, to_hull}
use Rattle.laws.proofs.Uniqueness.{outline_apart}
use Rattle.laws.proofs.Counts.{few}
use Rattle.runs.proofs.Decided.{more_marks}
use Rattle.runs.proofs.Standing.{outline_in}
use Rattle.runs.proofs.SomeAnswer.{with_it}
use Rattle.runs.proofs.Leaving.{by_more, turned_back}
use Rattle.hull.specs.Rings.{rotated, left_on, Beside, GoesRound, Grows}
use Rattle.hull.proofs.Lists.{follows_at}

module _ (sees : ℕ → ℕ → Bool) (x : ℕ) where
  -- what the marks of l leave; b says whether x sees the arc to the first of them, and z follows the last
  abbrev pub grown : Bool → List ℕ → ℕ → List ℕ
  grown b [] z = []
  grown b (a ∷ l) z = left_on b (sees a (after l z)) a x ++ grown (sees a (after l z)) l z

  -- what the marks of a ring leave
  abbrev pub whole : List ℕ → List ℕ
  whole l = grown (sees (get_or l (length l - 1) 0) (get_or l 0 0)) l (get_or l 0 0)

  -- the mark after the one at place i, and what the marks from place i on leave, by the first of them
  after_at : (l : List ℕ) (i : ℕ) (z : ℕ) → i < length l → after (drop (suc i) l) z ≡ get_or (drop 1 l ++ z ∷ []) i 0
  after_at [] i z h = absurd (omega arith)
  after_at (a ∷ []) zero z h = refl
  after_at (a ∷ b ∷ l) zero z h = refl
  after_at (a ∷ []) (suc i) z h = absurd (omega arith)
  after_at (a ∷ b ∷ l) (suc i) z h = after_at (b ∷ l) i z (omega arith)

  rotated_is : (l : List ℕ) → 0 < length l → drop 1 l ++ get_or l 0 0 ∷ [] ≡ rotated l
  rotated_is [] h = absurd (omega arith)
  rotated_is (a ∷ l) h = refl

  grown_more : (b seen : Bool) (l : List ℕ) (i : ℕ) → i < length l → seen ≡ sees (get_or l i 0) (get_or (rotated l) i 0)
      → grown b (drop i l) (get_or l 0 0) ≡ left_on b seen (get_or l i 0) x ++ grown seen (drop (i + 1) l) (get_or l 0 0)
  grown_more b seen l i h e =
      let z = get_or l 0 0 in
      let e' : sees (get_or l i 0) (after (drop (suc i) l) z) ≡ seen =
      ap (sees (get_or l i 0)) (after_at l i z h ∙ ap (λ k. get_or k i 0) (rotated_is l (omega arith))) ∙ sym e in
      ap (λ k. grown b k z) (drop-cons l i 0 h)
      ∙ ap (λ s. left_on b s (get_or l i 0) x ++ grown s (drop (suc i) l) z) e'
      ∙ ap (λ k. left_on b seen (get_or l i 0) x ++ grown seen (drop k l) z) (sym (add-one i))

  -- one step of the loop: a stands at place i, `to` and `from` say whether x sees the arcs to it and from it, and what it leaves is put on
  module _ (l : List ℕ) (i a : ℕ) (to from : Bool) (new new' : List ℕ) (h : i < length l) (a_is : a ≡ get_or l i 0) (from_is : from ≡ sees a (get_or (rotated l) i 0))
      (so_far : new ++ grown to (drop i l) (get_or l 0 0) ≡ whole l) where
    turn : new ++ (left_on to from a x ++ grown from (drop (i + 1) l) (get_or l 0 0)) ≡ whole l
    turn =
        ap (λ b. new ++ (left_on to from b x ++ grown from (drop (i + 1) l) (get_or l 0 0))) a_is
        ∙ ap (λ k. new ++ k) (sym (grown_more to from l i h (from_is ∙ ap (λ b. sees b (get_or (rotated l) i 0)) a_is))) ∙ so_far

    pub turn_fits : length new + length (left_on to from a x) ≤ length (whole l)
    turn_fits = omega (arith, ap length turn, length-append new (left_on to from a x ++ grown from (drop (i + 1) l) (get_or l 0 0)), length-append (left_on to from a x) (grown from (drop (i + 1) l) (get_or l 0 0)))

    pub turn_more : new' ≡ new ++ left_on to from a x → new' ++ grown from (drop (i + 1) l) (get_or l 0 0) ≡ whole l
    turn_more e = ap (λ k. k ++ grown from (drop (i + 1) l) (get_or l 0 0)) e ∙ append_assoc new (left_on to from a x) (grown from (drop (i + 1) l) (get_or l 0 0)) ∙ turn

    pub turn_last : i + 1 ≡ length l → new' ≡ new ++ left_on to from a x → new' ≡ whole l
    turn_last n e = sym (append-nil new') ∙ ap (λ k. new' ++ grown from k (get_or l 0 0)) (sym (drop_of_length-le l {i = i + 1} (omega arith))) ∙ turn_more e

  -- what the marks of two lists, one after the other, leave
  grown_append : (b : Bool) (a : ℕ) (k : List ℕ) (c : ℕ) (l : List ℕ) (z : ℕ)
      → grown b (a ∷ k ++ c ∷ l) z ≡ grown b (a ∷ k) c ++ grown (sees (before a k) c) (c ∷ l) z
  grown_append b a [] c l z = ap (λ k. k ++ grown (sees a c) (c ∷ l) z) (sym (append-nil (left_on b (sees a c) a x)))
  grown_append b a (d ∷ k) c l z =
      ap (λ r. left_on b (sees a d) a x ++ r) (grown_append (sees a d) d k c l z)
      ∙ sym (append_assoc (left_on b (sees a d) a x) (grown (sees a d) (d ∷ k) c) (grown (sees (before d k) c) (c ∷ l) z))

  last_is : (a : ℕ) (l : List ℕ) → get_or (a ∷ l) (length l) 0 ≡ before a l
  last_is a [] = refl
  last_is a (c ∷ l) = last_is c l

  whole_is : (a : ℕ) (l : List ℕ) → whole (a ∷ l) ≡ grown (sees (before a l) a) (a ∷ l) a
  whole_is a l =
      let e : length (a ∷ l) - 1 ≡ length l = omega arith in
      ap (λ i. grown (sees (get_or (a ∷ l) i 0) a) (a ∷ l) a) e ∙ ap (λ p. grown (sees p a) (a ∷ l) a) (last_is a l)

  before_append : (a : ℕ) (k : List ℕ) (c : ℕ) (l : List ℕ) → before a (k ++ c ∷ l) ≡ before c l
  before_append a [] c l = refl
  before_append a (d ∷ k) c l = before_append d k c l

  whole_append : (a : ℕ) (k : List ℕ) (c : ℕ) (l : List ℕ)
      → whole (a ∷ k ++ c ∷ l) ≡ grown (sees (before c l) a) (a ∷ k) c ++ grown (sees (before a k) c) (c ∷ l) a
  whole_append a k c l =
      whole_is a (k ++ c ∷ l) ∙ ap (λ p. grown (sees p a) (a ∷ k ++ c ∷ l) a) (before_append a k c l) ∙ grown_append (sees (before c l) a) a k c l a

  -- the ring started at another place leaves the same, started at another place
  pub whole_turned : (k l : List ℕ) → Turned k l → Turned (whole k) (whole l)
  whole_turned k l ([], b, e, e') = ([], whole k, refl, ap whole (e' ∙ append-nil b ∙ sym e) ∙ sym (append-nil (whole k)))
  whole_turned k l (a ∷ a', [], e, e') = ([], whole k, refl, ap whole (e' ∙ sym (append-nil (a ∷ a')) ∙ sym e) ∙ sym (append-nil (whole k)))
  whole_turned k l (a ∷ a', b ∷ b', e, e') = (
    grown (sees (before b b') a) (a ∷ a') b,
    grown (sees (before a a') b) (b ∷ b') a,
    ap whole e ∙ whole_append a a' b b',
    ap whole e' ∙ whole_append b b' a a',
  )

  -- nothing is seen: every mark stays
  hidden_stays : (b : Bool) (a : ℕ) (l : List ℕ) (z : ℕ) → ((p q : ℕ) → Step a l z p q → sees p q ≡ false) → grown b (a ∷ l) z ≡ a ∷ l
  hidden_stays b a [] z h = ap (λ s. left_on b s a x ++ []) (h a z (refl, refl)) ∙ one b
    where
      one : (b : Bool) → left_on b false a x ++ [] ≡ a ∷ []
      one true = refl
      one false = refl
  hidden_stays b a (c ∷ l) z h =
      ap (λ s. left_on b s a x ++ grown s (c ∷ l) z) (h a c (inl (refl, refl)))
      ∙ one b ∙ ap (λ r. a ∷ r) (hidden_stays false c l z (λ p q k. h p q (inr k)))
    where
      one : (b : Bool) → left_on b false a x ++ grown false (c ∷ l) z ≡ a ∷ grown false (c ∷ l) z
      one true = refl
      one false = refl

  -- everything is seen: no mark stays
  seen_goes : (a : ℕ) (l : List ℕ) (z : ℕ) → ((p q : ℕ) → Step a l z p q → sees p q ≡ true) → grown true (a ∷ l) z ≡ []
  seen_goes a [] z h = ap (λ s. left_on true s a x ++ []) (h a z (refl, refl))
  seen_goes a (c ∷ l) z h =
      ap (λ s. left_on true s a x ++ grown s (c ∷ l) z) (h a c (inl (refl, refl))) ∙ seen_goes c l z (λ p q k. h p q (inr k))

  last_step : (a : ℕ) (l : List ℕ) (z : ℕ) → Step a l z (before a l) z
  last_step a [] z = (refl, refl)
  last_step a (c ∷ l) z = inr (last_step c l z)

  -- x comes on at the start of the run that it sees
  from_last : (a : ℕ) (l : List ℕ) (z : ℕ) → ((p q : ℕ) → Step a l z p q → sees p q ≡ true) → grown false (a ∷ l) z ≡ a ∷ x ∷ []
  from_last a [] z h = ap (λ s. left_on false s a x ++ []) (h a z (refl, refl))
  from_last a (c ∷ l) z h =
      ap (λ s. left_on false s a x ++ grown s (c ∷ l) z) (h a c (inl (refl, refl)))
      ∙ ap (λ r. a ∷ x ∷ r) (seen_goes c l z (λ p q k. h p q (inr k)))

  pub whole_grown : (first : ℕ) (rest : List ℕ) (last : ℕ) (gone : List ℕ) → ((p q : ℕ) → Step first rest last p q → sees p q ≡ false)
      → ((p q : ℕ) → Step last gone first p q → sees p q ≡ true) → whole (first ∷ rest ++ last ∷ gone) ≡ first ∷ rest ++ last ∷ x ∷ []
  whole_grown first rest last gone hidden seen =
      whole_append first rest last gone
      ∙ ap₂ ◌++◌ (hidden_stays _ first rest last hidden)
      (ap (λ b. grown b (last ∷ gone) first) (hidden (before first rest) last (last_step first rest last)) ∙ from_last last gone first seen)

  pub whole_stays : (a : ℕ) (l : List ℕ) → ((p q : ℕ) → Follows (a ∷ l) p q → sees p q ≡ false) → whole (a ∷ l) ≡ a ∷ l
  whole_stays a l h = hidden_stays _ a l a h

-- x sees the arc from p to q: it lies to the right
abbrev pub seen_by : Meaning → ℕ → ℕ → ℕ → Bool
seen_by m x p q = m.left p x q

is_true : (b : Bool) → T b → b ≡ true
is_true true h = refl
is_true false h = absurd h

is_false : (b : Bool) → (T b → ⊥) → b ≡ false
is_false true h = absurd (h tt)
is_false false h = refl

module _ {m : Meaning} (L : Lawful m) where
  pub hidden : {p q x : ℕ} → Left m p q x → seen_by m x p q ≡ false
  hidden {p} {q} {x} h = is_false (m.left p x q) (λ t. L.antisymmetric h (record { three = swapped h.three; turns = t }))

  pub seen : {p q x : ℕ} → Left m p x q → seen_by m x p q ≡ true
  seen {p} {q} {x} h = is_true (m.left p x q) h.turns

  -- two marks or more
  pub goes_round : (x : ℕ) (ring : List ℕ) → 2 ≤ length ring → x < m.count → GoesRound m ring x (whole (seen_by m x) x ring)
  goes_round x [] two x_in s t marks r one = absurd (omega arith)
  goes_round x (a ∷ l) two x_in s t marks r one =
      elim (insert L marks x_in one.was (to_hull L r.outline two)) [
        | inl (all, h) ↦
            subst (Outline m (of t)) (sym (whole_stays (seen_by m x) x a l (λ p q k. hidden (all p q k))))
            (outline_same (by_more one) (λ p q r i j k. Iff.rfl) (outline_of a l h))
        | inr g ↦
            let o = outline_same (by_more one) (λ p q r i j k. Iff.rfl) (outline_of _ _ g.hull) in
            let e = whole_grown (seen_by m x) x g.first g.rest g.last g.gone (λ p q k. hidden (g.hidden p q k)) (λ p q k. seen (g.seen p q k)) in
            let tu = whole_turned (seen_by m x) x (a ∷ l) _ g.turned in
            outline_turned L (more_marks m one x_in marks) _ _ (turned_back _ _ tu) (subst (Outline m (of t)) (sym e) o)
      ]

  pub whole_few : (x : ℕ) (ring : List ℕ) → 2 ≤ length ring → Beside m ring x → length (whole (seen_by m x) x ring) ≤ 128
  whole_few x ring two b =
      let (t, one) = with_it b.set x b.x_out in
      let o = goes_round x ring two b.x_in b.set t b.marks b.is_ring one in
      let i = few m.count _ (outline_apart o) (All-weaker _ _ (λ c k. more_marks m one b.x_in b.marks c k) _ (outline_in o)) in
      omega (arith, L.limit)

  -- an arc of the ring, and x
  pub three_at : (x : ℕ) (ring : List ℕ) → 2 ≤ length ring → Beside m ring x → (i : ℕ) → i < length ring
      → Three m.count (get_or ring i 0) (get_or (rotated ring) i 0) x
  three_at x ring two b i h =
      let a = ((to_hull L b.is_ring.outline two).arcs _ _).0 (follows_at ring i h) in
      record {
        p_in = b.marks _ a.from;
        q_in = b.marks _ a.to;
        r_in = b.x_in;
        p≢q = a.apart;
        q≢r = λ e. b.x_out (subst (of b.set) e a.to);
        r≢p = λ e. b.x_out (subst (of b.set) (sym e) a.from);
      }

  -- one mark or none
  pub few_round : (x : ℕ) (ring : List ℕ) → length ring < 2 → x < m.count → GoesRound m ring x (ring ++ x ∷ [])
  few_round x ring small x_in s t marks r one = go r.outline small
    where
      go : {l : List ℕ} → Outline m (of s) l → length l < 2 → Outline m (of t) (l ++ x ∷ [])
      go (none h) i = single one.new (λ p k. elim ((by_more one p).1 k) [ inl j ↦ absurd (h p j) | inr e ↦ e ])
      go (single {a = a} h u) i =
          more (two L (more_marks m one x_in marks) ((by_more one a).0 (inl h)) one.new (λ e. one.was (subst (of s) (sym e) h))
          (λ p k. elim ((by_more one p).1 k) [ inl j ↦ inl (u p j) | inr e ↦ inr e ]))
      go (more h) i = absurd (omega arith)

  -- an outline around the marks and x, started at its lowest mark, is the new ring
  pub grows_from : (x : ℕ) (old round new : List ℕ) → x < m.count → GoesRound m old x round → Turned round new → ReadOut new → Grows m old x new
  grows_from x old round new x_in g tu low s t marks r one =
      record { outline = outline_turned L (more_marks m one x_in marks) round new tu (g s t marks r one); lowest = low }
