-- One mark less: the outline of s, from that of s with x. Where x is off it, it stays. Where x is on it, its arcs that are not at x stay,
-- and a walk along arcs of s leads from the mark before x to the mark after x.
use Rattle.std.proofs.Common.{◌≡◌, ℕ, ◌+◌, ◌<◌, ◌≤◌, ◌≢◌, ◌⊎◌, List, [], ◌∷◌, ◌++◌, length, sym, refl, ◌∙◌, subst, inl, inr, append_assoc, arith, length-append}
use mathlib.Core.Logic.{Ne-symm}
use Rattle.std.specs.List.{AllByRecursion}
use Rattle.std.proofs.ByRecursion.{All-append, All-weaker}
use Rattle.laws.specs.Systems.{Meaning, Left, Lawful}
use Rattle.laws.specs.Outlines.{Marks, adding, Arc, Apart, Step, Hull, Outline, none, one, more, Turned, Shrunk}
use Rattle.laws.proofs.Turns.{opposite, transitive'}
use Rattle.laws.proofs.Walks.{Walk, end, on, before, other, seek, last, join, cut, walk_map, walk_all, all_cut, same}
use Rattle.laws.proofs.Arcs.{one_after, one_before, kept, whole}
use Rattle.laws.proofs.Insertion.{loop, from, insert, marks'}
use Rattle.laws.proofs.Existence.{outline, outline_turned, to_hull}
use Rattle.laws.proofs.Counts.{few}

-- ---- arcs that stay

is_old : (s : ℕ → Type 0) (x p : ℕ) → adding s x p → p ≢ x → s p
is_old s x p (inl h) n = h
is_old s x p (inr e) n = absurd (n e)

module _ {m : Meaning} {s : ℕ → Type 0} {x : ℕ} where
  -- an arc of s with x, between other marks than x, is an arc of s
  pub arc_less : {p q : ℕ} → Arc m (adding s x) p q → p ≢ x → q ≢ x → Arc m s p q
  arc_less {p} {q} a n n' = record { from = is_old s x p a.from n; to = is_old s x q a.to n'; apart = a.apart; left = λ r h. a.left r (inl h) }

  walk_less : {a b : ℕ} {l : List ℕ} → Walk (Arc m (adding s x)) a l b → AllByRecursion (λ c. c ≢ x) (a ∷ l) → b ≢ x → Walk (Arc m s) a l b
  walk_less w ns n = walk_map (λ p q k. arc_less k.0 k.1 k.2) (walk_all w ns n)

  -- x off the outline of s with x: it is the outline of s
  pub outline_less : Lawful m → Marks m s → {l : List ℕ} → Outline m (adding s x) l → AllByRecursion (λ c. c ≢ x) l → Outline m s l
  outline_less L marks (none h) ns = absurd (h x (inr refl))
  outline_less L marks (one h u) ns = absurd (ns.0 (sym (u x (inr refl))))
  outline_less L marks (more r) ns = let o = loop r in more (whole L marks (walk_less o.walk ns ns.0) o.away)

  -- x on the outline, with one mark beside it at most: what stays is the outline of s
  pub outline_few : Lawful m → Marks m s → (s x → ⊥) → (l : List ℕ) → Outline m (adding s x) (x ∷ l) → length l < 2 → Outline m s l
  outline_few L marks x_out [] (one h u) i = none (λ p k. x_out (subst s (u p (inl k)) k))
  outline_few L marks x_out (b ∷ []) (more r) i =
      let to = (r.arcs x b).0 (inl (refl, refl)) in
      let back = (r.arcs b x).0 (inr (refl, refl)) in
      one (is_old s x b to.to (Ne-symm to.apart)) (λ p k.
      elim (other p b) [
        | inl e ↦ e
        | inr n ↦
            let p≢x : p ≢ x = λ e. x_out (subst s e k) in
            absurd (opposite L (to.left p (inl k) p≢x n) (back.left p (inl k) n p≢x))
      ])
  outline_few L marks x_out (b ∷ c ∷ l) o i = absurd (omega arith)

-- ---- the next mark

-- q is a mark of s other than p, and of the marks of s below n no other is to the right of the way from p to q
pub record Ahead (m : Meaning) (s : ℕ → Type 0) (n p q : ℕ) : Type 0 where
  pub to : s q
  pub apart : p ≢ q
  pub left : (r : ℕ) → r < n → s r → r ≢ p → r ≢ q → Left m p q r

module _ {m : Meaning} {s : ℕ → Type 0} {p q : ℕ} where
  -- a mark that is not to the right of the way leaves the mark so far
  pub ahead_kept : {n : ℕ} → Ahead m s n p q → (s n → n ≢ p → n ≢ q → Left m p q n) → Ahead m s (n + 1) p q
  ahead_kept {n} a f = record { to = a.to; apart = a.apart; left = left }
    where
      left : (r : ℕ) → r < n + 1 → s r → r ≢ p → r ≢ q → Left m p q r
      left r lt h i j = elim (other r n) [ inl e ↦ subst (Left m p q) (sym e) (f (subst s e h) (subst (λ y. y ≢ p) e i) (subst (λ y. y ≢ q) e j)) | inr k ↦ a.left r (omega arith) h i j ]

module _ {m : Meaning} (L : Lawful m) {s : ℕ → Type 0} {u p : ℕ} (into : Arc m s u p) where
  -- about p, to which an arc comes from u, u is the last mark
  not_first : {y : ℕ} → s y → Left m p u y → ⊥
  not_first {y} h k = L.antisymmetric (L.cyclic (into.left y h (Ne-symm k.three.q≢r) k.three.r≢p)) k

  -- about p, p y z says that y is before z: an order
  pub about : {x y z : ℕ} → s x → s y → s z → Left m p x y → Left m p y z → Left m p x z
  about {x} {y} {z} hx hy hz xy yz =
      elim (other x u) [
        | inl e ↦ absurd (not_first hy (subst (λ c. Left m p c y) e xy))
        | inr x≢u ↦
            elim (other z u) [
              | inl e ↦ subst (Left m p x) (sym e) (L.cyclic (into.left x hx x≢u (Ne-symm xy.three.p≢q)))
              | inr z≢u ↦
                  transitive' L (into.left x hx x≢u (Ne-symm xy.three.p≢q)) (into.left y hy (λ e. not_first hz (subst (λ c. Left m p c z) e yz)) xy.three.r≢p) (into.left z hz z≢u yz.three.r≢p) xy yz
            ]
      ]

  -- a mark to the right of the way from p to the mark so far takes its place
  pub ahead_new : {n q : ℕ} → Ahead m s n p q → s n → Left m p n q → Ahead m s (n + 1) p n
  ahead_new {n} {q} a h k = record { to = h; apart = k.three.p≢q; left = left }
    where
      left : (r : ℕ) → r < n + 1 → s r → r ≢ p → r ≢ n → Left m p n r
      left r lt i j j' =
          elim (other r q) [
            | inl e ↦ subst (Left m p n) (sym e) k
            | inr r≢q ↦ about h a.to i k (a.left r (omega arith) i j r≢q)
          ]

-- ---- the way

-- the marks of the ring are a way along arcs of s that goes on to q, and none stands on it twice
abbrev pub Goes : Meaning → (ℕ → Type 0) → List ℕ → ℕ → Type 0
Goes m s [] q = ⊥
Goes m s (a ∷ l) q = Walk (Arc m s) a l q × Apart (a ∷ l)

all_before : (P : ℕ → Type 0) (a : ℕ) (l : List ℕ) → AllByRecursion P (a ∷ l) → P (before a l)
all_before P a [] h = h.0
all_before P a (c ∷ l) h = all_before P c l h.1

before_apart : (a : ℕ) (l : List ℕ) (c : ℕ) (k : List ℕ) → Apart (a ∷ l ++ c ∷ k) → before a l ≢ before c k
before_apart a [] c k h = Ne-symm (all_before (λ b. b ≢ a) c k h.0)
before_apart a (d ∷ l) c k h = before_apart d l c k h.1

-- one mark more at the end of a list
apart_more : (l : List ℕ) (c : ℕ) → Apart l → AllByRecursion (λ b. b ≢ c) l → Apart (l ++ c ∷ [])
apart_more [] c h n = (tt, tt)
apart_more (a ∷ l) c h n = (All-append _ l (c ∷ []) h.0 (Ne-symm n.0, tt), apart_more l c h.1 n.1)

module _ {m : Meaning} {s : ℕ → Type 0} where
  -- all marks of a way are of s
  goes_in : {a b : ℕ} {l : List ℕ} → Walk (Arc m s) a l b → AllByRecursion s (a ∷ l ++ b ∷ [])
  goes_in (end r) = (r.from, (r.to, tt))
  goes_in (on r w) = (r.from, goes_in w)

  -- an arc comes to the mark that the way goes on to
  pub goes_into : (a : ℕ) (l : List ℕ) (q : ℕ) → Goes m s (a ∷ l) q → Arc m s (before a l) q
  goes_into a l q g = last g.0

  module _ (L : Lawful m) where
    goes_apart : (a : ℕ) (l : List ℕ) (q : ℕ) → Goes m s (a ∷ l) q → q ≢ a → Apart (a ∷ l ++ q ∷ [])
    goes_apart a l q g n = apart_more (a ∷ l) q g.1 (Ne-symm n, elim (seek q l) [ inl (l₁, l₂, e) ↦ absurd (twice l₁ l₂ e) | inr ns ↦ ns ])
      where
        twice : (l₁ l₂ : List ℕ) → l ≡ l₁ ++ q ∷ l₂ → ⊥
        twice l₁ l₂ e =
            let w = cut l₁ (subst (λ k. Walk (Arc m s) a k q) e g.0) in
            before_apart a l₁ q l₂ (subst (λ k. Apart (a ∷ k)) e g.1) (one_before L _ _ q (last w.0) (last w.1))

    -- one arc more
    pub goes_more : (a : ℕ) (l : List ℕ) (q q' : ℕ) → Goes m s (a ∷ l) q → q ≢ a → Arc m s q q' → Goes m s (a ∷ l ++ q ∷ []) q'
    goes_more a l q q' g n arc = (join g.0 (end arc), goes_apart a l q g n)

    module _ (marks : Marks m s) where
      -- the way has room for one mark more
      pub goes_few : (a : ℕ) (l : List ℕ) (q : ℕ) → Goes m s (a ∷ l) q → q ≢ a → length (a ∷ l) + 1 ≤ m.count
      goes_few a l q g n =
          let i = few m.count (a ∷ l ++ q ∷ []) (goes_apart a l q g n) (All-weaker s (λ c. c < m.count) (λ c k. marks c k) (a ∷ l ++ q ∷ []) (goes_in g.0)) in
          omega (arith, length-append (a ∷ l) (q ∷ []))

      -- back at its first mark, the way is the whole hull
      pub goes_round : (a : ℕ) (l : List ℕ) → Goes m s (a ∷ l) a → Hull m s (a ∷ l)
      goes_round a l g = whole L marks g.0 g.1.0

-- x on the hull of s with x: from the mark after it to the mark before it the way is one along arcs of s
pub goes_first : {m : Meaning} {s : ℕ → Type 0} (x b : ℕ) (l : List ℕ) (a : ℕ) → Hull m (adding s x) (x ∷ b ∷ l ++ a ∷ []) → Goes m s (b ∷ l) a
goes_first x b l a r =
    let n = all_cut (λ c. c ≢ x) (b ∷ l) (a ∷ []) r.apart.0 in
    (walk_less (cut l (rest (loop r).walk)).0 n.0 n.1.0, cut_apart (b ∷ l) (a ∷ []) r.apart.1)
  where
    rest : {R : ℕ → ℕ → Type 0} {c d e : ℕ} {k : List ℕ} → Walk R c (d ∷ k) e → Walk R d k e
    rest (on r w) = w

    cut_apart : (k j : List ℕ) → Apart (k ++ j) → Apart k
    cut_apart [] j h = tt
    cut_apart (c ∷ k) j h = ((all_cut (λ b. b ≢ c) k j h.0).0, cut_apart k j h.1)

-- ---- what arrives where x stood

-- a way in two parts
step_cut : (a : ℕ) (l : List ℕ) (c : ℕ) (k : List ℕ) (b p q : ℕ) → Step a (l ++ c ∷ k) b p q → Step a l c p q ⊎ Step c k b p q
step_cut a [] c k b p q (inl h) = inl h
step_cut a [] c k b p q (inr h) = inr h
step_cut a (d ∷ l) c k b p q (inl h) = inl (inl h)
step_cut a (d ∷ l) c k b p q (inr h) = elim (step_cut d l c k b p q h) [ inl i ↦ inl (inr i) | inr i ↦ inr i ]

step_behind : (a : ℕ) (l : List ℕ) (c : ℕ) (k : List ℕ) (b p q : ℕ) → Step c k b p q → Step a (l ++ c ∷ k) b p q
step_behind a [] c k b p q h = inr h
step_behind a (d ∷ l) c k b p q h = inr (step_behind d l c k b p q h)

-- c is not on the list
abbrev Off : List ℕ → ℕ → Type 0
Off l c = AllByRecursion (λ b. b ≢ c) l

-- no mark of the second list is on the first
all_off : (l k : List ℕ) → Apart (l ++ k) → AllByRecursion (Off l) k
all_off [] k h = nothing k
  where
    nothing : (k : List ℕ) → AllByRecursion (Off []) k
    nothing [] = tt
    nothing (c ∷ k) = (tt, nothing k)
all_off (a ∷ l) k h = both k (all_cut (λ b. b ≢ a) l k h.0).1 (all_off l k h.1)
  where
    both : (k : List ℕ) → AllByRecursion (λ b. b ≢ a) k → AllByRecursion (Off l) k → AllByRecursion (Off (a ∷ l)) k
    both [] n ns = tt
    both (c ∷ k) n ns = ((Ne-symm n.0, ns.0), both k n.1 ns.1)

off_turned : (k l : List ℕ) (c : ℕ) → Turned k l → Off l c → Off k c
off_turned k l c (a, b, e, e') h =
    let i = all_cut (λ d. d ≢ c) b a (subst (λ y. Off y c) e' h) in
    subst (λ y. Off y c) (sym e) (All-append (λ d. d ≢ c) a b i.1 i.0)

module _ {m : Meaning} (L : Lawful m) {s : ℕ → Type 0} (marks : Marks m s) {x : ℕ} (x_in : x < m.count) (x_out : s x → ⊥) where
  not_x : {p : ℕ} → s p → p ≢ x
  not_x h e = x_out (subst s e h)

  -- x takes the place of the marks `gone` of s: without x these arrive
  back : {ring : List ℕ} (first : ℕ) (rest : List ℕ) (last : ℕ) (gone : List ℕ) → Turned ring (x ∷ first ∷ rest ++ last ∷ []) → Hull m s (first ∷ rest ++ last ∷ gone)
      → ((p q : ℕ) → Step first rest last p q → Left m p q x) → ((p q : ℕ) → Step last gone first p q → Left m p x q) → Shrunk m s ring x
  back {ring} first rest last gone t r hidden seen =
      record {
        first = first;
        rest = rest;
        last = last;
        arrived = gone;
        turned = t;
        inside = All-weaker _ _ (λ c h. off_turned ring _ c t h) gone (with_x gone gone_in (all_off (first ∷ rest ++ last ∷ []) gone apart));
        seen = seen;
        arcs = λ p q. (old_or_new p q, either_way p q);
        hull = r;
      }
    where
      apart : Apart ((first ∷ rest ++ last ∷ []) ++ gone)
      apart = subst Apart (sym (append_assoc (first ∷ rest) (last ∷ []) gone)) r.apart

      gone_in : AllByRecursion s gone
      gone_in = (all_cut s (first ∷ rest) (last ∷ gone) (all_cut s (first ∷ rest ++ last ∷ gone) (first ∷ []) (goes_in (loop r).walk)).0).1.1

      with_x : (k : List ℕ) → AllByRecursion s k → AllByRecursion (Off (first ∷ rest ++ last ∷ [])) k → AllByRecursion (Off (x ∷ first ∷ rest ++ last ∷ [])) k
      with_x [] h n = tt
      with_x (c ∷ k) h n = ((Ne-symm (not_x h.0), n.0), with_x k h.1 n.1)

      old_or_new : (p q : ℕ) → Arc m s p q → (Arc m (adding s x) p q × (p ≢ x) × (q ≢ x)) ⊎ Step last gone first p q
      old_or_new p q a =
          elim (step_cut first rest last gone first p q ((r.arcs p q).1 a)) [
            | inl h ↦ inl (kept L a (hidden p q h), not_x a.from, not_x a.to)
            | inr h ↦ inr h
          ]

      either_way : (p q : ℕ) → (Arc m (adding s x) p q × (p ≢ x) × (q ≢ x)) ⊎ Step last gone first p q → Arc m s p q
      either_way p q (inl (a, n, n')) = arc_less a n n'
      either_way p q (inr h) = (r.arcs p q).0 (step_behind first rest last gone first p q h)

  -- x on the outline of s with x, and two marks or more beside it: with x back in its place that is the ring again
  shrunk : ((p : ℕ) → s p ⊎ (s p → ⊥)) → {ring : List ℕ} (b c : ℕ) (k : List ℕ) → Turned ring (x ∷ b ∷ c ∷ k) → Hull m (adding s x) (x ∷ b ∷ c ∷ k) → Shrunk m s ring x
  shrunk either {ring} b c k t r = go (outline L marks either).1
    where
      from_x : Arc m (adding s x) x b
      from_x = (r.arcs x b).0 (inl (refl, refl))

      beyond : Arc m s b c
      beyond = arc_less ((r.arcs b c).0 (inr (inl (refl, refl)))) r.apart.0.0 r.apart.0.1.0

      go : {l : List ℕ} → Outline m s l → Shrunk m s ring x
      go (none h) = absurd (h b beyond.from)
      go (one h u) = absurd (beyond.apart (u b beyond.from ∙ sym (u c beyond.to)))
      go (more r') =
          elim (insert L marks x_in x_out r') [
            | inl i ↦ absurd (x_out ((r'.arcs x b).0 ((i.1.arcs x b).1 from_x)).from)
            | inr g ↦
                let o = from L (marks' m marks x_in) (g.rest ++ g.last ∷ []) [] (loop (subst (λ y. Hull m (adding s x) (g.first ∷ y)) (sym (append_assoc g.rest (g.last ∷ []) (x ∷ []))) g.hull)) in
                let e = same (one_after L) (loop r).walk o.walk (loop r).away o.away in
                back g.first g.rest g.last g.gone (subst (λ y. Turned ring (x ∷ y)) e t)
                (to_hull L (outline_turned L marks _ _ g.turned (more r')) (omega (arith, length-append g.rest (g.last ∷ g.gone)))) g.hidden g.seen
          ]

  -- one mark less
  pub depart : ((p : ℕ) → s p ⊎ (s p → ⊥)) → (l : List ℕ) → Outline m (adding s x) l
      → (AllByRecursion (λ c. c ≢ x) l × Outline m s l)
      ⊎ ((rest : List ℕ) × Turned l (x ∷ rest) × (length rest < 2) × Outline m s rest)
      ⊎ Shrunk m s l x
  depart either l o =
      elim (seek x l) [
        | inr ns ↦ inl (ns, outline_less L marks o ns)
        | inl (l₁, l₂, e) ↦ inr (on_it (l₂ ++ l₁) (l₁, x ∷ l₂, e, refl))
      ]
    where
      on_it : (k : List ℕ) → Turned l (x ∷ k) → ((rest : List ℕ) × Turned l (x ∷ rest) × (length rest < 2) × Outline m s rest) ⊎ Shrunk m s l x
      on_it k t = by_length k t (outline_turned L (marks' m marks x_in) l (x ∷ k) t o)
        where
          by_length : (k : List ℕ) → Turned l (x ∷ k) → Outline m (adding s x) (x ∷ k) → ((rest : List ℕ) × Turned l (x ∷ rest) × (length rest < 2) × Outline m s rest) ⊎ Shrunk m s l x
          by_length [] t o' = inl ([], t, omega arith, outline_few L marks x_out [] o' (omega arith))
          by_length (b ∷ []) t o' = inl (b ∷ [], t, omega arith, outline_few L marks x_out (b ∷ []) o' (omega arith))
          by_length (b ∷ c ∷ k) t o' = inr (shrunk either b c k t (to_hull L o' (omega arith)))
