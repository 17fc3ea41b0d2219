-- One more mark: the hull of s with x.
use Rattle.std.proofs.Common.{ℕ, ◌<◌, ◌≢◌, ◌⊎◌, List, [], ◌∷◌, ◌++◌, sym, refl, subst, inl, inr, append_assoc, append-nil}
use mathlib.Core.Logic.{Ne-symm, ⊎_swap}
use Rattle.std.specs.List.{AllByRecursion}
use Rattle.std.proofs.ByRecursion.{All-append}
use Rattle.laws.specs.Systems.{Meaning, Left, Lawful}
use Rattle.laws.specs.Outlines.{Marks, adding, Arc, Follows, Hull, Turned, Grown}
use Rattle.laws.proofs.Walks.{Walk, end, on, after, first, last, join, cut, step, steps, walk_map, apart_mid, all_cut, Run, all, none, some, run, stays}
use Rattle.laws.proofs.Arcs.{one_after, one_before, kept, arc_to, arc_from, turn, not_all, whole}

-- a closed walk along arcs, back at h for the first time
pub record Loop (m : Meaning) (s : ℕ → Type 0) (h : ℕ) (l : List ℕ) : Type 0 where
  pub walk : Walk (Arc m s) h l h
  pub away : AllByRecursion (λ c. c ≢ h) l

pub loop : {m : Meaning} {s : ℕ → Type 0} {h : ℕ} {l : List ℕ} → Hull m s (h ∷ l) → Loop m s h l
loop {h = h} {l = l} r = record { walk = steps h l h (λ p q k. (r.arcs p q).0 k); away = r.apart.0 }

pub marks' : (m : Meaning) {s : ℕ → Type 0} → Marks m s → {x : ℕ} → x < m.count → Marks m (adding s x)
marks' m marks x_in p (inl h) = marks p h
marks' m marks x_in p (inr e) = subst (λ y. y < m.count) (sym e) x_in

module _ {m : Meaning} (L : Lawful m) {s : ℕ → Type 0} (marks : Marks m s) where
  pub hull : {h : ℕ} {l : List ℕ} → Loop m s h l → Hull m s (h ∷ l)
  hull o = whole L marks o.walk o.away

  -- the same loop, from another of its marks
  pub from : {h t : ℕ} (l k : List ℕ) → Loop m s h (l ++ t ∷ k) → Loop m s t (k ++ h ∷ l)
  from {h} {t} l k o =
      let w = cut l o.walk in
      let n = apart_mid l t k (hull o).apart.1 in
      record {
        walk = join w.1 w.0;
        away = All-append _ k (h ∷ l) n.1 (Ne-symm (all_cut _ l (t ∷ k) o.away).1.0, n.0);
      }

  module _ {x : ℕ} (x_in : x < m.count) (x_out : s x → ⊥) where
    -- arcs that x does not see, and arcs that it sees
    abbrev Hidden : ℕ → ℕ → Type 0
    Hidden p q = Arc m s p q × Left m p q x

    abbrev Seen : ℕ → ℕ → Type 0
    Seen p q = Arc m s p q × Left m p x q

    hidden_or : (p q : ℕ) → Arc m s p q → Hidden p q ⊎ Seen p q
    hidden_or p q a =
        elim (turn L marks a.from a.to x_in (Ne-symm a.apart) (λ e. x_out (subst s e a.to)) (λ e. x_out (subst s (sym e) a.from)))
        [ inl k ↦ inl (a, k) | inr k ↦ inr (a, k) ]

    seen_or : (p q : ℕ) → Arc m s p q → Seen p q ⊎ Hidden p q
    seen_or p q a = ⊎_swap (hidden_or p q a)

    not_both : {p q : ℕ} → Hidden p q → Seen p q → ⊥
    not_both a b = L.antisymmetric a.1 b.1

    -- x comes after t, where the arcs that it sees begin, and before t, where they end
    after_hidden : {u t v : ℕ} → Hidden u t → Seen t v → Arc m (adding s x) t x
    after_hidden a b = arc_to L a.0 a.1 b.0 b.1

    after_seen : {u t v : ℕ} → Seen u t → Hidden t v → Arc m (adding s x) x t
    after_seen a b = arc_from L a.0 a.1 b.0 b.1

    -- x sees the arcs from t through gone to t', and not those from t' through rest to t: it takes the place of gone
    pub replace : {t t' : ℕ} {gone rest : List ℕ} → Walk Seen t gone t' → Walk Hidden t' rest t → t ≢ t' → AllByRecursion (λ c. c ≢ t') rest
        → Hull m (adding s x) (t' ∷ rest ++ t ∷ x ∷ [])
    replace {t} {rest = rest} v w n ns =
        whole L (marks' m marks x_in)
        (join (walk_map (λ p q a. kept L a.0 a.1) w) (on (after_hidden (last w) (first v)) (end (after_seen (last v) (first w)))))
        (All-append _ rest (t ∷ x ∷ []) ns (n, ((last v).1.three.q≢r, tt)))

    grown : {ring : List ℕ} {t t' : ℕ} {gone rest : List ℕ} → Loop m s t' (rest ++ t ∷ gone) → Walk Seen t gone t' → Walk Hidden t' rest t
        → Turned ring (t' ∷ rest ++ t ∷ gone) → Grown m s ring x
    grown {t = t} {t'} {gone} {rest} o v w turned =
        let n = all_cut _ rest (t ∷ gone) o.away in
        record {
          first = t';
          rest = rest;
          last = t;
          gone = gone;
          turned = turned;
          hidden = λ p q k. (step w p q k).1;
          seen = λ p q k. (step v p q k).1;
          hull = replace v w n.1.0 n.0;
        }

    -- the ring starts with a run of hidden arcs, up to t
    hidden_first : {h t : ℕ} {k l : List ℕ} → Loop m s h (k ++ t ∷ l) → Walk Hidden h k t → Seen t (after l h) → Run Seen Hidden (Arc m s) h t l
        → Grown m s (h ∷ k ++ t ∷ l) x
    hidden_first {h} {t} {k} {l} o w f (all v) = grown o v w ([], h ∷ k ++ t ∷ l, refl, sym (append-nil _))
    hidden_first o w f (none f') = absurd (not_both f' f)
    hidden_first {h} {t} {k} o w f (some {t = t'} {k = k'} {l = l} v f' u) =
        grown (rw append_assoc (from (k ++ t ∷ k') l (rw append_assoc o))) v (join (stays hidden_or never ns f' u) w)
        (h ∷ k ++ t ∷ k', t' ∷ l, sym (append_assoc (h ∷ k) (t ∷ k') (t' ∷ l)), append_assoc (t' ∷ l) (h ∷ k) (t ∷ k'))
      where
        ns : AllByRecursion (λ c. c ≢ t) l
        ns = (all_cut _ k' (t' ∷ l) (apart_mid k t (k' ++ t' ∷ l) (hull o).apart.1).1).1.1

        never : (a c b : ℕ) → c ≢ t → Hidden a c → Seen c b → ⊥
        never a c b n i j = n (one_before L _ _ _ (after_hidden i j) (after_hidden (last w) f))

    -- the ring starts with a run of arcs that x sees, up to t'
    seen_first : {h t' : ℕ} {k l : List ℕ} → Loop m s h (k ++ t' ∷ l) → Walk Seen h k t' → Hidden t' (after l h) → Run Hidden Seen (Arc m s) h t' l
        → Grown m s (h ∷ k ++ t' ∷ l) x
    seen_first {h} {t'} {k} {l} o v f (all w) = grown (from k l o) v w (h ∷ k, t' ∷ l, refl, refl)
    seen_first o v f (none f') = absurd (not_both f f')
    seen_first {h} {t'} {k} o v f (some {t = t} {k = k'} {l = l} w f' u) =
        grown (rw append_assoc at (from k (k' ++ t ∷ l) o)) (join (stays seen_or never ns f' u) v) w
        (h ∷ k, t' ∷ k' ++ t ∷ l, refl, sym (append_assoc (t' ∷ k') (t ∷ l) (h ∷ k)))
      where
        ns : AllByRecursion (λ c. c ≢ t') l
        ns = (all_cut _ k' (t ∷ l) (apart_mid k t' (k' ++ t ∷ l) (hull o).apart.1).1).1.1

        never : (a c b : ℕ) → c ≢ t' → Seen a c → Hidden c b → ⊥
        never a c b n i j = n (one_after L _ _ _ (after_seen i j) (after_seen (last v) f))

    seen_start : {h : ℕ} {l : List ℕ} → Loop m s h l → Seen h (after l h) → Run Seen Hidden (Arc m s) h h l → Grown m s (h ∷ l) x
    seen_start o f (all v) = absurd (not_all L marks v o.away)
    seen_start o f (none f') = absurd (not_both f' f)
    seen_start o f (some v f' u) = seen_first o v f' (run hidden_or u)

    start : {h : ℕ} {l : List ℕ} → Loop m s h l → Run Hidden Seen (Arc m s) h h l
        → (((p q : ℕ) → Follows (h ∷ l) p q → Left m p q x) × Hull m (adding s x) (h ∷ l)) ⊎ Grown m s (h ∷ l) x
    start o (all w) = inl (λ p q k. (step w p q k).1, whole L (marks' m marks x_in) (walk_map (λ p q a. kept L a.0 a.1) w) o.away)
    start o (none f) = inr (seen_start o f (run seen_or o.walk))
    start o (some w f u) = inr (hidden_first o w f (run seen_or u))

    -- with one more mark, the hull stays if x sees no arc, and otherwise x takes the place of the marks inside the run that it sees
    pub insert : {h : ℕ} {l : List ℕ} → Hull m s (h ∷ l)
        → (((p q : ℕ) → Follows (h ∷ l) p q → Left m p q x) × Hull m (adding s x) (h ∷ l)) ⊎ Grown m s (h ∷ l) x
    insert r = let o = loop r in start o (run hidden_or o.walk)
