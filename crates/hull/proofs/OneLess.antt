-- The ring around one mark less.
use Rattle.std.proofs.Common.{◌≡◌, ℕ, ◌+◌, ◌-◌, ◌<◌, ◌≤◌, Bool, T, ◌≢◌, List, [], ◌∷◌, ◌++◌, length, get_or, take, drop, sym, refl, ap, ◌∙◌, subst, append_assoc, add-one, arith, length-append, take-append-drop, drop-cons}
use mathlib.Core.Logic.Iff
use lib.Seq.{get_or_at}
use Rattle.std.proofs.lemmas.List.{take_more}
use Rattle.std.proofs.lemmas.Grind.{common_steps}
use Rattle.laws.specs.Systems.{Meaning, Lawful}
use Rattle.laws.specs.Outlines.{Marks, adding, Arc, Hull, Outline, ReadOut, Turned}
use Rattle.laws.specs.Theorems.{of}
use Rattle.laws.proofs.Walks.{first, step, steps, all_cut}
use Rattle.laws.proofs.Departures.{Goes, outline_less, outline_few, goes_into, goes_more, goes_few, goes_round, goes_first}
use Rattle.laws.proofs.Existence.{outline_of, outline_same, outline_turned, to_hull}
use Rattle.runs.specs.Calls.{On, RingOf}
use Rattle.runs.proofs.Decided.{less_marks}
use Rattle.runs.proofs.Leaving.{by_more}
use Rattle.runs.proofs.Standing.{off_all}
use Rattle.hull.specs.Rings.{Surrounds, Reached, Way, Open}

-- ---- lists

-- a list without its last mark
without_last : (k : List ℕ) (y n : ℕ) → n ≡ length k → take n (k ++ y ∷ []) ≡ k
without_last k y n e = grind (arith, common_steps)

-- the list from the position after p on, and then up to p, is without its last mark the list without p
pub opened_is : (l : List ℕ) (p n : ℕ) → p < length l → n ≡ length l - 1 → take n (drop (p + 1) l ++ take (p + 1) l) ≡ drop (p + 1) l ++ take p l
opened_is l p n h e =
    ap (λ k. take n (drop (p + 1) l ++ k)) (take_more l p 0 h)
    ∙ ap (take n) (sym (append_assoc (drop (p + 1) l) (take p l) (get_or l p 0 ∷ [])))
    ∙ without_last (drop (p + 1) l ++ take p l) (get_or l p 0) n (grind (arith, common_steps))

-- the ring with x at position p, started at x
pub opened_turned : (l : List ℕ) (p x : ℕ) → p < length l → get_or l p 0 ≡ x → Turned l (x ∷ drop (p + 1) l ++ take p l)
opened_turned l p x h e = (
  take p l,
  drop p l,
  sym (take-append-drop p l),
  ap (λ y. y ∷ drop (p + 1) l ++ take p l) (sym e) ∙ ap (λ k. get_or l p 0 ∷ drop k l ++ take p l) (add-one p) ∙ ap (λ k. k ++ take p l) (sym (drop-cons l p 0 h)),
)

-- a list that is not empty has a last mark
last_of : (b : ℕ) (k : List ℕ) → (l : List ℕ) × (a : ℕ) × (b ∷ k ≡ l ++ a ∷ [])
last_of b [] = ([], b, refl)
last_of b (c ∷ k) = let (l, a, e) = last_of c k in (b ∷ l, a, ap (λ y. b ∷ y) e)

-- ---- ways, as `Way` of specs/Rings and as `Goes` of the lemmas

module _ (m : Meaning) (s : ℕ → Bool) where
  goes : (l : List ℕ) (q : ℕ) → Way m s l q → Goes m (of s) l q
  goes [] q w = w
  goes (a ∷ l) q w = (steps a l q w.0, w.1)

  way : (l : List ℕ) (q : ℕ) → Goes m (of s) l q → Way m s l q
  way [] q g = g
  way (a ∷ l) q g = (λ c d k. step g.0 c d k, g.1)

  -- one mark more leaves what stands first
  pub way_head : (l : List ℕ) (q x : ℕ) → Way m s l q → get_or (l ++ x ∷ []) 0 0 ≡ get_or l 0 0
  way_head [] q x w = absurd w
  way_head (a ∷ l) q x w = refl

  -- the first mark of a way is one of s
  pub way_first : (l : List ℕ) (q : ℕ) → Way m s l q → T (s (get_or l 0 0))
  way_first [] q w = absurd w
  way_first (a ∷ l) q w = (first (goes (a ∷ l) q w).0).from

  -- an arc comes to the mark that the way goes on to
  pub way_reached : (l : List ℕ) (q : ℕ) → Way m s l q → Reached m s q
  way_reached [] q w = absurd w
  way_reached (a ∷ l) q w = (_, goes_into a l q (goes (a ∷ l) q w))

  -- what stands first on an open ring
  pub open_first : (ring k : List ℕ) (o : Open m s ring) → k ≡ ring → get_or k 0 0 ≡ get_or o.front 0 0
  open_first ring k o e = ap (λ y. get_or y 0 0) (e ∙ o.in_all) ∙ way_head o.front o.last o.last o.way

  -- and last
  pub open_last : (ring k : List ℕ) (n : ℕ) (o : Open m s ring) → k ≡ ring → n ≡ length ring → get_or k (n - 1) 0 ≡ o.last
  open_last ring k n o e d =
      ap (λ y. get_or y (n - 1) 0) (e ∙ o.in_all) ∙ get_or_at o.front o.last [] 0 (n - 1) (omega (arith, ap length o.in_all, length-append o.front (o.last ∷ [])))

  module _ (L : Lawful m) where
    -- one arc more
    pub way_more : (l : List ℕ) (q q' : ℕ) → Way m s l q → q ≢ get_or l 0 0 → Arc m (of s) q q' → Way m s (l ++ q ∷ []) q'
    way_more [] q q' w n a = absurd w
    way_more (b ∷ l) q q' w n a = way (b ∷ l ++ q ∷ []) q' (goes_more L b l q q' (goes (b ∷ l) q w) n a)

    -- the first arc more, from the last mark of an open ring on
    pub open_more : (ring : List ℕ) (q q' : ℕ) (o : Open m s ring) → q ≡ o.last → Arc m (of s) q q' → Way m s ring q'
    open_more ring q q' o e a =
        subst (λ k. Way m s k q') (sym o.in_all) (way_more o.front o.last q' o.way o.apart (subst (λ p. Arc m (of s) p q') e a))

    module _ (marks : Marks m (of s)) where
      -- a way that does not come back to its first mark has room for one mark more
      pub way_few : (l : List ℕ) (q : ℕ) → Way m s l q → q ≢ get_or l 0 0 → length l < 128
      way_few [] q w n = absurd w
      way_few (a ∷ l) q w n = omega (arith, L.limit, goes_few L marks a l q (goes (a ∷ l) q w) n)

      -- one that does is the outline
      pub way_round : (l : List ℕ) (q : ℕ) → Way m s l q → q ≡ get_or l 0 0 → Outline m (of s) l
      way_round [] q w e = absurd w
      way_round (a ∷ l) q w e = outline_of a l (goes_round L marks a l (subst (Goes m (of s) (a ∷ l)) e (goes (a ∷ l) q w)))

-- ---- the ring around one mark less

module _ {m : Meaning} (L : Lawful m) (s : ℕ → Bool) (ring : List ℕ) (x : ℕ) (a : Surrounds m s ring x) where
  -- the marks that are left are marks of the system
  pub less : Marks m (of s)
  less = less_marks m a.one a.marks

  with_x : {l : List ℕ} → Outline m (of a.set) l → Outline m (adding (of s) x) l
  with_x o = outline_same (λ p. ((by_more a.one p).1, (by_more a.one p).0)) (λ p q r i j k. Iff.rfl) o

  -- x off the ring
  pub stays : (On ring x → ⊥) → RingOf m s ring
  stays n = record { outline = outline_less L less (with_x a.is_ring.outline) (off_all ring x n); lowest = a.is_ring.lowest }

  -- x at position p of the ring
  module _ (p : ℕ) (h : p < length ring) (e : get_or ring p 0 ≡ x) where
    open_ring : Outline m (adding (of s) x) (x ∷ drop (p + 1) ring ++ take p ring)
    open_ring = with_x (outline_turned L a.marks ring (x ∷ drop (p + 1) ring ++ take p ring) (opened_turned ring p x h e) a.is_ring.outline)

    -- with one mark beside x at most, that is the outline
    pub few_left : (k : List ℕ) → k ≡ drop (p + 1) ring ++ take p ring → length k ≤ 1 → Outline m (of s) k
    few_left k d i = outline_few L less a.one.was k (subst (λ y. Outline m (adding (of s) x) (x ∷ y)) (sym d) open_ring) (omega arith)

    -- with more, the ring is open where x stood
    pub is_open : (k : List ℕ) → k ≡ drop (p + 1) ring ++ take p ring → 1 < length k → Open m s k
    is_open k d i = go k (subst (λ y. Outline m (adding (of s) x) (x ∷ y)) (sym d) open_ring) i
      where
        go : (k : List ℕ) → Outline m (adding (of s) x) (x ∷ k) → 1 < length k → Open m s k
        go [] o i = absurd (omega arith)
        go (b ∷ []) o i = absurd (omega arith)
        go (b ∷ c ∷ k) o i =
            let (l, q, e) = last_of c k in
            let r = subst (λ y. Hull m (adding (of s) x) (x ∷ b ∷ y)) e (to_hull L o (omega arith)) in
            record {
              front = b ∷ l;
              last = q;
              in_all = ap (λ y. b ∷ y) e;
              way = way m s (b ∷ l) q (goes_first x b l q r);
              apart = (all_cut (λ d. d ≢ b) l (q ∷ []) r.apart.1.0).1.0;
            }

  -- an outline, started at its lowest mark
  pub from_lowest : (k l : List ℕ) → Outline m (of s) k → Turned k l → ReadOut l → RingOf m s l
  from_lowest k l o t low = record { outline = outline_turned L less k l t o; lowest = low }
