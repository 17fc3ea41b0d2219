-- Peeling one outline after another off the marks.
use Rattle.std.proofs.Common.{◌≡◌, ℕ, zero, suc, ◌+◌, ◌-◌, ◌<◌, ◌≤◌, Bool, true, false, T, ◌≢◌, ◌⊎◌, ◌↔◌, List, [], ◌∷◌, ◌++◌, length, get_or, take, drop, sym, refl, ap, ◌∙◌, subst, inl, inr, add-zero, arith, length-drop, length-take-le, get_or-drop, get_or-take, ext_get_or}
use lib.ListN.{get_or-append}
use Rattle.std.proofs.lemmas.List.{get_or-append_right}
use Rattle.laws.specs.Systems.{Meaning, Lawful}
use Rattle.laws.specs.Outlines.{Marks, Outline, none}
use Rattle.laws.specs.Theorems.{of}
use Rattle.runs.specs.Calls.{On, RingOf, Peeled, outer, inner, Rounds}
use Rattle.runs.proofs.Standing.{ring_in}
use Rattle.runs.proofs.SomeAnswer.{on_or, size, size_in, size_lost, lighter}
use Rattle.hull.specs.Records.{flagged}

-- ---- one ring off

-- the first n entries are cleared, and the others stay
pub cleared : (entries front : List ℕ) (n : ℕ) → length front ≡ n → n ≤ length entries → ((p : ℕ) → p < n → get_or front p 0 ≡ 0)
    → ((p : ℕ) → p < n → get_or (front ++ drop n entries) p 0 ≡ 0) × ((p : ℕ) → n ≤ p → get_or (front ++ drop n entries) p 0 ≡ get_or entries p 0)
cleared entries front n long room zeros = (
  λ p h. get_or-append front (drop n entries) 0 p (omega arith) ∙ zeros p h,
  λ p h. get_or-append_right front (drop n entries) n p 0 long h ∙ get_or-drop n entries (p - n) 0 ∙ ap (λ i. get_or entries i 0) (omega arith),
)

-- the first i marks of the ring are off, and the others are as they were
pub record Off (ring : List ℕ) (round : ℕ) (flags₀ : List Bool) (entries₀ : List ℕ) (flags : List Bool) (entries : List ℕ) (i : ℕ) : Type 0 where
  pub same_length : length entries ≡ length entries₀
  pub on : (k : ℕ) → k < i → (get_or entries (get_or ring k 0) 0 ≡ round) × (flagged flags (get_or ring k 0) ≡ false)
  pub off : (p : ℕ) → ((k : ℕ) → k < i → get_or ring k 0 ≢ p) → (get_or entries p 0 ≡ get_or entries₀ p 0) × (flagged flags p ≡ flagged flags₀ p)

-- ---- all rings off

-- k outlines are peeled off s, and u is left
pub record Peeling (m : Meaning) (s u : ℕ → Bool) (entries₀ entries : List ℕ) (k : ℕ) : Type 0 where
  pub same_length : length entries ≡ length entries₀
  pub within : (p : ℕ) → T (u p) → T (s p)
  pub deeper : (p j : ℕ) → Peeled m u j p → Peeled m s (j + k) p
  pub done : (p : ℕ) → T (s p) → (T (u p) → ⊥) → Peeled m s (get_or entries p 0) p
  pub most : (p : ℕ) → p < m.count → get_or entries p 0 ≤ k
  pub out : (p : ℕ) → p < m.count → (T (s p) → ⊥) → get_or entries p 0 ≡ 0
  pub last : (k ≡ 0) ⊎ ((p : ℕ) × (p < m.count) × (get_or entries p 0 ≡ k))
  pub few : size u m.count + k ≤ m.count
  pub rest : (p : ℕ) → m.count ≤ p → get_or entries p 0 ≡ get_or entries₀ p 0

size_most : (s : ℕ → Bool) (n : ℕ) → size s n ≤ n
unfolding size
size_most s zero = omega arith
size_most s (suc n) = let i = size_most s n in let w = lighter (s n) true (λ _. tt) in omega arith

pub peeling_none : (m : Meaning) (s : ℕ → Bool) (entries₀ entries : List ℕ) → length entries ≡ length entries₀ → ((p : ℕ) → p < m.count → get_or entries p 0 ≡ 0)
    → ((p : ℕ) → m.count ≤ p → get_or entries p 0 ≡ get_or entries₀ p 0) → Peeling m s s entries₀ entries 0
peeling_none m s entries₀ entries long zeros rest =
    record {
      same_length = long;
      within = λ p h. h;
      deeper = λ p j h. subst (λ i. Peeled m s i p) (sym (add-zero j)) h;
      done = λ p h n. absurd (n h);
      most = λ p h. let e = zeros p h in omega arith;
      out = λ p h n. zeros p h;
      last = inl refl;
      few = let i = size_most s m.count in omega arith;
      rest = rest;
    }

module _ {m : Meaning} (L : Lawful m) (s u u' : ℕ → Bool) (entries₀ entries entries' : List ℕ) (k : ℕ) (marks : Marks m (of s))
    (g : Peeling m s u entries₀ entries k) (ring : List ℕ) (r : RingOf m u ring) (some : 0 < length ring)
    (long : length entries' ≡ length entries)
    (on : (p : ℕ) → On ring p → (get_or entries' p 0 ≡ k + 1) × (u' p ≡ false))
    (off : (p : ℕ) → (On ring p → ⊥) → (get_or entries' p 0 ≡ get_or entries p 0) × (u' p ≡ u p)) where
  left_of : (p : ℕ) → T (u' p) ↔ (T (u p) × (On ring p → ⊥))
  left_of p = (to (on_or ring p), λ h. subst T (sym (off p h.1).1) h.0)
    where
      to : On ring p ⊎ (On ring p → ⊥) → T (u' p) → T (u p) × (On ring p → ⊥)
      to (inl o) h = absurd (subst T (on p o).1 h)
      to (inr n) h = (subst T (off p n).1 h, n)

  on_small : (p : ℕ) → On ring p → p < m.count
  on_small p o = marks p (g.within p (ring_in L r o))

  first_on : On ring (get_or ring 0 0)
  first_on = (0, some, refl)

  pub peeling_more : Peeling m s u' entries₀ entries' (k + 1)
  peeling_more =
      record {
        same_length = long ∙ g.same_length;
        within = λ p h. g.within p ((left_of p).0 h).0;
        deeper = λ p j h. subst (λ i. Peeled m s i p) (omega arith) (g.deeper p (suc j) (inner r left_of h));
        done = λ p h n. elim (on_or ring p) [
          | inl o ↦ subst (λ i. Peeled m s i p) (let e = (on p o).0 in omega arith) (g.deeper p 1 (outer r o))
          | inr o ↦ subst (λ i. Peeled m s i p) (sym (off p o).0) (g.done p h (λ i. n ((left_of p).1 (i, o))))
        ];
        most = λ p h. elim (on_or ring p) [
          | inl o ↦ let e = (on p o).0 in omega arith
          | inr o ↦ let e = (off p o).0 in let i = g.most p h in omega arith
        ];
        out = λ p h n. (off p (λ o. n (g.within p (ring_in L r o)))).0 ∙ g.out p h n;
        last = inr (get_or ring 0 0, on_small _ first_on, (on _ first_on).0);
        few =
            let i = size_lost u u' (λ p h. ((left_of p).0 h).0) m.count (get_or ring 0 0) (on_small _ first_on) (ring_in L r first_on) (λ h. ((left_of _).0 h).1 first_on) in
            let j = g.few in omega arith;
        rest = λ p h. (off p (λ o. let i = on_small p o in omega arith)).0 ∙ g.rest p h;
      }

-- two lists of the same length with the same entries from n on
pub drop_same : (n : ℕ) (k l : List ℕ) → length k ≡ length l → ((p : ℕ) → n ≤ p → get_or k p 0 ≡ get_or l p 0) → drop n k ≡ drop n l
drop_same n k l e f =
    ext_get_or 0 (drop n k) (drop n l) (length-drop n k ∙ ap (λ i. i - n) e ∙ sym (length-drop n l))
    (λ i h. get_or-drop n k i 0 ∙ f (n + i) (omega arith) ∙ sym (get_or-drop n l i 0))

-- all outlines are peeled off: what the entries say then
module _ {m : Meaning} (s u : ℕ → Bool) (entries₀ entries : List ℕ) (k : ℕ) (g : Peeling m s u entries₀ entries k) (room : m.count ≤ length entries₀) where
  all_there : length (take m.count entries) ≡ m.count
  all_there = length-take-le m.count entries (let e = g.same_length in omega arith)

  same_at : (p : ℕ) → p < m.count → get_or (take m.count entries) p 0 ≡ get_or entries p 0
  same_at p h = get_or-take m.count entries p 0 h

  pub peeling_all : ((p : ℕ) → T (u p) → ⊥) → Rounds m s (take m.count entries) k
  peeling_all empty =
      record {
        all = all_there;
        held = λ p h i. subst (λ n. Peeled m s n p) (sym (same_at p h)) (g.done p i (empty p));
        out = λ p h n. same_at p h ∙ g.out p h n;
        most = λ p h. subst (λ n. n ≤ k) (sym (same_at p h)) (g.most p h);
        last = elim g.last [ inl e ↦ inl e | inr (p, h, e) ↦ inr (p, h, same_at p h ∙ e) ];
      }

  pub none_left : Marks m (of s) → m.count ≤ k → (p : ℕ) → T (u p) → ⊥
  none_left marks h p i = let j = size_in u m.count p (marks p (g.within p i)) i in let f = g.few in omega arith

-- if the ring of u is empty, u has no mark
pub ring_none : {m : Meaning} {u : ℕ → Bool} (ring : List ℕ) → length ring ≡ 0 → RingOf m u ring → (p : ℕ) → T (u p) → ⊥
ring_none [] e r p h = go r.outline p h
  where
    go : {m : Meaning} {s : ℕ → Type 0} → Outline m s [] → (p : ℕ) → s p → ⊥
    go (none h) = h
ring_none (a ∷ l) e r p h = omega arith
