-- Walks along a relation: from one mark through a list of marks to another.
use Rattle.std.proofs.Common.{◌≡◌, ℕ, ◌≢◌, ◌⊎◌, List, [], ◌∷◌, ◌++◌, length, sym, refl, ap, ◌∙◌, subst, ap₂, subst₂, inl, inr, arith, length-append}
use native.Mathlib.Decide.{ℕ_discrete}
use Rattle.std.specs.List.{AllByRecursion}
use Rattle.laws.specs.Outlines.{Apart, Step}

-- each step of the way from a through l to b is one of R
pub data Walk (R : ℕ → ℕ → Type 0) : ℕ → List ℕ → ℕ → Type 0 where
  end : {a b : ℕ} → R a b → Walk R a [] b
  on : {a c b : ℕ} {l : List ℕ} → R a c → Walk R c l b → Walk R a (c ∷ l) b

-- the first mark and the last on the way through l
abbrev pub after : List ℕ → ℕ → ℕ
after [] b = b
after (c ∷ l) b = c

abbrev pub before : ℕ → List ℕ → ℕ
before a [] = a
before a (c ∷ l) = before c l

pub other : (a b : ℕ) → (a ≡ b) ⊎ (a ≢ b)
other a b = elim (ℕ_discrete a b) [ yes e ↦ inl e | no n ↦ inr n ]

-- the place of c in l, if it is there
pub seek : (c : ℕ) (l : List ℕ) → ((l₁ l₂ : List ℕ) × (l ≡ l₁ ++ c ∷ l₂)) ⊎ AllByRecursion (λ b. b ≢ c) l
seek c [] = inr tt
seek c (b ∷ l) =
    elim (other b c) [
      | inl e ↦ inl ([], l, ap (λ x. x ∷ l) e)
      | inr n ↦ elim (seek c l) [ inl (l₁, l₂, e) ↦ inl (b ∷ l₁, l₂, ap (λ x. b ∷ x) e) | inr ns ↦ inr (n, ns) ]
    ]

pub all_cut : (P : ℕ → Type 0) (l k : List ℕ) → AllByRecursion P (l ++ k) → AllByRecursion P l × AllByRecursion P k
all_cut P [] k h = (tt, h)
all_cut P (a ∷ l) k h = let i = all_cut P l k h.1 in ((h.0, i.0), i.1)

-- what stands before c and behind it is not c
pub apart_mid : (l : List ℕ) (c : ℕ) (k : List ℕ) → Apart (l ++ c ∷ k) → AllByRecursion (λ b. b ≢ c) l × AllByRecursion (λ b. b ≢ c) k
apart_mid [] c k h = (tt, h.0)
apart_mid (a ∷ l) c k h =
    let i = apart_mid l c k h.1 in
    ((λ e. (all_cut (λ b. b ≢ a) l (c ∷ k) h.0).1.0 (sym e), i.0), i.1)

pub walk_map : {R S : ℕ → ℕ → Type 0} {a b : ℕ} {l : List ℕ} → ((p q : ℕ) → R p q → S p q) → Walk R a l b → Walk S a l b
walk_map f (end r) = end (f _ _ r)
walk_map f (on r w) = on (f _ _ r) (walk_map f w)

-- what holds of each mark of a walk holds at both ends of each step
pub walk_all : {R : ℕ → ℕ → Type 0} {P : ℕ → Type 0} {a b : ℕ} {l : List ℕ} → Walk R a l b → AllByRecursion P (a ∷ l) → P b → Walk (λ p q. R p q × P p × P q) a l b
walk_all (end r) h k = end (r, h.0, k)
walk_all (on r w) h k = on (r, h.0, h.1.0) (walk_all w h.1 k)

module _ {R : ℕ → ℕ → Type 0} where
  pub first : {a b : ℕ} {l : List ℕ} → Walk R a l b → R a (after l b)
  first (end r) = r
  first (on r w) = r

  pub last : {a b : ℕ} {l : List ℕ} → Walk R a l b → R (before a l) b
  last (end r) = r
  last (on r w) = last w

  pub join : {a c b : ℕ} {l k : List ℕ} → Walk R a l c → Walk R c k b → Walk R a (l ++ c ∷ k) b
  join (end r) v = on r v
  join (on r w) v = on r (join w v)

  pub cut : (l : List ℕ) {a c b : ℕ} {k : List ℕ} → Walk R a (l ++ c ∷ k) b → Walk R a l c × Walk R c k b
  cut [] (on r w) = (end r, w)
  cut (d ∷ l) (on r w) = (on r (cut l w).0, (cut l w).1)

  pub step : {a b : ℕ} {l : List ℕ} → Walk R a l b → (p q : ℕ) → Step a l b p q → R p q
  step (end r) p q s = subst₂ R (sym s.0) (sym s.1) r
  step (on r w) p q (inl s) = subst₂ R (sym s.0) (sym s.1) r
  step (on r w) p q (inr s) = step w p q s

  pub steps : (a : ℕ) (l : List ℕ) (b : ℕ) → ((p q : ℕ) → Step a l b p q → R p q) → Walk R a l b
  steps a [] b f = end (f a b (refl, refl))
  steps a (c ∷ l) b f = on (f a c (inl (refl, refl))) (steps c l b (λ p q s. f p q (inr s)))

  -- a walk out of A: its last step starts in A, or some step leads from A to B
  pub leave : {A B : ℕ → Type 0} {a b : ℕ} {l : List ℕ} → ((p q : ℕ) → R p q → q ≢ b → A q ⊎ B q) → AllByRecursion (λ c. c ≢ b) l → A a → Walk R a l b
      → ((p : ℕ) × A p × R p b) ⊎ ((p q : ℕ) × A p × B q × R p q)
  leave {a = a} f n h (end r) = inl (a, h, r)
  leave {a = a} f n h (on {c = c} r w) =
      elim (f a c r n.0) [
        | inl k ↦ leave f n.1 k w
        | inr k ↦ inr (a, c, h, k, r)
      ]

  -- the mark after p on the way, if p is on it
  pub found : {a b : ℕ} {l : List ℕ} (p : ℕ) → Walk R a l b → ((q : ℕ) × Step a l b p q × R p q) ⊎ AllByRecursion (λ c. c ≢ p) (a ∷ l)
  found {a} {b} p (end r) = elim (other a p) [ inl e ↦ inl (b, (sym e, refl), subst (λ x. R x b) e r) | inr n ↦ inr (n, tt) ]
  found {a} {b} p (on {c = c} r w) =
      elim (other a p) [
        | inl e ↦ inl (c, inl (sym e, refl), subst (λ x. R x c) e r)
        | inr n ↦ elim (found p w) [ inl (q, s, r') ↦ inl (q, inr s, r') | inr ns ↦ inr (n, ns) ]
      ]

  module _ (one : (p q q' : ℕ) → R p q → R p q' → q ≡ q') where
    -- from a, each step is decided: two walks to the first b are the same
    pub same : {a b : ℕ} {l k : List ℕ} → Walk R a l b → Walk R a k b → AllByRecursion (λ c. c ≢ b) l → AllByRecursion (λ c. c ≢ b) k → l ≡ k
    same (end r) (end r') n n' = refl
    same (end r) (on r' w') n n' = absurd (n'.0 (one _ _ _ r' r))
    same (on r w) (end r') n n' = absurd (n.0 (one _ _ _ r r'))
    same {b = b} (on {c = c} r w) (on {c = c'} {l = k} r' w') n n' =
        let e = one _ c' c r' r in
        ap₂ ◌∷◌ (sym e) (same w (subst (λ x. Walk R x k b) e w') n.1 n'.1)

    -- a walk to the first b goes through no mark twice
    once : {c b : ℕ} {l : List ℕ} → Walk R c l b → AllByRecursion (λ d. d ≢ b) l → (l₁ l₂ : List ℕ) → l ≡ l₁ ++ c ∷ l₂ → ⊥
    once {c} {b} {l} w n l₁ l₂ e =
        let v = (cut l₁ (subst (λ x. Walk R c x b) e w)).1 in
        let k = same w v n (all_cut (λ d. d ≢ b) l₁ (c ∷ l₂) (subst (λ x. AllByRecursion (λ d. d ≢ b) x) e n)).1.1 in
        omega (arith, ap length k, ap length e, length-append l₁ (c ∷ l₂))

    pub apart : {a b : ℕ} {l : List ℕ} → Walk R a l b → AllByRecursion (λ c. c ≢ b) l → Apart l
    apart (end r) n = tt
    apart (on {c = c} {l = l} r w) n =
        (elim (seek c l) [ inl (l₁, l₂, e) ↦ absurd (once w n.1 l₁ l₂ e) | inr ns ↦ ns ], apart w n.1)

-- the longest run of X at the start of a walk of X and Y: all of it, none, or up to some mark t
pub data Run (X Y R : ℕ → ℕ → Type 0) (b : ℕ) : ℕ → List ℕ → Type 0 where
  all : {a : ℕ} {l : List ℕ} → Walk X a l b → Run X Y R b a l
  none : {a : ℕ} {l : List ℕ} → Y a (after l b) → Run X Y R b a l
  some : {a t : ℕ} {k l : List ℕ} → Walk X a k t → Y t (after l b) → Walk R t l b → Run X Y R b a (k ++ t ∷ l)

module _ {X Y R : ℕ → ℕ → Type 0} (either : (p q : ℕ) → R p q → X p q ⊎ Y p q) where
  longer : {a c b : ℕ} {l : List ℕ} → X a c → Walk R c l b → Run X Y R b c l → Run X Y R b a (c ∷ l)
  longer x w (all u) = all (on x u)
  longer x w (none y) = some (end x) y w
  longer x w (some u y v) = some (on x u) y v

  pub run : {a b : ℕ} {l : List ℕ} → Walk R a l b → Run X Y R b a l
  run (end r) = elim (either _ _ r) [ inl x ↦ all (end x) | inr y ↦ none y ]
  run (on r w) = elim (either _ _ r) [ inl x ↦ longer x w (run w) | inr y ↦ none y ]

  -- a walk that starts with X stays in X, if no mark of l changes to Y
  pub stays : {a b : ℕ} {l : List ℕ} {P : ℕ → Type 0} → ((u c v : ℕ) → P c → X u c → Y c v → ⊥) → AllByRecursion P l → X a (after l b) → Walk R a l b → Walk X a l b
  stays never ps x (end r) = end x
  stays never ps x (on r w) =
      elim (either _ _ (first w)) [ inl x' ↦ on x (stays never ps.1 x' w) | inr y ↦ absurd (never _ _ _ ps.0 x y) ]

-- B, once reached, is not left: one step at most leads from A to B
module _ {R : ℕ → ℕ → Type 0} {A B : ℕ → Type 0} (b : ℕ) (lasts : (p q : ℕ) → R p q → B p → q ≢ b → B q) (not_both : (p : ℕ) → A p → B p → ⊥) where
  still : {a : ℕ} {l : List ℕ} → Walk R a l b → AllByRecursion (λ c. c ≢ b) l → B a → (p q : ℕ) → Step a l b p q → B p
  still (end r) n h p q s = subst B (sym s.0) h
  still (on r w) n h p q (inl s) = subst B (sym s.0) h
  still (on r w) n h p q (inr s) = still w n.1 (lasts _ _ r h n.0) p q s

  pub only : {a : ℕ} {l : List ℕ} → Walk R a l b → AllByRecursion (λ c. c ≢ b) l → (p q p' q' : ℕ) → A p → B q → A p' → B q'
      → Step a l b p q → Step a l b p' q' → (p ≡ p') × (q ≡ q')
  only (end r) n p q p' q' h k h' k' s s' = (s.0 ∙ sym s'.0, s.1 ∙ sym s'.1)
  only (on r w) n p q p' q' h k h' k' (inl s) (inl s') = (s.0 ∙ sym s'.0, s.1 ∙ sym s'.1)
  only (on r w) n p q p' q' h k h' k' (inl s) (inr s') = absurd (not_both p' h' (still w n.1 (subst B s.1 k) p' q' s'))
  only (on r w) n p q p' q' h k h' k' (inr s) (inl s') = absurd (not_both p h (still w n.1 (subst B s'.1 k') p q s))
  only (on r w) n p q p' q' h k h' k' (inr s) (inr s') = only w n.1 p q p' q' h k h' k' s s'
