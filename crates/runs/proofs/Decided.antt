-- What the answers are made of is decided by the marks that are in.
use Rattle.std.proofs.Common.{◌≡◌, ℕ, suc, ◌<◌, ◌≤◌, Bool, true, false, T, ◌↔◌, List, get_or, sym, refl, ap, ◌∙◌, subst, inl, inr, arith, ext_get_or}
use mathlib.Core.Path.{fun_ext}
use Rattle.laws.specs.Systems.{Meaning, Lawful}
use Rattle.laws.specs.Outlines.{Marks, Follows, Outline, none, one, more}
use Rattle.laws.specs.Theorems.{of}
use Rattle.runs.specs.Calls.{Side, edge, inside, On, RingOf, OneMore, Lacking, none as all_there, there, gone, Stands, Fan, fan, Peeled, outer, inner, Rounds}
use Rattle.laws.proofs.Theorems.{tested}
use Rattle.laws.proofs.Walks.{other}
use Rattle.laws.proofs.Arcs.{one_after, one_before}
use Rattle.laws.proofs.Fans.{one_around}
use Rattle.runs.proofs.Standing.{left_of_all, hull_beside, ring_in, ring_same}

-- two tests that say the same are the same
pub test_same : (a b : Bool) → (T a → T b) → (T b → T a) → a ≡ b
test_same true true f g = refl
test_same true false f g = absurd (f tt)
test_same false true f g = absurd (g tt)
test_same false false f g = refl

pub set_same : {s t : ℕ → Bool} → ((p : ℕ) → T (s p) ↔ T (t p)) → s ≡ t
set_same {s} {t} f = fun_ext (λ p. test_same (s p) (t p) (f p).0 (f p).1)

-- s with x is one set, and s without x is one set
pub more_same : {s t t' : ℕ → Bool} {x : ℕ} → OneMore s x t → OneMore s x t' → t ≡ t'
more_same {t = t} {t' = t'} {x = x} h h' =
    fun_ext (λ p.
    elim (other p x) [
      | inl e ↦ test_same (t p) (t' p) (λ _. subst (of t') (sym e) h'.new) (λ _. subst (of t) (sym e) h.new)
      | inr n ↦ sym (h.others p n) ∙ h'.others p n
    ])

pub less_same : {s t t' : ℕ → Bool} {x : ℕ} → OneMore t x s → OneMore t' x s → t ≡ t'
less_same {t = t} {t' = t'} {x = x} h h' =
    fun_ext (λ p.
    elim (other p x) [
      | inl e ↦ test_same (t p) (t' p) (λ k. absurd (h.was (subst (of t) e k))) (λ k. absurd (h'.was (subst (of t') e k)))
      | inr n ↦ h.others p n ∙ sym (h'.others p n)
    ])

pub more_marks : (m : Meaning) {s t : ℕ → Bool} {x : ℕ} → OneMore s x t → x < m.count → Marks m (of s) → Marks m (of t)
more_marks m {x = x} h lt marks p k =
    elim (other p x) [ inl e ↦ subst (λ y. y < m.count) (sym e) lt | inr n ↦ marks p (subst T (sym (h.others p n)) k) ]

pub less_marks : (m : Meaning) {s t : ℕ → Bool} {x : ℕ} → OneMore t x s → Marks m (of s) → Marks m (of t)
less_marks m {t = t} {x = x} h marks p k =
    elim (other p x) [ inl e ↦ absurd (h.was (subst (of t) e k)) | inr n ↦ marks p (subst T (h.others p n) k) ]

pub lacking_same : {l k : List ℕ} {n n' : ℕ} → Lacking l k n → Lacking l k n' → n ≡ n'
lacking_same all_there all_there = refl
lacking_same (there o h) (there o' h') = lacking_same h h'
lacking_same (there o h) (gone o' h') = absurd (o' o)
lacking_same (gone o h) (there o' h') = absurd (o o')
lacking_same (gone o h) (gone o' h') = ap suc (lacking_same h h')

pub side_same : (l : List ℕ) (x : ℕ) (a b : Side) → Stands l x a → Stands l x b → a ≡ b
side_same l x edge edge h k = refl
side_same l x edge inside h k = absurd (k h)
side_same l x inside edge h k = absurd (h k)
side_same l x inside inside h k = refl

pub peeled_in : {m : Meaning} (L : Lawful m) {s : ℕ → Bool} {k p : ℕ} → Peeled m s k p → T (s p)
peeled_in L (outer r o) = ring_in L r o
peeled_in L (inner {p = p} r i h) = ((i p).0 (peeled_in L h)).0

module _ {m : Meaning} (L : Lawful m) where
  -- the neighbours on the ring
  pub before_same : {s : ℕ → Bool} {l : List ℕ} → RingOf m s l → (a b x : ℕ) → Follows l a x → Follows l b x → a ≡ b
  before_same r = go r.outline
    where
      go : {s : ℕ → Type 0} {l : List ℕ} → Outline m s l → (a b x : ℕ) → Follows l a x → Follows l b x → a ≡ b
      go (none h) a b x f g = absurd f
      go (one h u) a b x f g = f.0 ∙ sym g.0
      go (more o) a b x f g = one_before L a b x ((o.arcs a x).0 f) ((o.arcs b x).0 g)

  pub after_same : {s : ℕ → Bool} {l : List ℕ} → RingOf m s l → (x a b : ℕ) → Follows l x a → Follows l x b → a ≡ b
  after_same r = go r.outline
    where
      go : {s : ℕ → Type 0} {l : List ℕ} → Outline m s l → (x a b : ℕ) → Follows l x a → Follows l x b → a ≡ b
      go (none h) x a b f g = absurd f
      go (one h u) x a b f g = f.1 ∙ sym g.1
      go (more o) x a b f g = one_after L x a b ((o.arcs x a).0 f) ((o.arcs x b).0 g)

  pub fan_same : {s : ℕ → Bool} {l : List ℕ} {x a b a' b' : ℕ} → RingOf m s l → T (s x) → (On l x → ⊥) → Fan m x a b l → Fan m x a' b' l → (a ≡ a') × (b ≡ b')
  fan_same r h n (fan f i j ar) (fan f' i' j' ar') =
      let o = hull_beside L r.outline h n in
      one_around L o (left_of_all o h n) _ _ _ _ f ar f' ar'

  -- a mark is on one outline of those that are peeled off
  pub peeled_same : {s : ℕ → Bool} {k k' p : ℕ} → Marks m (of s) → Peeled m s k p → Peeled m s k' p → k ≡ k'
  peeled_same marks (outer r o) (outer r' o') = refl
  peeled_same marks (outer {p = p} r o) (inner r' i h) = absurd (((i p).0 (peeled_in L h)).1 (subst (λ l. On l p) (ring_same L marks r r') o))
  peeled_same marks (inner {p = p} r i h) (outer r' o) = absurd (((i p).0 (peeled_in L h)).1 (subst (λ l. On l p) (ring_same L marks r' r) o))
  peeled_same {s = s} marks (inner {t = t} {ring = ring} r i h) (inner {t = t'} {k = k'} {p = p} {ring = ring'} r' i' h') =
      let e = ring_same L marks r r' in
      let i'' = subst (λ l. (q : ℕ) → T (t' q) ↔ (T (s q) × (On l q → ⊥))) (sym e) i' in
      let e' = set_same {s = t'} {t = t} (λ q. (λ k. (i q).1 ((i'' q).0 k), λ k. (i'' q).1 ((i q).0 k))) in
      ap suc (peeled_same (λ q k. marks q ((i q).0 k).0) h (subst (λ u. Peeled m u k' p) e' h'))

  -- the entries, and how many rounds there are
  pub entries_same : {s : ℕ → Bool} {k l : List ℕ} {n n' : ℕ} → Marks m (of s) → Rounds m s k n → Rounds m s l n' → k ≡ l
  entries_same {s = s} {k = k} {l = l} marks r r' =
      ext_get_or 0 k l (r.all ∙ sym r'.all) (λ p lt. one_entry p (subst (λ y. p < y) r.all lt))
    where
      one_entry : (p : ℕ) → p < m.count → get_or k p 0 ≡ get_or l p 0
      one_entry p lt =
          elim (tested (s p)) [
            | inl h ↦ peeled_same marks (r.held p lt h) (r'.held p lt h)
            | inr h ↦ r.out p lt h ∙ sym (r'.out p lt h)
          ]

at_most : {m : Meaning} {s : ℕ → Bool} {k l : List ℕ} {n n' : ℕ} → k ≡ l → Rounds m s k n → Rounds m s l n' → n ≤ n'
at_most e r r' =
    elim r.last [
      | inl i ↦ omega arith
      | inr (p, lt, i) ↦ let j = r'.most p lt in let d = ap (λ y. get_or y p 0) e in omega arith
    ]

pub number_same : {m : Meaning} {s : ℕ → Bool} {k l : List ℕ} {n n' : ℕ} → k ≡ l → Rounds m s k n → Rounds m s l n' → n ≡ n'
number_same e r r' = let i = at_most e r r' in let j = at_most (sym e) r' r in omega arith
