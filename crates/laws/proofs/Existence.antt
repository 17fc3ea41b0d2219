-- Every finite set of marks has an outline, by one mark after the other; and it has one that starts at its lowest mark.
use Rattle.std.proofs.Common.{◌≡◌, ℕ, zero, suc, ◌<◌, ◌≤◌, ◌≢◌, ◌⊎◌, ◌↔◌, List, [], ◌∷◌, ◌++◌, length, sym, refl, ap, ◌∙◌, subst, inl, inr, ⊎_elim, append-nil, arith, length-append}
use mathlib.Core.Logic.Iff
use mathlib.Core.Logic.{Ne-symm, ⊎_swap}
use native.Mathlib.Decide.{dec_le}
use Rattle.std.specs.List.{AllByRecursion}
use Rattle.std.proofs.ByRecursion.{All-append, All-weaker}
use Rattle.laws.specs.Systems.{Meaning, Left, Lawful}
use Rattle.laws.specs.Outlines.{Marks, adding, Arc, Hull, Outline, none, one, more, ReadOut, Turned}
use Rattle.laws.proofs.Walks.{end, on, other}
use Rattle.laws.proofs.Arcs.{whole}
use Rattle.laws.proofs.Insertion.{loop, hull, from, insert, marks'}

-- the outline goes by the marks and the turns among them
module _ {m m' : Meaning} {s s' : ℕ → Type 0} (marks : (p : ℕ) → s p ↔ s' p) where
  arc_same : (turns : (p q r : ℕ) → s p → s q → s r → Left m p q r → Left m' p q r) {p q : ℕ} → Arc m s p q → Arc m' s' p q
  arc_same turns {p} {q} a =
      record {
        from = (marks p).0 a.from;
        to = (marks q).0 a.to;
        apart = a.apart;
        left = λ r h n n'. let h' = (marks r).1 h in turns p q r a.from a.to h' (a.left r h' n n');
      }

pub outline_same : {m m' : Meaning} {s s' : ℕ → Type 0} → ((p : ℕ) → s p ↔ s' p)
    → ((p q r : ℕ) → s p → s q → s r → Left m p q r ↔ Left m' p q r) → {l : List ℕ} → Outline m s l → Outline m' s' l
outline_same marks turns (none h) = none (λ p k. h p ((marks p).1 k))
outline_same marks turns (one h u) = one ((marks _).0 h) (λ p k. u p ((marks p).1 k))
outline_same marks turns (more o) =
    more (record {
      apart = o.apart;
      arcs = λ p q. (
        λ k. arc_same marks (λ p q r i j k. (turns p q r i j k).0) ((o.arcs p q).0 k),
        λ k. (o.arcs p q).1 (arc_same (λ p. ((marks p).1, (marks p).0)) (λ p q r i j k. (turns p q r ((marks p).1 i) ((marks q).1 j) ((marks r).1 k)).1) k),
      );
    })

pub outline_of : {m : Meaning} {s : ℕ → Type 0} (a : ℕ) (l : List ℕ) → Hull m s (a ∷ l) → Outline m s (a ∷ l)
outline_of a [] r = absurd (((r.arcs a a).0 (refl, refl)).apart refl)
outline_of a (b ∷ l) r = more r

module _ {m : Meaning} (L : Lawful m) where
  -- two marks
  pub two : {s : ℕ → Type 0} → Marks m s → {a x : ℕ} → s a → s x → x ≢ a → ((p : ℕ) → s p → (p ≡ a) ⊎ (p ≡ x)) → Hull m s (a ∷ x ∷ [])
  two {s} marks {a} {x} ha hx n all = whole L marks (on (arc a x ha hx (Ne-symm n) all) (end (arc x a hx ha n (λ p h. ⊎_swap (all p h))))) (n, tt)
    where
      arc : (p q : ℕ) → s p → s q → p ≢ q → ((r : ℕ) → s r → (r ≡ p) ⊎ (r ≡ q)) → Arc m s p q
      arc p q hp hq n all = record { from = hp; to = hq; apart = n; left = λ r h i j. absurd (⊎_elim i j (all r h)) }

  -- one more mark
  pub add : {s : ℕ → Type 0} → Marks m s → {x : ℕ} → x < m.count → (s x → ⊥) → {l : List ℕ} → Outline m s l → (k : List ℕ) × Outline m (adding s x) k
  add marks {x} x_in x_out (none h) = (x ∷ [], one (inr refl) (λ p. ⊎_elim (λ k. absurd (h p k)) (λ e. e)))
  add {s} marks {x} x_in x_out (one {a = a} h u) =
      (a ∷ x ∷ [], more (two (marks' m marks x_in) (inl h) (inr refl) (λ e. x_out (subst s (sym e) h)) (λ p. ⊎_elim (λ k. inl (u p k)) inr)))
  add marks x_in x_out (more {a = a} {b = b} {l = l} r) =
      elim (insert L marks x_in x_out r) [
        | inl k ↦ (a ∷ b ∷ l, more k.1)
        | inr g ↦ (_, outline_of _ _ g.hull)
      ]

  -- the marks of s below n
  abbrev below : (ℕ → Type 0) → ℕ → ℕ → Type 0
  below s n p = s p × (p < n)

  below_add : (s : ℕ → Type 0) (n : ℕ) → s n → (p : ℕ) → adding (below s n) n p ↔ below s (suc n) p
  below_add s n h p = (there, back)
    where
      there : adding (below s n) n p → below s (suc n) p
      there (inl k) = (k.0, omega arith)
      there (inr e) = (subst s (sym e) h, omega arith)

      back : below s (suc n) p → adding (below s n) n p
      back (k, lt) = elim (other p n) [ inl e ↦ inr e | inr i ↦ inl (k, omega arith) ]

  below_skip : (s : ℕ → Type 0) (n : ℕ) → (s n → ⊥) → (p : ℕ) → below s n p ↔ below s (suc n) p
  below_skip s n h p = (λ k. (k.0, omega arith), λ k. (k.0, ≢→< (λ e. h (subst s e k.0)) k.1))
    where
      ≢→< : p ≢ n → p < suc n → p < n
      ≢→< i lt = omega arith

  outline_below : {s : ℕ → Type 0} → Marks m s → ((p : ℕ) → s p ⊎ (s p → ⊥)) → (n : ℕ) → (l : List ℕ) × Outline m (below s n) l
  outline_below marks either zero = ([], none (λ p k. omega arith))
  outline_below {s} marks either (suc n) =
      let (l, o) = outline_below marks either n in
      elim (either n) [
        | inl h ↦
            let (k, o') = add (λ p i. marks p i.0) (marks n h) (λ i. omega arith) o in
            (k, outline_same (below_add s n h) (λ p q r i j k. Iff.rfl) o')
        | inr h ↦ (l, outline_same (below_skip s n h) (λ p q r i j k. Iff.rfl) o)
      ]

  pub to_hull : {s : ℕ → Type 0} {l : List ℕ} → Outline m s l → 2 ≤ length l → Hull m s l
  to_hull (none h) i = absurd (omega arith)
  to_hull (one h u) i = absurd (omega arith)
  to_hull (more r) i = r

  -- an outline started at another place is an outline
  pub outline_turned : {s : ℕ → Type 0} → Marks m s → (k l : List ℕ) → Turned k l → Outline m s k → Outline m s l
  outline_turned {s} marks k l ([], b, e, e') o = subst (Outline m s) (e ∙ sym (append-nil b) ∙ sym e') o
  outline_turned {s} marks k l (a ∷ a', [], e, e') o = subst (Outline m s) (e ∙ append-nil (a ∷ a') ∙ sym e') o
  outline_turned {s} marks k l (a ∷ a', b ∷ b', e, e') o =
      let r = to_hull (subst (Outline m s) e o) (omega (arith, length-append a' (b ∷ b'))) in
      subst (Outline m s) (sym e') (outline_of _ _ (hull L marks (from L marks a' b' (loop r))))

  -- the lowest mark of a list
  lowest : (a : ℕ) (l : List ℕ) → (k : List ℕ) × (b : ℕ) × (j : List ℕ) × (a ∷ l ≡ k ++ b ∷ j) × AllByRecursion (λ c. b ≤ c) k × AllByRecursion (λ c. b ≤ c) j
  lowest a [] = ([], a, [], refl, tt, tt)
  lowest a (c ∷ l) =
      let (k, b, j, e, below, behind) = lowest c l in
      elim (dec_le a b) [
        | yes i ↦ (
          [],
          a,
          c ∷ l,
          refl,
          tt,
          subst (AllByRecursion (λ x. a ≤ x)) (sym e) (All-append _ k (b ∷ j) (All-weaker _ _ (λ x h. omega arith) k below) (i, All-weaker _ _ (λ x h. omega arith) j behind)),
        )
        | no i ↦ (a ∷ k, b, j, ap (λ x. a ∷ x) e, (omega arith, below), behind)
      ]

  -- every outline can be started at its lowest mark
  pub started : {s : ℕ → Type 0} → Marks m s → {l : List ℕ} → Outline m s l → (k : List ℕ) × Outline m s k × ReadOut k
  started marks (none h) = ([], none h, tt)
  started marks (one h u) = (_, one h u, tt)
  started {s} marks (more {a = a} {b = b} {l = l} r) = go (lowest a (b ∷ l))
    where
      go : ((k : List ℕ) × (c : ℕ) × (j : List ℕ) × (a ∷ b ∷ l ≡ k ++ c ∷ j) × AllByRecursion (λ d. c ≤ d) k × AllByRecursion (λ d. c ≤ d) j) → (k : List ℕ) × Outline m s k × ReadOut k
      go ([], c, j, e, k, i) = (c ∷ j, subst (Outline m s) e (more r), i)
      go (a' ∷ k, c, j, e, i, i') =
          (c ∷ j ++ a' ∷ k, outline_turned marks _ _ (a' ∷ k, c ∷ j, e, refl) (more r), All-append _ j (a' ∷ k) i' i)

  -- every set has an outline that starts at its lowest mark
  pub outline : {s : ℕ → Type 0} → Marks m s → ((p : ℕ) → s p ⊎ (s p → ⊥)) → (l : List ℕ) × Outline m s l × ReadOut l
  outline {s} marks either =
      started marks (outline_same {s = below s m.count} (λ p. (λ k. k.0, λ k. (k, marks p k))) (λ p q r i j k. Iff.rfl) (outline_below marks either m.count).1)
