-- Two outlines of a set are one ring, started at two places; started at the lowest mark they are the same list.
use Rattle.std.proofs.Common.{◌≡◌, ℕ, ◌≢◌, List, [], ◌∷◌, sym, refl, ap, ◌∙◌, subst, ap₂, inl, inr, append-nil, arith}
use Rattle.std.specs.List.{AllByRecursion}
use Rattle.laws.specs.Systems.{Meaning, Lawful}
use Rattle.laws.specs.Outlines.{Marks, Arc, Apart, Step, Hull, Outline, none, one, more, Turned, ReadOut}
use Rattle.laws.proofs.Walks.{other, seek, same, all_cut}
use Rattle.laws.proofs.Arcs.{one_after}
use Rattle.laws.proofs.Insertion.{Loop, loop, from}

pub outline_apart : {m : Meaning} {s : ℕ → Type 0} {l : List ℕ} → Outline m s l → Apart l
outline_apart (none h) = tt
outline_apart (one h u) = (tt, tt)
outline_apart (more r) = r.apart

pub first_arc : {m : Meaning} {s : ℕ → Type 0} {a b : ℕ} {l : List ℕ} → Hull m s (a ∷ b ∷ l) → Arc m s a b
first_arc r = (r.arcs _ _).0 (inl (refl, refl))

-- a mark with a follower is on the way
pub on_way : (a : ℕ) (l : List ℕ) (b p q : ℕ) → Step a l b p q → AllByRecursion (λ c. c ≢ p) (a ∷ l) → ⊥
on_way a [] b p q k n = n.0 (sym k.0)
on_way a (c ∷ l) b p q (inl k) n = n.0 (sym k.0)
on_way a (c ∷ l) b p q (inr k) n = on_way c l b p q k n.1

module _ {m : Meaning} (L : Lawful m) {s : ℕ → Type 0} (marks : Marks m s) where
  loops : {a c : ℕ} {k l : List ℕ} → Loop m s a k → Loop m s c l → (((b : ℕ) × Step c l c a b)) → Turned (a ∷ k) (c ∷ l)
  loops {a} {c} {k} {l} o o' (b, st) =
      elim (other c a) [
        | inl e ↦
            let e' = same (one_after L) o.walk (subst (λ x. Loop m s x l) e o').walk o.away (subst (λ x. Loop m s x l) e o').away in
            ([], a ∷ k, refl, ap₂ ◌∷◌ e (sym e') ∙ sym (append-nil (a ∷ k)))
        | inr n ↦
            elim (seek a l) [
              | inl (l₁, l₂, e) ↦
                  let o'' = from L marks l₁ l₂ (subst (Loop m s c) e o') in
                  (a ∷ l₂, c ∷ l₁, ap (λ x. a ∷ x) (same (one_after L) o.walk o''.walk o.away o''.away), ap (λ x. c ∷ x) e)
              | inr ns ↦ absurd (on_way c l c a b st (n, ns))
            ]
      ]

  pub turned : {k l : List ℕ} → Outline m s k → Outline m s l → Turned k l
  turned (none h) (none h') = ([], [], refl, refl)
  turned (none h) (one h' u') = absurd (h _ h')
  turned (none h) (more r') = absurd (h _ (first_arc r').from)
  turned (one h u) (none h') = absurd (h' _ h)
  turned (one {a = a} h u) (one h' u') = ([], a ∷ [], refl, ap (λ x. x ∷ []) (u _ h'))
  turned (one h u) (more r') = let a = first_arc r' in absurd (a.apart (u _ a.from ∙ sym (u _ a.to)))
  turned (more r) (none h') = absurd (h' _ (first_arc r).from)
  turned (more r) (one h' u') = let a = first_arc r in absurd (a.apart (u' _ a.from ∙ sym (u' _ a.to)))
  turned (more r) (more r') = loops (loop r) (loop r') (_, (r'.arcs _ _).1 (first_arc r))

  same_start : (k l : List ℕ) → Turned k l → Apart k → ReadOut k → ReadOut l → k ≡ l
  same_start k l ([], b, e, e') n r r' = e ∙ sym (append-nil b) ∙ sym e'
  same_start k l (a ∷ k', [], e, e') n r r' = e ∙ append-nil (a ∷ k') ∙ sym e'
  same_start k l (a ∷ k', b ∷ l', e, e') n r r' =
      let i = (all_cut _ k' (b ∷ l') (subst ReadOut e r)).1.0 in
      let j = (all_cut _ l' (a ∷ k') (subst ReadOut e' r')).1.0 in
      absurd ((all_cut _ k' (b ∷ l') (subst Apart e n).0).1.0 (omega arith))

  pub read_out_same : {k l : List ℕ} → Outline m s k → Outline m s l → ReadOut k → ReadOut l → k ≡ l
  read_out_same {k} {l} o o' = same_start k l (turned o o') (outline_apart o)
