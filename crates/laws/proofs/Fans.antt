-- The fan of a hull from its first mark: a mark that is left of every arc is in just one of its triangles.
use Rattle.std.proofs.Common.{◌≡◌, ℕ, ◌≤◌, ◌≢◌, List, [], ◌∷◌, length, sym, refl, subst, inl, inr, arith}
use mathlib.Core.Logic.{Ne-symm}
use Rattle.std.specs.List.{AllByRecursion}
use Rattle.laws.specs.Systems.{Meaning, Left, Lawful}
use Rattle.laws.specs.Outlines.{Marks, Arc, Follows, Hull, Outline, none, one, more, Around}
use Rattle.laws.proofs.Turns.{cyclic², opposite}
use Rattle.laws.proofs.Walks.{steps, only}
use Rattle.laws.proofs.Arcs.{fan, one_before}
use Rattle.laws.proofs.Insertion.{loop}

module _ {m : Meaning} (L : Lawful m) {s : ℕ → Type 0} where
  -- about h, with c after it: what comes behind x stays behind x
  behind : {h c x : ℕ} → Arc m s h c → Left m h c x → (p q : ℕ) → Arc m s p q → Left m h x p → q ≢ h → Left m h x q
  behind {h} {c} a hcx p q b hxp q≢h =
      let p≢h = hxp.three.r≢p in
      let q≢c : q ≢ c = λ e. p≢h (one_before L p h c (subst (Arc m s p) e b) a) in
      let p≢c : p ≢ c = λ e. L.antisymmetric hcx (subst (Left m h _) e hxp) in
      L.transitive hcx (a.left p b.from p≢h p≢c) (a.left q b.to q≢h q≢c) hxp
      (cyclic² L (b.left h a.from (Ne-symm p≢h) (Ne-symm q≢h)))

  pub one_around : {h x : ℕ} {l : List ℕ} → Hull m s (h ∷ l) → ((p q : ℕ) → Follows (h ∷ l) p q → Left m p q x)
      → (p q p' q' : ℕ) → Follows (h ∷ l) p q → Around m h p q x → Follows (h ∷ l) p' q' → Around m h p' q' x → (p ≡ p') × (q ≡ q')
  one_around {h} {x} {l = []} r inside p q p' q' f a f' a' = absurd (a.hpx.three.p≢q (sym f.0))
  one_around {h} {x} {l = c ∷ l} r inside p q p' q' f a f' a' =
      let o = loop r in
      only h (behind ((r.arcs h c).0 (inl (refl, refl))) (inside h c (inl (refl, refl)))) (λ p i j. L.antisymmetric i j)
      o.walk o.away p q p' q' a.hpx (L.cyclic a.qhx) a'.hpx (L.cyclic a'.qhx) f f'

  pub some_around : Marks m s → {h x : ℕ} {l : List ℕ} → Hull m s (h ∷ l) → ((p q : ℕ) → Follows (h ∷ l) p q → Left m p q x)
      → (p q : ℕ) × Follows (h ∷ l) p q × Around m h p q x
  some_around marks {h} {x} {l} r inside =
      let (p, q, a, f) = fan L marks (steps h l h (λ p q k. ((r.arcs p q).0 k, inside p q k))) r.apart.0 in
      (p, q, (r.arcs p q).1 a, f)

  -- with a mark off it, an outline has three marks or more
  pub three_or_more : {x : ℕ} {l : List ℕ} → Outline m s l → s x → AllByRecursion (λ c. c ≢ x) l → 3 ≤ length l
  three_or_more (none h) k n = absurd (h _ k)
  three_or_more (one h u) k n = absurd (n.0 (sym (u _ k)))
  three_or_more (more {a = a} {b = b} {l = []} r) k n =
      let x≢a = Ne-symm n.0 in
      let x≢b = Ne-symm n.1.0 in
      absurd (opposite L
      (((r.arcs a b).0 (inl (refl, refl))).left _ k x≢a x≢b)
      (((r.arcs b a).0 (inr (refl, refl))).left _ k x≢b x≢a))
  three_or_more (more {l = c ∷ l} r) k n = omega arith
