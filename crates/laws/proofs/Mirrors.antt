-- The mirrored system: its laws, and its outlines, which run the other way round.
use Rattle.std.proofs.Common.{ℕ, List, [], ◌∷◌, reverse, sym, refl, subst, inl, inr}
use mathlib.Core.List.{reverse-cons}
use mathlib.Core.Logic.{Ne-symm}
use Rattle.std.specs.List.{AllByRecursion}
use Rattle.std.proofs.ByRecursion.{All-append}
use Rattle.laws.specs.Systems.{Meaning, Left, Right, Lawful}
use Rattle.laws.specs.Outlines.{Marks, Arc, Hull, Outline, none, one, more}
use Rattle.laws.specs.Layers.{mirrored, reversed}
use Rattle.laws.proofs.Turns.{cyclic², swapped, right_left, left_right, transitive'}
use Rattle.laws.proofs.Walks.{Walk, end, on, join, walk_map}
use Rattle.laws.proofs.Arcs.{whole}
use Rattle.laws.proofs.Insertion.{loop}
use Rattle.laws.proofs.Existence.{outline_of, outline_turned}

-- pqr turns left in the mirror if prq does, and the other way round
pub in_mirror : (m : Meaning) {p q r : ℕ} → Left m p r q → Left (mirrored m) p q r
in_mirror m h = record { three = swapped h.three; turns = h.turns }

pub from_mirror : (m : Meaning) {p q r : ℕ} → Left (mirrored m) p q r → Left m p r q
from_mirror m h = in_mirror (mirrored m) h

pub mirror_lawful : {m : Meaning} → Lawful m → Lawful (mirrored m)
mirror_lawful {m} L =
    record {
      limit = L.limit;
      cyclic = λ h. in_mirror m (cyclic² L (from_mirror m h));
      antisymmetric = λ h k. L.antisymmetric (from_mirror m h) (from_mirror m k);
      nondegenerate = λ t. elim (L.nondegenerate (swapped t)) [ inl h ↦ inl (in_mirror m h) | inr h ↦ inr (in_mirror m h) ];
      interior = λ h i j. in_mirror m (L.interior (from_mirror m h) (from_mirror m j) (from_mirror m i));
      transitive = λ a b c d e.
          in_mirror m
          (transitive' L
          (cyclic² L (from_mirror m c))
          (cyclic² L (from_mirror m b))
          (cyclic² L (from_mirror m a))
          (from_mirror m e)
          (from_mirror m d));
    }

-- left turns right in the mirror, and right left
pub left_in_mirror : {m : Meaning} → Lawful m → {p q r : ℕ} → Left m p q r → Right (mirrored m) p q r
left_in_mirror {m} L h = left_right (mirror_lawful L) (in_mirror m h)

pub right_in_mirror : {m : Meaning} → Lawful m → {p q r : ℕ} → Right m p q r → Left (mirrored m) p q r
right_in_mirror {m} L h = in_mirror m (right_left L h)

reverse_all : (P : ℕ → Type 0) (l : List ℕ) → AllByRecursion P l → AllByRecursion P (reverse l)
reverse_all P [] h = tt
reverse_all P (a ∷ l) h = subst (AllByRecursion P) (sym (reverse-cons a l)) (All-append P (reverse l) (a ∷ []) (reverse_all P l h.1) (h.0, tt))

reverse_walk : {R : ℕ → ℕ → Type 0} {a b : ℕ} {l : List ℕ} → Walk R a l b → Walk (λ p q. R q p) b (reverse l) a
reverse_walk (end r) = end r
reverse_walk {R} {a} {b} (on {c = c} {l = l} r w) =
    subst (λ k. Walk (λ p q. R q p) b k a) (sym (reverse-cons c l)) (join (reverse_walk w) (end r))

module _ {m : Meaning} (L : Lawful m) {s : ℕ → Type 0} where
  mirror_arc : (p q : ℕ) → Arc m s q p → Arc (mirrored m) s p q
  mirror_arc p q a =
      record {
        from = a.to;
        to = a.from;
        apart = Ne-symm a.apart;
        left = λ r h n n'. in_mirror m (L.cyclic (a.left r h n' n));
      }

  pub mirror_hull : Marks m s → {h : ℕ} {l : List ℕ} → Hull m s (h ∷ l) → Hull (mirrored m) s (h ∷ reverse l)
  mirror_hull marks {l = l} r =
      let o = loop r in
      whole (mirror_lawful L) marks (walk_map mirror_arc (reverse_walk o.walk)) (reverse_all _ l o.away)

  -- in the mirror the outline runs the other way round
  pub mirror_outline : Marks m s → {l : List ℕ} → Outline m s l → Outline (mirrored m) s (reversed l)
  mirror_outline marks (none h) = none h
  mirror_outline marks (one h u) = one h u
  mirror_outline marks (more r) = outline_of _ _ (mirror_hull marks r)

  -- the same, as the ring reversed whole
  pub mirror_reverse : Marks m s → {l : List ℕ} → Outline m s l → Outline (mirrored m) s (reverse l)
  mirror_reverse marks {l = []} o = mirror_outline marks o
  mirror_reverse marks {l = a ∷ l} o =
      outline_turned (mirror_lawful L) marks (a ∷ reverse l) (reverse (a ∷ l)) (a ∷ [], reverse l, refl, reverse-cons a l) (mirror_outline marks o)
