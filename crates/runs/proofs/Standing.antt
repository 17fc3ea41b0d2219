-- Marks on a ring and off it.
use Rattle.std.proofs.Common.{◌≡◌, ℕ, suc, Bool, T, ◌≢◌, List, [], ◌∷◌, sym, subst, inl, inr, arith}
use Rattle.std.specs.List.{AllByRecursion}
use Rattle.std.proofs.ByRecursion.{All-get_or}
use Rattle.laws.specs.Systems.{Meaning, Left, Lawful}
use Rattle.laws.specs.Outlines.{Marks, Arc, Step, Follows, Hull, Outline, none, one, more}
use Rattle.laws.specs.Theorems.{of}
use Rattle.runs.specs.Calls.{On, RingOf}
use Rattle.laws.proofs.Walks.{Walk, end, on}
use Rattle.laws.proofs.Insertion.{loop}
use Rattle.laws.proofs.Existence.{to_hull}
use Rattle.laws.proofs.Fans.{three_or_more}
use Rattle.runs.proofs.Places.{place}
use Rattle.laws.proofs.Uniqueness.{on_way, first_arc, read_out_same}

-- what holds of each mark of the list holds of a mark on it
pub on_all : (P : ℕ → Type 0) (l : List ℕ) (p : ℕ) → AllByRecursion P l → On l p → P p
on_all P l p h (i, lt, e) = subst P e (All-get_or P l i 0 lt h)

pub off_all : (l : List ℕ) (x : ℕ) → (On l x → ⊥) → AllByRecursion (λ c. c ≢ x) l
off_all [] x n = tt
off_all (a ∷ l) x n = (λ e. n (0, omega arith, e), off_all l x (λ o. n (suc o.0, omega arith, o.2)))

pub follows_on : (l : List ℕ) (p q : ℕ) → Follows l p q → On l p
follows_on [] p q f = absurd f
follows_on (a ∷ l) p q f = let (i, h, e, _) = place a l a p q f in (i, h, e)

-- a mark that follows another on the way is on it
to_way : (a : ℕ) (l : List ℕ) (b p q : ℕ) → Step a l b p q → AllByRecursion (λ c. c ≢ q) l → b ≢ q → ⊥
to_way a [] b p q k n n' = n' (sym k.1)
to_way a (c ∷ l) b p q (inl k) n n' = n.0 (sym k.1)
to_way a (c ∷ l) b p q (inr k) n n' = to_way c l b p q k n.1 n'

walk_in : {m : Meaning} {s : ℕ → Type 0} {a b : ℕ} {l : List ℕ} → Walk (Arc m s) a l b → AllByRecursion s l
walk_in (end r) = tt
walk_in (on r w) = (r.to, walk_in w)

-- the marks of an outline are marks of the set
pub outline_in : {m : Meaning} {s : ℕ → Type 0} {l : List ℕ} → Outline m s l → AllByRecursion s l
outline_in (none h) = tt
outline_in (one h u) = (h, tt)
outline_in (more r) = ((first_arc r).from, walk_in (loop r).walk)

-- a mark of the set off a hull is left of each of its arcs
pub left_of_all : {m : Meaning} {s : ℕ → Type 0} {l : List ℕ} {x : ℕ} → Hull m s l → s x → (On l x → ⊥) → (p q : ℕ) → Follows l p q → Left m p q x
left_of_all {l = []} r h n p q f = absurd f
left_of_all {l = a ∷ l} {x = x} r h n p q f =
    let ns = off_all (a ∷ l) x n in
    ((r.arcs p q).0 f).left x h
    (λ e. on_way a l a p q f (subst (λ y. AllByRecursion (λ c. c ≢ y) (a ∷ l)) e ns))
    (λ e. let i = subst (λ y. AllByRecursion (λ c. c ≢ y) (a ∷ l)) e ns in to_way a l a p q f i.1 i.0)

module _ {m : Meaning} (L : Lawful m) where
  -- with a mark of the set off it, an outline is a hull
  pub hull_beside : {s : ℕ → Type 0} {l : List ℕ} {x : ℕ} → Outline m s l → s x → (On l x → ⊥) → Hull m s l
  hull_beside {l = l} {x = x} o h n = let i = three_or_more L o h (off_all l x n) in to_hull L o (omega arith)

  module _ {s : ℕ → Bool} where
    pub ring_in : {l : List ℕ} {p : ℕ} → RingOf m s l → On l p → T (s p)
    ring_in {l = l} {p = p} r o = on_all (of s) l p (outline_in r.outline) o

    pub ring_same : Marks m (of s) → {k l : List ℕ} → RingOf m s k → RingOf m s l → k ≡ l
    ring_same marks r r' = read_out_same L marks r.outline r'.outline r.lowest r'.lowest
