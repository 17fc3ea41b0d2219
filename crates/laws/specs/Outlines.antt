-- Arcs of a set of marks, rings of marks, and which ring is the outline of a set.
-- A set of marks is given by a predicate s: s p says that p is in the set.
use Rattle.std.specs.Prelude.{◌≡◌, ℕ, ◌<◌, ◌≤◌, ◌≢◌, ◌⊎◌, ◌↔◌, List, [], ◌∷◌, ◌++◌}
use Rattle.std.specs.List.{AllByRecursion}
use Rattle.laws.specs.Systems.{Meaning, Left}

-- s is a set of marks of the system
abbrev pub Marks : Meaning → (ℕ → Type 0) → Type 0
Marks m s = (p : ℕ) → s p → p < m.count

-- the set s with x
abbrev pub adding : (ℕ → Type 0) → ℕ → ℕ → Type 0
adding s x p = s p ⊎ (p ≡ x)

-- from p to q is an arc of s: p and q are two different marks of s, and p, q, r turn left for every other mark r of s
pub record Arc (m : Meaning) (s : ℕ → Type 0) (p q : ℕ) : Type 0 where
  pub from : s p
  pub to : s q
  pub apart : p ≢ q
  pub left : (r : ℕ) → s r → r ≢ p → r ≢ q → Left m p q r

-- no mark stands twice on the list
abbrev pub Apart : List ℕ → Type 0
Apart [] = Unit {0}
Apart (a ∷ l) = AllByRecursion (λ b. b ≢ a) l × Apart l

-- on the way from a through l to b, q comes right after p
abbrev pub Step : ℕ → List ℕ → ℕ → ℕ → ℕ → Type 0
Step a [] b p q = (p ≡ a) × (q ≡ b)
Step a (c ∷ l) b p q = ((p ≡ a) × (q ≡ c)) ⊎ Step c l b p q

-- a ring is a list of marks that closes, its first mark after its last: q follows p on the ring
abbrev pub Follows : List ℕ → ℕ → ℕ → Type 0
Follows [] p q = ⊥
Follows (a ∷ l) p q = Step a l a p q

-- the ring is the hull of s: no mark stands on it twice, and its pairs, each mark with the one that follows it, are exactly the arcs of s
pub record Hull (m : Meaning) (s : ℕ → Type 0) (ring : List ℕ) : Type 0 where
  pub apart : Apart ring
  pub arcs : (p q : ℕ) → Follows ring p q ↔ Arc m s p q

-- the ring is the outline of s: the empty ring if s is empty, one mark if s is that mark alone,
-- and otherwise, with two marks or more, the hull of s
pub data Outline (m : Meaning) (s : ℕ → Type 0) : List ℕ → Type 0 where
  none : ((p : ℕ) → s p → ⊥) → Outline m s []
  one : {a : ℕ} → s a → ((p : ℕ) → s p → p ≡ a) → Outline m s (a ∷ [])
  more : {a b : ℕ} {l : List ℕ} → Hull m s (a ∷ b ∷ l) → Outline m s (a ∷ b ∷ l)

-- the ring starts at its lowest mark
abbrev pub ReadOut : List ℕ → Type 0
ReadOut [] = Unit {0}
ReadOut (a ∷ l) = AllByRecursion (λ b. a ≤ b) l

-- the second ring is the first, started at another place
abbrev pub Turned : List ℕ → List ℕ → Type 0
Turned k l = (a b : List ℕ) × (k ≡ a ++ b) × (l ≡ b ++ a)

-- x sees the arc from p to q if p, x, q turn left; if p, q, x turn left, the arc is hidden from x.
-- x takes the place of the marks strictly inside the run of arcs that it sees: started at some mark, the ring is `first`, `rest`, `last`,
-- `gone`, and x sees just the arcs from `last` through `gone` to `first`
pub record Grown (m : Meaning) (s : ℕ → Type 0) (ring : List ℕ) (x : ℕ) : Type 0 where
  pub first : ℕ
  pub rest : List ℕ
  pub last : ℕ
  pub gone : List ℕ
  pub turned : Turned ring (first ∷ rest ++ last ∷ gone)
  pub hidden : (p q : ℕ) → Step first rest last p q → Left m p q x
  pub seen : (p q : ℕ) → Step last gone first p q → Left m p x q
  pub hull : Hull m (adding s x) (first ∷ rest ++ last ∷ x ∷ [])

-- x leaves s with x: started at x, its ring is x, `first`, `rest`, `last`. The marks `arrived`, none of which was on the ring, take the place
-- of x. The arcs of s are those of s with x that are not at x, and the steps from `last` through `arrived` to `first`, each of which x sees
pub record Shrunk (m : Meaning) (s : ℕ → Type 0) (ring : List ℕ) (x : ℕ) : Type 0 where
  pub first : ℕ
  pub rest : List ℕ
  pub last : ℕ
  pub arrived : List ℕ
  pub turned : Turned ring (x ∷ first ∷ rest ++ last ∷ [])
  pub inside : AllByRecursion (λ c. AllByRecursion (λ b. b ≢ c) ring) arrived
  pub seen : (p q : ℕ) → Step last arrived first p q → Left m p x q
  pub arcs : (p q : ℕ) → Arc m s p q ↔ ((Arc m (adding s x) p q × (p ≢ x) × (q ≢ x)) ⊎ Step last arrived first p q)
  pub hull : Hull m s (first ∷ rest ++ last ∷ arrived)

-- the triangle h p q is around x
pub record Around (m : Meaning) (h p q x : ℕ) : Type 0 where
  pub hpx : Left m h p x
  pub pqx : Left m p q x
  pub qhx : Left m q h x
