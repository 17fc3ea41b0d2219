-- What a CC system means, and the five laws that Knuth asks of it (Axioms and Hulls, LNCS 606).
-- A mark is a whole number from 0.
use Rattle.std.specs.Prelude.{◌≡◌, ℕ, ◌<◌, ◌≤◌, Bool, T, ◌≢◌, ◌⊎◌, ◌↔◌}

-- how many marks there are, and which threes of them turn left; only different marks below the count are ever looked up
pub record Meaning : Type 0 where
  pub count : ℕ
  pub left : ℕ → ℕ → ℕ → Bool

-- three different marks below n
pub record Three (n p q r : ℕ) : Type 0 where
  pub p_in : p < n
  pub q_in : q < n
  pub r_in : r < n
  pub p≢q : p ≢ q
  pub q≢r : q ≢ r
  pub r≢p : r ≢ p

-- p, q, r are three different marks of the system and turn left
pub record Left (m : Meaning) (p q r : ℕ) : Type 0 where
  pub three : Three m.count p q r
  pub turns : T (m.left p q r)

-- p, q, r are three different marks of the system and do not turn left
pub record Right (m : Meaning) (p q r : ℕ) : Type 0 where
  pub three : Three m.count p q r
  pub turns : T (m.left p q r) → ⊥

-- two meanings of one system: the same count, and the same turns of its marks
pub record Same (m m' : Meaning) : Type 0 where
  pub count : m.count ≡ m'.count
  pub turns : (p q r : ℕ) → Left m p q r ↔ Left m' p q r

-- a meaning is lawful if its count is at most 128 and laws 1 to 5 hold:
-- cyclic symmetry, antisymmetry, nondegeneracy, interiority, transitivity
pub record Lawful (m : Meaning) : Type 0 where
  pub limit : m.count ≤ 128
  pub cyclic : {p q r : ℕ} → Left m p q r → Left m q r p
  pub antisymmetric : {p q r : ℕ} → Left m p q r → Left m p r q → ⊥
  pub nondegenerate : {p q r : ℕ} → Three m.count p q r → Left m p q r ⊎ Left m p r q
  pub interior : {t p q r : ℕ} → Left m t q r → Left m p t r → Left m p q t → Left m p q r
  pub transitive : {t s p q r : ℕ} → Left m t s p → Left m t s q → Left m t s r → Left m t p q → Left m t q r → Left m t p r
