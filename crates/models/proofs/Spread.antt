-- Laws 1, 2 and 3 of a spread, and a spread seen through a rising list.
use Rattle.std.proofs.Common.{◌≡◌, ℕ, ◌<◌, Bool, true, false, not, T, ◌≢◌, sym, refl, ap, ◌∙◌, arith}
use Prim.Native.Nat.{compare, Ordering}
use native.Mathlib.Omega.{compare-lt, compare-eq, compare-gt}
use Rattle.models.specs.Spread.{Turns, sift, spread}
use Rattle.models.specs.Catalogue.{through}

-- a comparison, with what it says
pub data Compared (a b : ℕ) : Ordering → Type 0 where
  less : a < b → Compared a b Ordering.lt
  same : a ≡ b → Compared a b Ordering.eq
  more : b < a → Compared a b Ordering.gt

pub compared : (a b : ℕ) → Compared a b (compare a b)
compared a b = go (compare a b) refl
  where
    go : (o : Ordering) → compare a b ≡ o → Compared a b o
    go Ordering.lt e = less (compare-lt a b e)
    go Ordering.eq e = same (compare-eq a b e)
    go Ordering.gt e = more (compare-gt a b e)

pub is_lt : {a b : ℕ} → a < b → compare a b ≡ Ordering.lt
is_lt {a} {b} h = go (compared a b)
  where
    go : {o : Ordering} → Compared a b o → o ≡ Ordering.lt
    go (less h') = refl
    go (same e) = absurd (omega arith)
    go (more h') = absurd (omega arith)

pub is_eq : {a b : ℕ} → a ≡ b → compare a b ≡ Ordering.eq
is_eq {a} {b} h = go (compared a b)
  where
    go : {o : Ordering} → Compared a b o → o ≡ Ordering.eq
    go (less h') = absurd (omega arith)
    go (same e) = refl
    go (more h') = absurd (omega arith)

pub is_gt : {a b : ℕ} → b < a → compare a b ≡ Ordering.gt
is_gt {a} {b} h = go (compared a b)
  where
    go : {o : Ordering} → Compared a b o → o ≡ Ordering.gt
    go (less h') = absurd (omega arith)
    go (same e) = absurd (omega arith)
    go (more h') = refl

module _ (g : Turns) where
  at : (p q r : ℕ) {a b c : Ordering} → compare p q ≡ a → compare q r ≡ b → compare p r ≡ c → spread g p q r ≡ sift a b c g p q r
  at p q r x y z i = sift (x i) (y i) (z i) g p q r

  -- three marks in rising order turn as g says, and in the five other orders as laws 1 and 2 say
  pub pqr : {p q r : ℕ} → p < q → q < r → spread g p q r ≡ g p q r
  pqr {p} {q} {r} x y = at p q r (is_lt x) (is_lt y) refl

  pub qrp : {p q r : ℕ} → p < q → q < r → spread g q r p ≡ g p q r
  qrp {p} {q} {r} x y = at q r p (is_lt y) (is_gt (omega arith)) (is_gt x)

  pub rpq : {p q r : ℕ} → p < q → q < r → spread g r p q ≡ g p q r
  rpq {p} {q} {r} x y = at r p q (is_gt (omega arith)) (is_lt x) (is_gt y)

  pub prq : {p q r : ℕ} → p < q → q < r → spread g p r q ≡ not (g p q r)
  prq {p} {q} {r} x y = at p r q (is_lt (omega arith)) (is_gt y) (is_lt x)

  pub rqp : {p q r : ℕ} → p < q → q < r → spread g r q p ≡ not (g p q r)
  rqp {p} {q} {r} x y = at r q p (is_gt y) (is_gt x) refl

  pub qpr : {p q r : ℕ} → p < q → q < r → spread g q p r ≡ not (g p q r)
  qpr {p} {q} {r} x y = at q p r (is_gt x) (is_lt (omega arith)) (is_lt y)

-- the six orders of three different marks
pub data Orders (p q r : ℕ) : Type 0 where
  o_pqr : p < q → q < r → Orders p q r
  o_prq : p < r → r < q → Orders p q r
  o_qpr : q < p → p < r → Orders p q r
  o_qrp : q < r → r < p → Orders p q r
  o_rpq : r < p → p < q → Orders p q r
  o_rqp : r < q → q < p → Orders p q r

pub orders : (p q r : ℕ) → p ≢ q → q ≢ r → r ≢ p → Orders p q r
orders p q r x y z = go (compared p q) (compared q r) (compared p r)
  where
    go : {a b c : Ordering} → Compared p q a → Compared q r b → Compared p r c → Orders p q r
    go (less u) (less v) w = o_pqr u v
    go (less u) (same v) w = absurd (y v)
    go (less u) (more v) (less w) = o_prq w v
    go (less u) (more v) (same w) = absurd (z (sym w))
    go (less u) (more v) (more w) = o_rpq w u
    go (same u) v w = absurd (x u)
    go (more u) (less v) (less w) = o_qpr u w
    go (more u) (less v) (same w) = absurd (z (sym w))
    go (more u) (less v) (more w) = o_qrp v w
    go (more u) (same v) w = absurd (y v)
    go (more u) (more v) w = o_rqp v u

not_not : (b : Bool) → not (not b) ≡ b
not_not true = refl
not_not false = refl

module _ (g : Turns) where
  pub cycled : {p q r : ℕ} → Orders p q r → spread g p q r ≡ spread g q r p
  cycled (o_pqr x y) = pqr g x y ∙ sym (qrp g x y)
  cycled (o_prq x y) = prq g x y ∙ sym (rqp g x y)
  cycled (o_qpr x y) = qpr g x y ∙ sym (prq g x y)
  cycled (o_qrp x y) = rpq g x y ∙ sym (pqr g x y)
  cycled (o_rpq x y) = qrp g x y ∙ sym (rpq g x y)
  cycled (o_rqp x y) = rqp g x y ∙ sym (qpr g x y)

  pub swapped : {p q r : ℕ} → Orders p q r → spread g p r q ≡ not (spread g p q r)
  swapped (o_pqr x y) = prq g x y ∙ ap not (sym (pqr g x y))
  swapped (o_prq x y) = pqr g x y ∙ sym (not_not _) ∙ ap not (sym (prq g x y))
  swapped (o_qpr x y) = qrp g x y ∙ sym (not_not _) ∙ ap not (sym (qpr g x y))
  swapped (o_qrp x y) = rqp g x y ∙ ap not (sym (rpq g x y))
  swapped (o_rpq x y) = qpr g x y ∙ ap not (sym (qrp g x y))
  swapped (o_rqp x y) = rpq g x y ∙ sym (not_not _) ∙ ap not (sym (rqp g x y))

  -- marks that turn left are different
  pub distinct : (p q r : ℕ) → T (spread g p q r) → Orders p q r
  distinct p q r t = go (compared p q) (compared q r) (compared p r) t
    where
      go : {a b c : Ordering} → Compared p q a → Compared q r b → Compared p r c → T (sift a b c g p q r) → Orders p q r
      go (less u) (less v) w t = o_pqr u v
      go (less u) (same v) w t = absurd t
      go (less u) (more v) (less w) t = o_prq w v
      go (less u) (more v) (same w) t = absurd t
      go (less u) (more v) (more w) t = o_rpq w u
      go (same u) v w t = absurd t
      go (more u) (less v) (less w) t = o_qpr u w
      go (more u) (less v) (same w) t = absurd t
      go (more u) (less v) (more w) t = o_qrp v w
      go (more u) (same v) w t = absurd t
      go (more u) (more v) w t = o_rqp v u

-- f rises below n
abbrev pub Rises : ℕ → (ℕ → ℕ) → Type 0
Rises n f = (i j : ℕ) → i < j → j < n → f i < f j

natural : (f : ℕ → ℕ) (g : Turns) (a b c : Ordering) (i j k : ℕ) → sift a b c g (f i) (f j) (f k) ≡ sift a b c (through f g) i j k
natural f g Ordering.lt Ordering.lt o i j k = refl
natural f g Ordering.lt Ordering.eq o i j k = refl
natural f g Ordering.lt Ordering.gt Ordering.lt i j k = refl
natural f g Ordering.lt Ordering.gt Ordering.eq i j k = refl
natural f g Ordering.lt Ordering.gt Ordering.gt i j k = refl
natural f g Ordering.eq o o' i j k = refl
natural f g Ordering.gt Ordering.lt Ordering.lt i j k = refl
natural f g Ordering.gt Ordering.lt Ordering.eq i j k = refl
natural f g Ordering.gt Ordering.lt Ordering.gt i j k = refl
natural f g Ordering.gt Ordering.eq o i j k = refl
natural f g Ordering.gt Ordering.gt o i j k = refl

module _ (n : ℕ) (f : ℕ → ℕ) (rises : Rises n f) where
  keeps_order : (i j : ℕ) → i < n → j < n → compare (f i) (f j) ≡ compare i j
  keeps_order i j hi hj = go (compared i j)
    where
      go : {o : Ordering} → Compared i j o → compare (f i) (f j) ≡ o
      go (less h) = is_lt (rises i j h hj)
      go (same e) = is_eq (ap f e)
      go (more h) = is_gt (rises j i h hi)

  -- what the spread says of the values of a rising f, it says of the places
  pub spread_through : (g : Turns) {i j k : ℕ} → i < n → j < n → k < n → spread g (f i) (f j) (f k) ≡ spread (through f g) i j k
  spread_through g {i} {j} {k} x y z =
      at g (f i) (f j) (f k) (keeps_order i j x y) (keeps_order j k y z) (keeps_order i k x z) ∙ natural f g (compare i j) (compare j k) (compare i k) i j k

-- spreads of turns that agree on rising threes below n agree
abbrev pub Agree : ℕ → Turns → Turns → Type 0
Agree n g h = (i j k : ℕ) → i < j → j < k → k < n → g i j k ≡ h i j k

module _ (n : ℕ) (g h : Turns) (agree : Agree n g h) where
  pub spread_agree : {p q r : ℕ} → p < n → q < n → r < n → spread g p q r ≡ spread h p q r
  spread_agree {p} {q} {r} a b c = go (compared p q) (compared q r) (compared p r)
    where
      go : {a b c : Ordering} → Compared p q a → Compared q r b → Compared p r c → sift a b c g p q r ≡ sift a b c h p q r
      go (less u) (less v) w = agree p q r u v c
      go (less u) (same v) w = refl
      go (less u) (more v) (less w) = ap not (agree p r q w v b)
      go (less u) (more v) (same w) = refl
      go (less u) (more v) (more w) = agree r p q w u b
      go (same u) v w = refl
      go (more u) (less v) (less w) = ap not (agree q p r u w c)
      go (more u) (less v) (same w) = refl
      go (more u) (less v) (more w) = agree q r p v w a
      go (more u) (same v) w = refl
      go (more u) (more v) w = ap not (agree r q p v u a)
