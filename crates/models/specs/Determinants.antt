-- Rows of three integers, their determinants, and the system that goes by the determinants' signs.
use Rattle.std.specs.Prelude.{ℕ, ◌<◌, ◌≤◌, Bool, T, ◌≢◌, ℤ, pos, ◌+ℤ◌, ◌-ℤ◌, ◌*ℤ◌, int_lt}
use Rattle.laws.specs.Systems.{Meaning, Three, Lawful}

-- a row (a, b, w)
pub record Row : Type 0 where
  pub a : ℤ
  pub b : ℤ
  pub w : ℤ

-- the determinant of the rows p, q, r, here numbered 1, 2, 3: w1(a2b3 − a3b2) − w2(a1b3 − a3b1) + w3(a1b2 − a2b1)
unfoldable pub det : Row → Row → Row → ℤ
det p q r =
    p.w *ℤ (q.a *ℤ r.b -ℤ r.a *ℤ q.b) -ℤ q.w *ℤ (p.a *ℤ r.b -ℤ r.a *ℤ p.b) +ℤ r.w *ℤ (p.a *ℤ q.b -ℤ q.a *ℤ p.b)

-- whether z is above 0
abbrev pub positive : ℤ → Bool
positive z = int_lt (pos 0) z

-- z is above 0
abbrev pub Positive : ℤ → Type 0
Positive z = T (positive z)

-- the system of the first n of the rows v: three of them turn left where their determinant is above 0
abbrev pub by_sign : ℕ → (ℕ → Row) → Meaning
by_sign n v = record { count = n; left = λ p q r. positive (det (v p) (v q) (v r)) }

-- general position: at most 128 rows, each with w above 0, and no three different ones with determinant 0
pub record GeneralPosition (n : ℕ) (v : ℕ → Row) : Type 0 where
  pub limit : n ≤ 128
  pub weights : (i : ℕ) → i < n → Positive (v i).w
  pub apart : {p q r : ℕ} → Three n p q r → det (v p) (v q) (v r) ≢ pos 0

-- rows in general position keep the five laws
abbrev pub SignsKeepTheLaws : Type 0
SignsKeepTheLaws = (n : ℕ) (v : ℕ → Row) → GeneralPosition n v → Lawful (by_sign n v)
