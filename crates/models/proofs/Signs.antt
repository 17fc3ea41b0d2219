-- The identities of determinants, and that a system by their signs is lawful.
use Rattle.std.proofs.Common.{◌≡◌, ℕ, zero, suc, ◌+◌, ◌*◌, ◌<◌, ◌≢◌, ◌⊎◌, List, [], ◌∷◌, ℤ, pos, negsuc, ◌+ℤ◌, ◌*ℤ◌, neg_ℤ, sym, refl, ap, ◌∙◌, subst, inl, inr, ⊎_elim, mul-pos, arith, ltb→lt, lt→ltb}
use native.Mathlib.Decide.{dec_lt}
use lib.IntN.{*ℤ-zero}
use Rattle.laws.specs.Systems.{Meaning, Three, Left, Lawful}
use Rattle.models.specs.Determinants.{Row, det, Positive, by_sign, GeneralPosition}
use Rattle.models.proofs.Polynomials.{Expr, var, neg, ◌⊕◌, ◌⊝◌, ◌⊗◌, solve}

-- ---- three rows of variables, as expressions, and what the variables are worth

pub record Line : Type 0 where
  pub a : Expr
  pub b : Expr
  pub w : Expr

abbrev line : ℕ → Line
line i = record { a = var (3 * i); b = var (3 * i + 1); w = var (3 * i + 2) }

abbrev pub determinant : Line → Line → Line → Expr
determinant p q r = p.w ⊗ (q.a ⊗ r.b ⊝ r.a ⊗ q.b) ⊝ q.w ⊗ (p.a ⊗ r.b ⊝ r.a ⊗ p.b) ⊕ r.w ⊗ (p.a ⊗ q.b ⊝ q.a ⊗ p.b)

abbrev entries : List Row → ℕ → ℤ
entries [] i = pos 0
entries (p ∷ rows) zero = p.a
entries (p ∷ rows) (suc zero) = p.b
entries (p ∷ rows) (suc (suc zero)) = p.w
entries (p ∷ rows) (suc (suc (suc i))) = entries rows i

-- ---- the identities

pub det_cyclic : (p q r : Row) → det p q r ≡ det q r p
unfolding det
det_cyclic p q r =
    let x = line 0 in let y = line 1 in let z = line 2 in
    solve (entries (p ∷ q ∷ r ∷ [])) (determinant x y z) (determinant y z x) tt

pub det_swap : (p q r : Row) → det p r q ≡ neg_ℤ (det p q r)
unfolding det
det_swap p q r =
    let x = line 0 in let y = line 1 in let z = line 2 in
    solve (entries (p ∷ q ∷ r ∷ [])) (determinant x z y) (neg (determinant x y z)) tt

-- a row within three others
pub det_within : (t p q r : Row) → t.w *ℤ det p q r ≡ p.w *ℤ det t q r +ℤ q.w *ℤ det p t r +ℤ r.w *ℤ det p q t
unfolding det
det_within t p q r =
    let u = line 0 in let x = line 1 in let y = line 2 in let z = line 3 in
    solve (entries (t ∷ p ∷ q ∷ r ∷ []))
    (u.w ⊗ determinant x y z)
    (x.w ⊗ determinant u y z ⊕ y.w ⊗ determinant x u z ⊕ z.w ⊗ determinant x y u) tt

-- Grassmann, Plücker
pub det_exchange : (t s p q r : Row) → det t s q *ℤ det t p r ≡ det t s p *ℤ det t q r +ℤ det t s r *ℤ det t p q
unfolding det
det_exchange t s p q r =
    let u = line 0 in let v = line 1 in let x = line 2 in let y = line 3 in let z = line 4 in
    solve (entries (t ∷ s ∷ p ∷ q ∷ r ∷ []))
    (determinant u v y ⊗ determinant u x z)
    (determinant u v x ⊗ determinant u y z ⊕ determinant u v z ⊗ determinant u x y) tt

-- ---- signs

pub positive_sum : (x y : ℤ) → Positive x → Positive y → Positive (x +ℤ y)
positive_sum (pos m) (pos n) h k = lt→ltb 0 (m + n) (omega (arith, ltb→lt 0 m h))
positive_sum (pos m) (negsuc n) h k = absurd k
positive_sum (negsuc m) y h k = absurd h

pub positive_product : (x y : ℤ) → Positive x → Positive y → Positive (x *ℤ y)
positive_product (pos m) (pos n) h k = lt→ltb 0 (m * n) (mul-pos (ltb→lt 0 m h) (ltb→lt 0 n k))
positive_product (pos m) (negsuc n) h k = absurd k
positive_product (negsuc m) y h k = absurd h

pub not_both_positive : (x : ℤ) → Positive x → Positive (neg_ℤ x) → ⊥
not_both_positive (pos zero) h k = h
not_both_positive (pos (suc n)) h k = k
not_both_positive (negsuc n) h k = h

pub positive_factor : (x y : ℤ) → Positive x → Positive (x *ℤ y) → Positive y
positive_factor (pos zero) y h k = absurd h
positive_factor (pos (suc m)) (pos zero) h k = subst Positive (*ℤ-zero (pos (suc m))) k
positive_factor (pos (suc m)) (pos (suc n)) h k = lt→ltb 0 (suc n) (omega arith)
positive_factor (pos (suc m)) (negsuc n) h k = not_both_positive (pos (suc m * suc n)) (positive_product (pos (suc m)) (pos (suc n)) h (lt→ltb 0 (suc n) (omega arith))) k
positive_factor (negsuc m) y h k = absurd h

pub positive_or : (x : ℤ) → x ≢ pos 0 → Positive x ⊎ Positive (neg_ℤ x)
positive_or (pos zero) h = absurd (h refl)
positive_or (pos (suc n)) h = inl (lt→ltb 0 (suc n) (omega arith))
positive_or (negsuc n) h = inr (lt→ltb 0 (suc n) (omega arith))

either : {i j : ℕ} → i ≢ j → (i < j) ⊎ (j < i)
either {i} {j} d = elim (dec_lt i j) [ yes h ↦ inl h | no h ↦ inr (omega arith) ]

-- ---- no three on a line: rising triples are enough

module _ (n : ℕ) (v : ℕ → Row) (rising : (i j k : ℕ) → i < j → j < k → k < n → det (v i) (v j) (v k) ≢ pos 0) where
  turned : (p q r : ℕ) → det (v p) (v q) (v r) ≡ pos 0 → det (v q) (v r) (v p) ≡ pos 0
  turned p q r h = sym (det_cyclic (v p) (v q) (v r)) ∙ h

  swapped : (p q r : ℕ) → det (v p) (v q) (v r) ≡ pos 0 → det (v p) (v r) (v q) ≡ pos 0
  swapped p q r h = det_swap (v p) (v q) (v r) ∙ ap neg_ℤ h

  -- the smallest stands first
  least : (p q r : ℕ) → p < q → p < r → q ≢ r → q < n → r < n → det (v p) (v q) (v r) ≢ pos 0
  least p q r l m d hq hr h = ⊎_elim (λ k. rising p q r l k hr h) (λ k. rising p r q m k hq (swapped p q r h)) (either d)

  pub all_apart : {p q r : ℕ} → Three n p q r → det (v p) (v q) (v r) ≢ pos 0
  all_apart {p} {q} {r} t h =
      ⊎_elim
      (λ pq. ⊎_elim (λ pr. least p q r pq pr t.q≢r t.q_in t.r_in h) (λ rp. least r p q rp (omega arith) t.p≢q t.p_in t.q_in (turned q r p (turned p q r h))) (either (λ e. t.r≢p (sym e))))
      (λ qp. ⊎_elim (λ qr. least q r p qr qp t.r≢p t.r_in t.p_in (turned p q r h)) (λ rq. least r p q (omega arith) rq t.p≢q t.p_in t.q_in (turned q r p (turned p q r h))) (either t.q≢r))
      (either t.p≢q)

-- ---- the laws

module _ (n : ℕ) (v : ℕ → Row) (general : GeneralPosition n v) where
  abbrev m : Meaning
  m = by_sign n v

  abbrev D : ℕ → ℕ → ℕ → ℤ
  D p q r = det (v p) (v q) (v r)

  cyclic : {p q r : ℕ} → Left m p q r → Left m q r p
  cyclic {p} {q} {r} h = record { three = omega (arith, h.three); turns = subst Positive (det_cyclic (v p) (v q) (v r)) h.turns }

  antisymmetric : {p q r : ℕ} → Left m p q r → Left m p r q → ⊥
  antisymmetric {p} {q} {r} h k = not_both_positive (D p q r) h.turns (subst Positive (det_swap (v p) (v q) (v r)) k.turns)

  nondegenerate : {p q r : ℕ} → Three n p q r → Left m p q r ⊎ Left m p r q
  nondegenerate {p} {q} {r} h =
      ⊎_elim
      (λ k. inl (record { three = h; turns = k }))
      (λ k. inr (record { three = omega (arith, h); turns = subst Positive (sym (det_swap (v p) (v q) (v r))) k }))
      (positive_or (D p q r) (general.apart h))

  interior : {t p q r : ℕ} → Left m t q r → Left m p t r → Left m p q t → Left m p q r
  interior {t} {p} {q} {r} h k l = record { three = omega (arith, h.three, k.three, l.three); turns = positive_factor (v t).w (D p q r) (weight t h.three.p_in) sum }
    where
      weight : (i : ℕ) → i < n → Positive (v i).w
      weight = general.weights

      sum : Positive ((v t).w *ℤ D p q r)
      sum =
          subst Positive (sym (det_within (v t) (v p) (v q) (v r)))
          (positive_sum ((v p).w *ℤ D t q r +ℤ (v q).w *ℤ D p t r) ((v r).w *ℤ D p q t)
          (positive_sum ((v p).w *ℤ D t q r) ((v q).w *ℤ D p t r)
          (positive_product (v p).w (D t q r) (weight p k.three.p_in) h.turns)
          (positive_product (v q).w (D p t r) (weight q h.three.q_in) k.turns))
          (positive_product (v r).w (D p q t) (weight r h.three.r_in) l.turns))

  transitive : {t s p q r : ℕ} → Left m t s p → Left m t s q → Left m t s r → Left m t p q → Left m t q r → Left m t p r
  transitive {t} {s} {p} {q} {r} h₁ h₂ h₃ k l =
      record { three = omega (arith, h₁.three, h₃.three, p≢r); turns = positive_factor (D t s q) (D t p r) h₂.turns sum }
    where
      p≢r : p ≢ r
      p≢r e = antisymmetric k (subst (λ x. Left m t q x) (sym e) l)

      sum : Positive (D t s q *ℤ D t p r)
      sum =
          subst Positive (sym (det_exchange (v t) (v s) (v p) (v q) (v r)))
          (positive_sum (D t s p *ℤ D t q r) (D t s r *ℤ D t p q)
          (positive_product (D t s p) (D t q r) h₁.turns l.turns)
          (positive_product (D t s r) (D t p q) h₃.turns k.turns))

  pub lawful_by_sign : Lawful m
  lawful_by_sign = record { limit = general.limit; cyclic = cyclic; antisymmetric = antisymmetric; nondegenerate = nondegenerate; interior = interior; transitive = transitive }
