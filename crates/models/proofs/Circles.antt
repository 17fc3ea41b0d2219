-- A place outside of a circle, and the determinant of three places as seen from a fourth.
use Rattle.std.proofs.Common.{◌≡◌, [], ◌∷◌, ℤ, pos, ◌+ℤ◌, ◌-ℤ◌, ◌*ℤ◌, sym, ap, ◌∙◌, subst}
use Rattle.models.specs.declared.places.Place.{Place}
use Rattle.models.specs.Determinants.{det, Positive}
use Rattle.models.specs.Places.{cross}
use Rattle.models.specs.Stars.{seen}
use Rattle.models.specs.Circles.{far, Outside, OutsideByDeterminant}
use Rattle.models.proofs.Polynomials.{Expr, var, con, ◌⊕◌, ◌⊝◌, ◌⊗◌, at, solve}
use Rattle.models.proofs.Signs.{Line, determinant, positive_sum, positive_product, positive_factor}

-- ---- places of variables, and the words above over them

record Spot : Type 0 where
  x : Expr
  y : Expr

abbrev square : Expr → Expr
square e = e ⊗ e

abbrev away : Expr → Expr → Expr → Spot → Expr
away t u v p = square (t ⊗ p.x ⊝ u) ⊕ square (t ⊗ p.y ⊝ v)

abbrev crossing : Spot → Spot → Spot → Expr
crossing p q r = (q.x ⊝ p.x) ⊗ (r.y ⊝ p.y) ⊝ (q.y ⊝ p.y) ⊗ (r.x ⊝ p.x)

abbrev sight : Spot → Spot → Line
sight c p = record { a = p.x ⊝ c.x; b = p.y ⊝ c.y; w = square (p.x ⊝ c.x) ⊕ square (p.y ⊝ c.y) }

-- ---- how far r is, by the determinant

module _ (c p q r : Place) (t u v : ℤ) where
  abbrev above_c : Place → ℤ
  above_c s = far t u v s -ℤ far t u v c

  powers : cross c p q *ℤ above_c r ≡ t *ℤ t *ℤ det (seen c p) (seen c q) (seen c r) +ℤ above_c p *ℤ cross c r q -ℤ above_c q *ℤ cross c r p
  unfolding det
  powers =
      let o : Spot = record { x = var 0; y = var 1 } in
      let k : Spot = record { x = var 2; y = var 3 } in
      let l : Spot = record { x = var 4; y = var 5 } in
      let m : Spot = record { x = var 6; y = var 7 } in
      let f : Spot → Expr = λ s. away (var 8) (var 9) (var 10) s ⊝ away (var 8) (var 9) (var 10) o in
      solve (at (c.x ∷ c.y ∷ p.x ∷ p.y ∷ q.x ∷ q.y ∷ r.x ∷ r.y ∷ t ∷ u ∷ v ∷ []))
      (crossing o k l ⊗ f m)
      (var 8 ⊗ var 8 ⊗ determinant (sight o k) (sight o l) (sight o m) ⊕ f k ⊗ crossing o m l ⊝ f l ⊗ crossing o m k) tt

nothing : (z : ℤ) → z -ℤ z ≡ pos 0
nothing z = solve (at (z ∷ [])) (var 0 ⊝ var 0) (con (pos 0)) tt

cleared : (e m n k l : ℤ) → k ≡ pos 0 → l ≡ pos 0 → e +ℤ k *ℤ m -ℤ l *ℤ n ≡ e
cleared e m n k l h j =
    (λ i. e +ℤ h i *ℤ m -ℤ j i *ℤ n) ∙ solve (at (e ∷ m ∷ n ∷ [])) (var 0 ⊕ con (pos 0) ⊗ var 1 ⊝ con (pos 0) ⊗ var 2) (var 0) tt

-- about the centre of a circle through c, p and q
module _ (c p q r : Place) (t u v : ℤ) (ep : far t u v p ≡ far t u v c) (eq : far t u v q ≡ far t u v c) where
  power : cross c p q *ℤ (far t u v r -ℤ far t u v c) ≡ t *ℤ t *ℤ det (seen c p) (seen c q) (seen c r)
  power =
      powers c p q r t u v
      ∙ cleared (t *ℤ t *ℤ det (seen c p) (seen c q) (seen c r)) (cross c r q) (cross c r p) _ _
      (ap (λ z. z -ℤ far t u v c) ep ∙ nothing (far t u v c))
      (ap (λ z. z -ℤ far t u v c) eq ∙ nothing (far t u v c))

  to_determinant : Positive t → Positive (cross c p q) → Positive (far t u v r -ℤ far t u v c) → Positive (det (seen c p) (seen c q) (seen c r))
  to_determinant ht hd h =
      positive_factor (t *ℤ t) (det (seen c p) (seen c q) (seen c r)) (positive_product t t ht ht)
      (subst Positive power (positive_product (cross c p q) (far t u v r -ℤ far t u v c) hd h))

  from_determinant : Positive t → Positive (cross c p q) → Positive (det (seen c p) (seen c q) (seen c r)) → Positive (far t u v r -ℤ far t u v c)
  from_determinant ht hd h =
      positive_factor (cross c p q) (far t u v r -ℤ far t u v c) hd
      (subst Positive (sym power) (positive_product (t *ℤ t) (det (seen c p) (seen c q) (seen c r)) (positive_product t t ht ht) h))

-- ---- the circle that there is: its centre is c and (X, Y)/2d, where d is cross

shifted : (t x c e : ℤ) → t *ℤ x -ℤ (t *ℤ c +ℤ e) ≡ t *ℤ (x -ℤ c) -ℤ e
shifted t x c e = solve (at (t ∷ x ∷ c ∷ e ∷ [])) (var 0 ⊗ var 1 ⊝ (var 0 ⊗ var 2 ⊕ var 3)) (var 0 ⊗ (var 1 ⊝ var 2) ⊝ var 3) tt

-- far, by what is seen from c
abbrev round : ℤ → ℤ → ℤ → ℤ → ℤ → ℤ
round t x y a b = (t *ℤ a -ℤ x) *ℤ (t *ℤ a -ℤ x) +ℤ (t *ℤ b -ℤ y) *ℤ (t *ℤ b -ℤ y)

far_is : (c p : Place) (t x y : ℤ) → far t (t *ℤ c.x +ℤ x) (t *ℤ c.y +ℤ y) p ≡ round t x y (p.x -ℤ c.x) (p.y -ℤ c.y)
far_is c p t x y =
    let e = shifted t p.x c.x x in
    let f = shifted t p.y c.y y in
    λ i. e i *ℤ e i +ℤ f i *ℤ f i

far_centre : (c : Place) (t x y : ℤ) → far t (t *ℤ c.x +ℤ x) (t *ℤ c.y +ℤ y) c ≡ x *ℤ x +ℤ y *ℤ y
far_centre c t x y =
    solve (at (t ∷ c.x ∷ c.y ∷ x ∷ y ∷ []))
    (square (var 0 ⊗ var 1 ⊝ (var 0 ⊗ var 1 ⊕ var 3)) ⊕ square (var 0 ⊗ var 2 ⊝ (var 0 ⊗ var 2 ⊕ var 4)))
    (square (var 3) ⊕ square (var 4)) tt

-- d, X and Y below, over the variables 0 to 3 for a, b, k and l
abbrev de : Expr
de = var 0 ⊗ var 3 ⊝ var 1 ⊗ var 2

abbrev Xe : Expr
Xe = (square (var 0) ⊕ square (var 1)) ⊗ var 3 ⊝ (square (var 2) ⊕ square (var 3)) ⊗ var 1

abbrev Ye : Expr
Ye = var 0 ⊗ (square (var 2) ⊕ square (var 3)) ⊝ var 2 ⊗ (square (var 0) ⊕ square (var 1))

-- d, X and Y of the rows (a, b) and (k, l)
module _ (a b k l : ℤ) where
  abbrev d : ℤ
  d = a *ℤ l -ℤ b *ℤ k

  abbrev X : ℤ
  X = (a *ℤ a +ℤ b *ℤ b) *ℤ l -ℤ (k *ℤ k +ℤ l *ℤ l) *ℤ b

  abbrev Y : ℤ
  Y = a *ℤ (k *ℤ k +ℤ l *ℤ l) -ℤ k *ℤ (a *ℤ a +ℤ b *ℤ b)

  first_on : round (d +ℤ d) X Y a b ≡ X *ℤ X +ℤ Y *ℤ Y
  first_on = solve (at (a ∷ b ∷ k ∷ l ∷ [])) (away (de ⊕ de) Xe Ye (record { x = var 0; y = var 1 })) (square Xe ⊕ square Ye) tt

  second_on : round (d +ℤ d) X Y k l ≡ X *ℤ X +ℤ Y *ℤ Y
  second_on = solve (at (a ∷ b ∷ k ∷ l ∷ [])) (away (de ⊕ de) Xe Ye (record { x = var 2; y = var 3 })) (square Xe ⊕ square Ye) tt

module _ (c p q : Place) where
  abbrev t : ℤ
  t = cross c p q +ℤ cross c p q

  abbrev x : ℤ
  x = X (p.x -ℤ c.x) (p.y -ℤ c.y) (q.x -ℤ c.x) (q.y -ℤ c.y)

  abbrev y : ℤ
  y = Y (p.x -ℤ c.x) (p.y -ℤ c.y) (q.x -ℤ c.x) (q.y -ℤ c.y)

  on_p : far t (t *ℤ c.x +ℤ x) (t *ℤ c.y +ℤ y) p ≡ far t (t *ℤ c.x +ℤ x) (t *ℤ c.y +ℤ y) c
  on_p = far_is c p t x y ∙ first_on (p.x -ℤ c.x) (p.y -ℤ c.y) (q.x -ℤ c.x) (q.y -ℤ c.y) ∙ sym (far_centre c t x y)

  on_q : far t (t *ℤ c.x +ℤ x) (t *ℤ c.y +ℤ y) q ≡ far t (t *ℤ c.x +ℤ x) (t *ℤ c.y +ℤ y) c
  on_q = far_is c q t x y ∙ second_on (p.x -ℤ c.x) (p.y -ℤ c.y) (q.x -ℤ c.x) (q.y -ℤ c.y) ∙ sym (far_centre c t x y)

  outside : (r : Place) → Positive (cross c p q) → Positive (det (seen c p) (seen c q) (seen c r)) → Outside c p q r
  outside r hd h =
      let ht = positive_sum (cross c p q) (cross c p q) hd hd in
      record {
        t = t;
        u = t *ℤ c.x +ℤ x;
        v = t *ℤ c.y +ℤ y;
        scale = ht;
        through_p = on_p;
        through_q = on_q;
        further = from_determinant c p q r t (t *ℤ c.x +ℤ x) (t *ℤ c.y +ℤ y) on_p on_q ht hd h;
      }

pub outside_by_determinant : OutsideByDeterminant
outside_by_determinant c p q r hd =
    (λ o. to_determinant c p q r o.t o.u o.v o.through_p o.through_q o.scale hd o.further, outside c p q r hd)
