-- A clear star keeps the laws: its rows have w above 0, since no other point stands where c does.
use Rattle.std.proofs.Common.{◌≡◌, ℕ, zero, suc, ◌+◌, ◌-◌, ◌*◌, ◌<◌, ◌≤◌, Bool, true, false, cond, T, ltb, ◌≢◌, List, length, ℤ, pos, negsuc, ◌+ℤ◌, ◌-ℤ◌, ◌*ℤ◌, nat_abs, sym, refl, ap, ◌∙◌, subst, arith, ltb→lt, lt→ltb}
use mathlib.Core.Logic.{∥∥₁_elim}
use mathlib.Core.HLevel.{Π_prop, ¬_prop}
use native.Mathlib.Bridge.{le_prop}
use native.Mathlib.Decide.{dec_lt}
use lib.IntN.{ -ℤ-+ℤ_cancel, +ℤ_idl}
use Rattle.laws.specs.Systems.{Lawful}
use Rattle.models.specs.declared.places.Place.{Place}
use Rattle.models.specs.Determinants.{det, Positive, GeneralPosition}
use Rattle.models.specs.Places.{place, Good}
use Rattle.models.specs.Stars.{seen, other, star, Clear, clear-prop, StarsKeepTheLaws}
use Rattle.models.proofs.Signs.{all_apart, lawful_by_sign}
use Rattle.models.proofs.Plane.{good_is_prop}

-- ---- which point a mark means

-- the two cases of `other`
pub data Other (c i : ℕ) : ℕ → Type 0 where
  under : i < c → Other c i i
  past : c ≤ i → Other c i (i + 1)

pub other_is : (c i : ℕ) → Other c i (other c i)
other_is c i = by (ltb i c) refl
  where
    by : (b : Bool) → ltb i c ≡ b → Other c i (cond b i (i + 1))
    by true e = under (ltb→lt i c (subst T (sym e) tt))
    by false e = past (elim (dec_lt i c) [ yes h ↦ absurd (subst T e (lt→ltb i c h)) | no h ↦ omega arith ])

pub other_apart : (c i : ℕ) → other c i ≢ c
other_apart c i = from (other_is c i)
  where
    from : {p : ℕ} → Other c i p → p ≢ c
    from (under h) e = omega arith
    from (past h) e = omega arith

pub other_within : (n c i : ℕ) → i < n - 1 → other c i < n
other_within n c i l = from (other_is c i)
  where
    from : {p : ℕ} → Other c i p → p < n
    from (under h) = omega arith
    from (past h) = omega arith

pub other_rises : (c i j : ℕ) → i < j → other c i < other c j
other_rises c i j l = from (other_is c i) (other_is c j)
  where
    from : {p q : ℕ} → Other c i p → Other c j q → p < q
    from (under h) (under k) = omega arith
    from (under h) (past k) = omega arith
    from (past h) (under k) = omega arith
    from (past h) (past k) = omega arith

-- ---- the square of a distance is above 0 between two places

square : (z : ℤ) → z *ℤ z ≡ pos (nat_abs z * nat_abs z)
square (pos n) = refl
square (negsuc n) = refl

none : (z : ℤ) → nat_abs z ≡ 0 → z ≡ pos 0
none (pos n) e = ap pos e
none (negsuc n) e = absurd (omega arith)

equal : (x y : ℤ) → nat_abs (x -ℤ y) ≡ 0 → x ≡ y
equal x y e = sym (-ℤ-+ℤ_cancel x y) ∙ ap (λ z. z +ℤ y) (none (x -ℤ y) e) ∙ +ℤ_idl y

squares : (m n : ℕ) → (m ≡ 0 → n ≡ 0 → ⊥) → 0 < m * m + n * n
squares zero zero h = absurd (h refl refl)
squares zero (suc n) h = omega arith
squares (suc m) n h = omega arith

seen_positive : (c p : Place) → p ≢ c → Positive (seen c p).w
seen_positive c p h =
    rw (square (p.x -ℤ c.x), square (p.y -ℤ c.y))
    (lt→ltb 0 _ (squares (nat_abs (p.x -ℤ c.x)) (nat_abs (p.y -ℤ c.y)) (λ e f. h (λ i. record { x = equal p.x c.x e i; y = equal p.y c.y f i }))))

-- two points of a good list stand in different places
pub places_apart : (ps : List Place) → Good ps → (i j : ℕ) → i < length ps → j < length ps → i ≢ j → place ps i ≢ place ps j
places_apart ps g i j l m d e =
    elim (dec_lt i j) [
      | yes h ↦ g.apart i l j m h e
      | no h ↦ g.apart j m i l (omega arith) (sym e)
    ]

-- ---- the laws

pub stars_keep_the_laws : StarsKeepTheLaws
stars_keep_the_laws ps c g = lawful_by_sign (length ps - 1) (λ i. seen (place ps c) (place ps (other c i))) general
  where
    centre : (i : ℕ) → i < length ps - 1 → c < length ps
    centre i l = g.centre (omega arith)

    rising : (i j k : ℕ) → i < j → j < k → k < length ps - 1
        → det (seen (place ps c) (place ps (other c i))) (seen (place ps c) (place ps (other c j))) (seen (place ps c) (place ps (other c k))) ≢ pos 0
    rising i j k l m n e =
        g.round (other c i) (other_within (length ps) c i (omega arith)) (other c j) (other_within (length ps) c j (omega arith)) (other_rises c i j l) (other c k)
        (other_within (length ps) c k n) (other_rises c j k m)
        (record { i≢c = other_apart c i; j≢c = other_apart c j; k≢c = other_apart c k; flat = e })

    general : GeneralPosition (length ps - 1) (λ i. seen (place ps c) (place ps (other c i)))
    general =
        record {
          limit = omega (arith, g.good.few);
          weights = λ i l. seen_positive (place ps c) (place ps (other c i))
              (places_apart ps g.good (other c i) c (other_within (length ps) c i l) (centre i l) (other_apart c i));
          apart = all_apart (length ps - 1) (λ i. seen (place ps c) (place ps (other c i))) rising;
        }

-- `Clear` has one proof at most, so a truncated one serves
pub clear : (ps : List Place) (c : ℕ) → ∥ Clear ps c ∥₁ → Clear ps c
clear ps c t =
    ∥∥₁_elim t
    (clear-prop (good_is_prop ps) (Π_prop λ _. le_prop) (Π_prop λ i. Π_prop λ _. Π_prop λ j. Π_prop λ _. Π_prop λ _. Π_prop λ k. Π_prop λ _. Π_prop λ _. ¬_prop))
    (λ g. g)

pub lawful_star : (ps : List Place) (c : ℕ) → ∥ Clear ps c ∥₁ → Lawful (star ps c)
lawful_star ps c t = stars_keep_the_laws ps c (clear ps c t)
