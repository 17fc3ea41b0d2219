-- A good list of places keeps the laws: its points are rows with w = 1.
use Rattle.std.proofs.Common.{◌≡◌, ℕ, ◌+◌, ◌*◌, ◌≢◌, List, [], ◌∷◌, length, pos, sym, ◌∙◌, subst, arith}
use mathlib.Core.Logic.{∥∥₁_elim}
use mathlib.Core.HLevel.{Π_prop, ¬_prop}
use native.Mathlib.Bridge.{le_prop}
use Rattle.laws.specs.Systems.{Three, Lawful}
use Rattle.models.specs.declared.places.Place.{Place}
use Rattle.models.specs.Determinants.{Row, det, positive, by_sign, GeneralPosition}
use Rattle.models.specs.Places.{Good, good-prop, near-prop, plane, place, cross, PointsKeepTheLaws}
use Rattle.models.proofs.Polynomials.{var, con, ◌⊝◌, ◌⊗◌, at, solve}
use Rattle.models.proofs.Signs.{Line, determinant, all_apart, lawful_by_sign}

abbrev row : Place → Row
row p = record { a = p.x; b = p.y; w = pos 1 }

cross_is : (p q r : Place) → cross p q r ≡ det (row p) (row q) (row r)
unfolding det
cross_is p q r =
    let line : ℕ → Line = λ i. record { a = var (2 * i); b = var (2 * i + 1); w = con (pos 1) } in
    let x = line 0 in let y = line 1 in let z = line 2 in
    solve (at (p.x ∷ p.y ∷ q.x ∷ q.y ∷ r.x ∷ r.y ∷ []))
    ((y.a ⊝ x.a) ⊗ (z.b ⊝ x.b) ⊝ (y.b ⊝ x.b) ⊗ (z.a ⊝ x.a))
    (determinant x y z) tt

abbrev rows : List Place → ℕ → Row
rows ps i = row (place ps i)

plane_is : (ps : List Place) → plane ps ≡ by_sign (length ps) (rows ps)
plane_is ps t =
    record {
      count = length ps;
      left = λ p q r. positive (cross_is (place ps p) (place ps q) (place ps r) t);
    }

general : (ps : List Place) → Good ps → GeneralPosition (length ps) (rows ps)
general ps g =
    record {
      limit = g.few;
      weights = λ i l. tt;
      apart = all_apart (length ps) (rows ps)
          (λ i j k l m n e. g.bent i (omega arith) j (omega arith) l k n m (cross_is (place ps i) (place ps j) (place ps k) ∙ e));
    }

-- no three different points of a good list lie on a line
pub bent : (ps : List Place) → Good ps → {p q r : ℕ} → Three (length ps) p q r → cross (place ps p) (place ps q) (place ps r) ≢ pos 0
bent ps g {p} {q} {r} t e = (general ps g).apart t (sym (cross_is (place ps p) (place ps q) (place ps r)) ∙ e)

pub points_keep_the_laws : PointsKeepTheLaws
points_keep_the_laws ps g = subst Lawful (sym (plane_is ps)) (lawful_by_sign (length ps) (rows ps) (general ps g))

-- `Good` has one proof at most, so a truncated one serves
pub good_is_prop : (ps : List Place) → IsProp (Good ps)
good_is_prop ps =
    good-prop le_prop (Π_prop λ i. Π_prop λ _. near-prop le_prop le_prop) (Π_prop λ i. Π_prop λ _. Π_prop λ j. Π_prop λ _. Π_prop λ _. ¬_prop)
    (Π_prop λ i. Π_prop λ _. Π_prop λ j. Π_prop λ _. Π_prop λ _. Π_prop λ k. Π_prop λ _. Π_prop λ _. ¬_prop)

pub good : (ps : List Place) → ∥ Good ps ∥₁ → Good ps
good ps t = ∥∥₁_elim t (good_is_prop ps) (λ g. g)

pub lawful_plane : (ps : List Place) → ∥ Good ps ∥₁ → Lawful (plane ps)
lawful_plane ps t = points_keep_the_laws ps (good ps t)
