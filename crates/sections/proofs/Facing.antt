-- The pairs of a star are the arcs of the star system that face its centre.
use Rattle.std.proofs.Common.{◌≡◌, ℕ, ◌-◌, ◌<◌, ◌≢◌, Bool, true, false, List, length, MatchBool, MatchOption, sym, refl, ap, ◌∙◌, subst, arith}
use native.Mathlib.Decide.{dec_lt}
use Rattle.std.specs.Bool.{then_some}
use Rattle.laws.specs.Systems.{Left, Lawful}
use Rattle.laws.specs.Outlines.{Arc}
use Rattle.laws.proofs.Arcs.{one_after}
use Rattle.models.specs.declared.places.Place.{Place}
use Rattle.models.specs.Places.{place, plane, Good}
use Rattle.models.specs.Stars.{star, other, Clear}
use Rattle.models.specs.Circles.{Outside}
use Rattle.models.proofs.StarLaws.{Other, under, past, other_is, other_apart, other_within, other_rises, stars_keep_the_laws}
use Rattle.models.proofs.Circles.{outside_by_determinant}
use Rattle.systems.specs.Openings.{Starred}
use Rattle.sections.specs.Delaunay.{Delaunay, AllOf, FacingArc, StarIsFacingArcs, OnePairEach}

-- ---- marks and points

-- the mark that means r
pub mark : (n c r : ℕ) → c < n → r < n → r ≢ c → (k : ℕ) × (k < n - 1) × (other c k ≡ r)
mark n c r hc hr d =
    elim (dec_lt r c) [
      | yes h ↦ (r, omega arith, is_under (other_is c r) h)
      | no h ↦ let k : c < r = omega arith in (r - 1, omega arith, is_past r (other_is c (r - 1)) k)
    ]
  where
    is_under : {p : ℕ} → Other c r p → r < c → p ≡ r
    is_under (under h) l = refl
    is_under (past h) l = absurd (omega arith)

    is_past : (s : ℕ) {p : ℕ} → Other c (s - 1) p → c < s → p ≡ s
    is_past s (under h) l = absurd (omega arith)
    is_past s (past h) l = omega arith

pub other_injective : (c i j : ℕ) → other c i ≡ other c j → i ≡ j
other_injective c i j e =
    elim (dec_lt i j) [
      | yes h ↦ absurd (not_equal (other_rises c i j h) e)
      | no h ↦
          elim (dec_lt j i) [
            | yes k ↦ absurd (not_equal (other_rises c j i k) (sym e))
            | no k ↦ omega arith
          ]
    ]
  where
    not_equal : {a b : ℕ} → a < b → a ≡ b → ⊥
    not_equal l f = omega arith

-- ---- pairs and arcs

module _ (ps : List Place) (c : ℕ) (g : Good ps) (s : Starred ps c) where
  clear : Clear ps c
  clear = record { good = g; centre = λ _. s.centre; round = s.round }

  lawful : Lawful (star ps c)
  lawful = stars_keep_the_laws ps c clear

  pub to_delaunay : (i j : ℕ) → Arc (star ps c) (AllOf (star ps c)) i j → Left (plane ps) c (other c i) (other c j) → Delaunay ps c (other c i) (other c j)
  to_delaunay i j a l =
      record {
        turns = l;
        outside = λ r hr nc np nq.
            let k = mark (length ps) c r s.centre hr nc in
            subst (λ x. Outside (place ps c) (place ps (other c i)) (place ps (other c j)) (place ps x)) k.2
            ((outside_by_determinant (place ps c) (place ps (other c i)) (place ps (other c j)) (place ps (other c k.0)) l.turns).1
            (a.left k.0 k.1 (λ e. np (sym k.2 ∙ ap (other c) e)) (λ e. nq (sym k.2 ∙ ap (other c) e))).turns);
      }

  pub to_arc : (i j : ℕ) → i < length ps - 1 → j < length ps - 1 → Delaunay ps c (other c i) (other c j) → Arc (star ps c) (AllOf (star ps c)) i j
  to_arc i j hi hj d =
      record {
        from = hi;
        to = hj;
        apart = apart;
        left = λ k hk ni nj.
            record {
              three = omega (arith, apart);
              turns = (outside_by_determinant (place ps c) (place ps (other c i)) (place ps (other c j)) (place ps (other c k)) d.turns.turns).0
                  (d.outside (other c k) (other_within (length ps) c k hk) (other_apart c k) (λ e. ni (other_injective c k i e)) (λ e. nj (other_injective c k j e)));
            };
      }
    where
      apart : i ≢ j
      apart e = d.turns.three.q≢r (ap (other c) e)

  -- a pair, as an arc between the marks that mean its points
  pub facing : (p q : ℕ) → Delaunay ps c p q → FacingArc ps c p q
  facing p q d =
      let three = d.turns.three in
      let i = mark (length ps) c p s.centre three.q_in (λ e. three.p≢q (sym e)) in
      let j = mark (length ps) c q s.centre three.r_in three.r≢p in
      record {
        i = i.0;
        j = j.0;
        i_means = i.2;
        j_means = j.2;
        arc = to_arc i.0 j.0 i.1 j.1 (subst (λ x. Delaunay ps c x (other c j.0)) (sym i.2) (subst (λ x. Delaunay ps c p x) (sym j.2) d));
        faces = d.turns;
      }

  pub delaunay : (p q : ℕ) → FacingArc ps c p q → Delaunay ps c p q
  delaunay p q f =
      subst (λ x. Delaunay ps c x q) f.i_means
      (subst (λ y. Delaunay ps c (other c f.i) y) f.j_means
      (to_delaunay f.i f.j f.arc
      (subst (λ x. Left (plane ps) c x (other c f.j)) (sym f.i_means) (subst (λ y. Left (plane ps) c p y) (sym f.j_means) f.faces))))

pub star_is_facing_arcs : StarIsFacingArcs
star_is_facing_arcs ps c p q g s = (facing ps c g s p q, delaunay ps c g s p q)

pub one_pair_each : OnePairEach
one_pair_each ps c p q q' g s d d' =
    let f = facing ps c g s p q d in
    let f' = facing ps c g s p q' d' in
    let e = other_injective c f'.i f.i (f'.i_means ∙ sym f.i_means) in
    sym f.j_means
    ∙ ap (other c) (one_after (lawful ps c g s) f.i f.j f'.j f.arc (subst (λ x. Arc (star ps c) (AllOf (star ps c)) x f'.j) e f'.arc))
    ∙ f'.j_means

-- ---- for a mark i

module _ (ps : List Place) (c : ℕ) (g : Good ps) (s : Starred ps c) (i : ℕ) where
  -- the arc of a pair whose first point is that of mark i
  its_arc : (q : ℕ) → Delaunay ps c (other c i) q → (j : ℕ) × (other c j ≡ q) × Arc (star ps c) (AllOf (star ps c)) i j
  its_arc q d =
      let f = facing ps c g s (other c i) q d in
      (f.j, f.j_means, subst (λ x. Arc (star ps c) (AllOf (star ps c)) x f.j) (other_injective c f.i i f.i_means) f.arc)

  pub no_pair : ((j : ℕ) → Arc (star ps c) (AllOf (star ps c)) i j → ⊥) → (q : ℕ) → Delaunay ps c (other c i) q → ⊥
  no_pair n q d = let a = its_arc q d in n a.0 a.2

  pub the_pair : (j : ℕ) → Arc (star ps c) (AllOf (star ps c)) i j → (q : ℕ) → Delaunay ps c (other c i) q → other c j ≡ q
  the_pair j a q d = let b = its_arc q d in ap (other c) (one_after (lawful ps c g s) i j b.0 a b.2) ∙ b.1

  -- the pair by which the arc from mark i faces c, or none where it faces away
  pub pair_by : (b : Bool) (j p q : ℕ) → p ≡ other c i → q ≡ other c j → Arc (star ps c) (AllOf (star ps c)) i j → MatchBool b (Left (plane ps) c p q) (Left (plane ps) c p q → ⊥)
      → MatchOption {T = ℕ × ℕ} (then_some b (p, q)) ((r : ℕ) → Delaunay ps c (other c i) r → ⊥) (λ t. (t.0 ≡ other c i) × Delaunay ps c t.0 t.1)
  pair_by true j p q e f a l =
      (e, delaunay ps c g s p q (record { i = i; j = j; i_means = sym e; j_means = sym f; arc = a; faces = l }))
  pair_by false j p q e f a away = λ r d. away (subst (λ x. x) (λ t. Left (plane ps) c (sym e t) (sym (f ∙ the_pair j a r d) t)) d.turns)
