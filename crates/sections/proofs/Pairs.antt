-- The list of a star's pairs, as it grows.
use Rattle.std.proofs.Common.{◌≡◌, ℕ, ◌+◌, ◌<◌, ◌≢◌, ◌⊎◌, List, [], ◌∷◌, ◌++◌, length, take, drop, Ok, Err, Result, sym, refl, ap, ◌∙◌, subst, inl, inr, arith}
use native.Mathlib.Decide.{dec_lt}
use Rattle.std.proofs.lemmas.List.{get_or_append_left, get_or_push, length_push, take_at, drop_at}
use Rattle.cc.specs.Lists.{Copied}
use Rattle.cc.specs.declared.faults.Fault.{Fault}
use Rattle.models.specs.declared.places.Place.{Place}
use Rattle.models.specs.Stars.{other}
use Rattle.models.proofs.StarLaws.{Other, under, past, other_is}
use Rattle.systems.specs.Openings.{Starred}
use Rattle.sections.specs.Delaunay.{Delaunay, pair, StarPairs, StarDeclined, StarAnswer, tight}

-- the list has exactly the pairs whose first point is below b, in rising order
pub record PairsBelow (ps : List Place) (c b : ℕ) (l : List (ℕ × ℕ)) : Type 0 where
  pub each : (k : ℕ) → k < length l → Delaunay ps c (pair l k).0 (pair l k).1
  pub low : (k : ℕ) → k < length l → (pair l k).0 < b
  pub all : (p q : ℕ) → p < b → Delaunay ps c p q → (k : ℕ) × (k < length l) × ((pair l k).0 ≡ p) × ((pair l k).1 ≡ q)
  pub rising : (j k : ℕ) → j < k → k < length l → (pair l j).0 < (pair l k).0

-- between the points that marks i and i + 1 mean stands none but c
next_point : (c i p : ℕ) → p ≢ c → p < other c (i + 1) → p ≢ other c i → p < other c i
next_point c i p d l e = from (other_is c i) (other_is c (i + 1)) l e
  where
    from : {a b : ℕ} → Other c i a → Other c (i + 1) b → p < b → p ≢ a → p < a
    from (under h) (under k) l e = omega arith
    from (under h) (past k) l e = omega arith
    from (past h) (under k) l e = omega arith
    from (past h) (past k) l e = omega arith

rises : (c i : ℕ) → other c i < other c (i + 1)
rises c i = from (other_is c i) (other_is c (i + 1))
  where
    from : {a b : ℕ} → Other c i a → Other c (i + 1) b → a < b
    from (under h) (under k) = omega arith
    from (under h) (past k) = omega arith
    from (past h) (under k) = omega arith
    from (past h) (past k) = omega arith

same : (a b : ℕ) → (a < b → ⊥) → (a ≢ b → a < b) → a ≡ b
same a b n k = elim (dec_lt b a) [ yes h ↦ absurd (n (k (λ e. differ h e))) | no h ↦ omega arith ]
  where
    differ : b < a → a ≡ b → ⊥
    differ h e = omega arith

module _ (ps : List Place) (c : ℕ) where
  -- mark i has no pair
  pub pairs_pass : (i : ℕ) (l : List (ℕ × ℕ)) → PairsBelow ps c (other c i) l → ((q : ℕ) → Delaunay ps c (other c i) q → ⊥) → PairsBelow ps c (other c (i + 1)) l
  pairs_pass i l h n =
      record {
        each = h.each;
        low = λ k m. omega (arith, h.low k m, rises c i);
        all = λ p q m d. h.all p q (next_point c i p (λ e. d.turns.three.p≢q (sym e)) m (λ e. n q (subst (λ x. Delaunay ps c x q) e d))) d;
        rising = h.rising;
      }

  -- mark i has the pair x
  pub pairs_push : (i q : ℕ) (l : List (ℕ × ℕ)) → PairsBelow ps c (other c i) l → Delaunay ps c (other c i) q
      → ((q' : ℕ) → Delaunay ps c (other c i) q' → q ≡ q') → PairsBelow ps c (other c (i + 1)) (l ++ (other c i, q) ∷ [])
  pairs_push i q l h d one =
      record {
        each = λ k m. elim (place_of k m) [
          | inl e ↦ subst (λ z. Delaunay ps c z.0 z.1) (sym e.1) (h.each k e.0)
          | inr e ↦ subst (λ z. Delaunay ps c z.0 z.1) (sym e.1) d
        ];
        low = λ k m. elim (place_of k m) [
          | inl e ↦ subst (λ z. z.0 < other c (i + 1)) (sym e.1) (omega (arith, h.low k e.0, rises c i))
          | inr e ↦ subst (λ z. z.0 < other c (i + 1)) (sym e.1) (rises c i)
        ];
        all = all;
        rising = λ j k m n. elim (place_of k n) [
          | inl e ↦ subst (λ z. (pair l' j).0 < z.0) (sym e.1) (subst (λ z. z.0 < (pair l k).0) (sym (stays j (omega (arith, e.0)))) (h.rising j k m e.0))
          | inr e ↦ let b : j < length l = omega (arith, e.0) in subst (λ z. (pair l' j).0 < z.0) (sym e.1) (subst (λ z. z.0 < other c i) (sym (stays j b)) (h.low j b))
        ];
      }
    where
      l' : List (ℕ × ℕ)
      l' = l ++ (other c i, q) ∷ []

      stays : (k : ℕ) → k < length l → pair (l ++ (other c i, q) ∷ []) k ≡ pair l k
      stays k m = get_or_append_left l ((other c i, q) ∷ []) (0, 0) k m

      place_of : (k : ℕ) → k < length (l ++ (other c i, q) ∷ [])
          → ((k < length l) × (pair (l ++ (other c i, q) ∷ []) k ≡ pair l k)) ⊎ ((k ≡ length l) × (pair (l ++ (other c i, q) ∷ []) k ≡ (other c i, q)))
      place_of k m =
          elim (dec_lt k (length l)) [
            | yes b ↦ inl (b, stays k b)
            | no b ↦ let e : k ≡ length l = omega (arith, length_push l (other c i, q)) in inr (e, get_or_push l (other c i, q) (0, 0) k (sym e))
          ]

      all : (p q' : ℕ) → p < other c (i + 1) → Delaunay ps c p q'
          → (k : ℕ) × (k < length (l ++ (other c i, q) ∷ [])) × ((pair (l ++ (other c i, q) ∷ []) k).0 ≡ p) × ((pair (l ++ (other c i, q) ∷ []) k).1 ≡ q')
      all p q' m b =
          elim (dec_lt p (other c i)) [
            | yes n ↦
                let o = h.all p q' n b in
                (o.0, omega (arith, o.1, length_push l (other c i, q)), ap (λ (z : ℕ × ℕ). z.0) (stays o.0 o.1) ∙ o.2, ap (λ (z : ℕ × ℕ). z.1) (stays o.0 o.1) ∙ o.3)
            | no n ↦
                let e = same p (other c i) n (next_point c i p (λ y. b.turns.three.p≢q (sym y)) m) in
                let w = get_or_push l (other c i, q) (0, 0) (length l) refl in (
                  length l,
                  omega (arith, length_push l (other c i, q)),
                  ap (λ (z : ℕ × ℕ). z.0) w ∙ sym e,
                  ap (λ (z : ℕ × ℕ). z.1) w ∙ one q' (subst (λ x. Delaunay ps c x q') e b),
                )
          ]

  pub pairs_add : (i : ℕ) (l : List (ℕ × ℕ)) (x : ℕ × ℕ) → PairsBelow ps c (other c i) l → x.0 ≡ other c i → Delaunay ps c x.0 x.1
      → ((q : ℕ) → Delaunay ps c (other c i) q → x.1 ≡ q) → PairsBelow ps c (other c (i + 1)) (l ++ x ∷ [])
  pairs_add i l x below e d one =
      subst (λ p. PairsBelow ps c (other c (i + 1)) (l ++ (p, x.1) ∷ [])) (sym e)
      (pairs_push i x.1 l below (subst (λ p. Delaunay ps c p x.1) e d) one)

-- the pairs are copied to the front of the list, or it is too short for them
pub star_answer : (ps : List Place) (c : ℕ) (found before after : List (ℕ × ℕ)) (r : Result ℕ Fault) → Starred ps c → StarPairs ps c found → Copied found before after r → StarAnswer ps c before after r
star_answer ps c found before after (Ok n) starred pairs (many, fits, is) =
    record {
      starred = starred;
      fits = omega (arith, many, fits);
      front = subst (StarPairs ps c) (sym (ap (take n) is ∙ take_at found (drop (length found) before) n (sym many))) pairs;
      rest = ap (drop n) is ∙ drop_at found (drop (length found) before) n (sym many) ∙ ap (λ m. drop m before) (sym many);
    }
star_answer ps c found before after (Err f) starred pairs (is, short, same) =
    (subst (StarDeclined ps c (length before)) (sym is) (tight starred pairs short), same)
