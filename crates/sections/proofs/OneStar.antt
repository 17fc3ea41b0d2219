-- A star's pairs are one list, and the contract of `star` leaves one answer only.
use Rattle.std.proofs.Common.{◌≡◌, ℕ, zero, suc, ◌<◌, ◌≤◌, List, ◌++◌, length, take, drop, Some, None, Ok, Err, sym, ap, ◌∙◌, arith}
use native.Mathlib.Decide.{dec_lt}
use Rattle.std.proofs.lemmas.List.{ext_get_or, length-take-le, take-append-drop}
use Rattle.cc.specs.declared.faults.Fault.{Fault}
use Rattle.cc.specs.declared.faults.Fault.TheVariants.{Tight}
use Rattle.models.specs.declared.places.Place.{Place}
use Rattle.systems.specs.Openings.{Starred, StarRefused}
use Rattle.systems.proofs.OneStarJudgement.{one_star_judgement}
use Rattle.sections.specs.Delaunay.{pair, StarPairs, StarWritten, StarDeclined, refused, tight, OneStarAnswer}

-- ---- two lists with the pairs of one star agree at each place

module _ (ps : List Place) (c : ℕ) where
  abbrev Agree : List (ℕ × ℕ) → List (ℕ × ℕ) → ℕ → Type 0
  Agree l k i = (i < length k) × ((pair l i).0 ≡ (pair k i).0) × ((pair l i).1 ≡ (pair k i).1)

  agree_next : (l k : List (ℕ × ℕ)) → StarPairs ps c l → StarPairs ps c k → (i : ℕ) → i < length l → ((j : ℕ) → j < i → j < length l → Agree l k j) → Agree l k i
  agree_next l k a b i h before =
      elim (dec_lt m i) [
        | yes f ↦ absurd (too_early f)
        | no f ↦ elim (dec_lt i m) [
          | yes g ↦ absurd (too_late g)
          | no g ↦
              let e : m ≡ i = omega arith in (
                omega (arith, o.1),
                sym o.2 ∙ ap (λ x. (pair k x).0) e,
                sym o.3 ∙ ap (λ x. (pair k x).1) e,
              )
        ]
      ]
    where
      -- where the i-th pair of l stands in k
      o : (m : ℕ) × (m < length k) × ((pair k m).0 ≡ (pair l i).0) × ((pair k m).1 ≡ (pair l i).1)
      o = b.all (pair l i).0 (pair l i).1 (a.each i h)

      m : ℕ
      m = o.0

      too_early : o.0 < i → ⊥
      too_early f = let e = before o.0 f (omega arith) in omega (arith, a.rising o.0 i f h, e.1, o.2)

      too_late : i < o.0 → ⊥
      too_late f =
          let g : i < length k = omega (arith, o.1) in
          let n = a.all (pair k i).0 (pair k i).1 (b.each i g) in
          elim (dec_lt n.0 i) [
            | yes q ↦ let e = before n.0 q n.1 in omega (arith, b.rising n.0 i q g, e.1, n.2)
            | no q ↦ elim (dec_lt i n.0) [
              | yes r ↦ omega (arith, a.rising i n.0 r n.1, b.rising i o.0 f o.1, n.2, o.2)
              | no r ↦ let e : n.0 ≡ i = omega arith in omega (arith, b.rising i o.0 f o.1, ap (λ x. (pair l x).0) e, n.2, o.2)
            ]
          ]

  agree : (l k : List (ℕ × ℕ)) → StarPairs ps c l → StarPairs ps c k → (n i : ℕ) → i < n → i < length l → Agree l k i
  agree l k a b zero i f h = absurd (omega arith)
  agree l k a b (suc n) i f h = agree_next l k a b i h (λ j g r. agree l k a b n j (omega arith) r)

  shorter : (l k : List (ℕ × ℕ)) → StarPairs ps c l → StarPairs ps c k → length l ≤ length k
  shorter l k a b = elim (dec_lt (length k) (length l)) [ yes h ↦ let e = agree l k a b (length l) (length k) h h in absurd (omega (arith, e.0)) | no h ↦ omega arith ]

  pub one_list : (l k : List (ℕ × ℕ)) → StarPairs ps c l → StarPairs ps c k → l ≡ k
  one_list l k a b =
      ext_get_or (0, 0) l k (omega (arith, shorter l k a b, shorter k l b a)) (λ i h. let e = agree l k a b (length l) i h h in λ t. (e.1 t, e.2 t))

  -- ---- the answers

  front_long : (n : ℕ) (before later : List (ℕ × ℕ)) → length later ≡ length before → StarWritten ps c n before later → length (take n later) ≡ n
  front_long n before later e w = length-take-le n later (omega (arith, w.fits))

  one_written : (n m : ℕ) (before l k : List (ℕ × ℕ)) → length l ≡ length before → length k ≡ length before → StarWritten ps c n before l → StarWritten ps c m before k → (n ≡ m) × (l ≡ k)
  one_written n m before l k d e v w =
      let f = one_list (take n l) (take m k) v.front w.front in
      let g : n ≡ m = sym (front_long n before l d v) ∙ ap length f ∙ front_long m before k e w in
      (g, sym (take-append-drop n l) ∙ (λ t. f t ++ (v.rest ∙ (λ s. drop (g s) before) ∙ sym w.rest) t) ∙ take-append-drop m k)

  not_refused : (f : Fault) → StarRefused ps c f → Starred ps c → ⊥
  not_refused f r s = let z : ◌≡◌ {A = ℕ} 0 1 = cc (one_star_judgement ps c (Some f) None r s) in omega arith

  not_declined : {f : Fault} (n : ℕ) (before later : List (ℕ × ℕ)) → length later ≡ length before → StarDeclined ps c (length before) f → StarWritten ps c n before later → ⊥
  not_declined n before later e (refused {f = f} r) w = not_refused f r w.starred
  not_declined n before later e (tight {l = l} s a h) w =
      omega (arith, ap length (one_list l (take n later) a w.front), front_long n before later e w, w.fits)

  one_fault : (n : ℕ) {f g : Fault} → StarDeclined ps c n f → StarDeclined ps c n g → f ≡ g
  one_fault n (refused {f = f} r) (refused {f = g} s) = let e = one_star_judgement ps c (Some f) (Some g) r s in cc
  one_fault n (refused {f = f} r) (tight s a h) = absurd (not_refused f r s)
  one_fault n (tight s a h) (refused {f = f} r) = absurd (not_refused f r s)
  one_fault n (tight {l = l} s a h) (tight {l = k} s' b h') = ap (λ x. Tight (length x)) (one_list l k a b)

pub one_star_answer : OneStarAnswer
one_star_answer ps c before l k (Ok n) (Ok m) d e v w = let o = one_written ps c n m before l k d e v w in (ap Ok o.0, o.1)
one_star_answer ps c before l k (Ok n) (Err f) d e v w = absurd (not_declined ps c n before l d w.0 v)
one_star_answer ps c before l k (Err f) (Ok n) d e v w = absurd (not_declined ps c n before k e v.0 w)
one_star_answer ps c before l k (Err f) (Err g) d e v w = (ap Err (one_fault ps c (length before) v.0 w.0), v.1 ∙ sym w.1)
