-- A spread is a system that is given by the turns of its rising threes. It is lawful where laws 4 and 5 hold of its rising fours and fives,
-- and laws 4 and 5 hold of each rising list of a lawful one.
use Rattle.std.proofs.Common.{◌≡◌, ℕ, ◌<◌, ◌≤◌, Bool, true, false, not, T, ◌≢◌, ◌⊎◌, List, [], ◌∷◌, length, sym, refl, ap, ◌∙◌, subst, inl, inr, arith, T_not}
use Rattle.laws.specs.Systems.{Three, Left, Lawful}
use Rattle.models.specs.Spread.{Turns, spread, system}
use Rattle.models.specs.Rising.{Mem, Rising, Below}
use Rattle.models.specs.Catalogue.{at, through}
use Rattle.models.proofs.Spread.{Orders, o_pqr, o_prq, o_qpr, o_qrp, o_rpq, o_rqp, orders, distinct, cycled, swapped, spread_through}
use Rattle.models.proofs.Tests.{Interior, Transitive}
use Rattle.models.proofs.Sort.{Sorted, sort, Placed, placed, rises}

-- three different numbers
record Apart (p q r : ℕ) : Type 0 where
  p≢q : p ≢ q
  q≢r : q ≢ r
  r≢p : r ≢ p

apart : {p q r : ℕ} → Orders p q r → Apart p q r
apart (o_pqr x y) = omega arith
apart (o_prq x y) = omega arith
apart (o_qpr x y) = omega arith
apart (o_qrp x y) = omega arith
apart (o_rpq x y) = omega arith
apart (o_rqp x y) = omega arith

module _ (g : Turns) where
  -- laws 4 and 5 of the rising fours and fives of marks below n
  abbrev pub Fours : ℕ → Type 0
  Fours n = (xs : List ℕ) → Rising xs → Below n xs → length xs ≡ 4 → Interior 4 (spread (through (at xs) g))

  abbrev pub Fives : ℕ → Type 0
  Fives n = (xs : List ℕ) → Rising xs → Below n xs → length xs ≡ 5 → Transitive 5 (spread (through (at xs) g))

-- marks of a rising list, by their places
module _ (g : Turns) (xs : List ℕ) (rising : Rising xs) where
  turn_is : {a b c : ℕ} (A : Placed a xs) (B : Placed b xs) (C : Placed c xs) →
      spread g a b c ≡ spread (through (at xs) g) A.place B.place C.place
  turn_is A B C =
      (λ i. spread g (sym A.is i) (sym B.is i) (sym C.is i)) ∙
      spread_through (length xs) (at xs) (rises xs rising) g A.within B.within C.within

  to : {a b c : ℕ} (A : Placed a xs) (B : Placed b xs) (C : Placed c xs) →
      T (spread g a b c) → T (spread (through (at xs) g) A.place B.place C.place)
  to A B C t = subst T (turn_is A B C) t

  pub interior_in : {t p q r : ℕ} → Placed t xs → Placed p xs → Placed q xs → Placed r xs →
      Interior (length xs) (spread (through (at xs) g)) → T (spread g t q r) → T (spread g p t r) → T (spread g p q t) → T (spread g p q r)
  interior_in t p q r law x y z =
      subst T (sym (turn_is p q r)) (law _ _ _ _ t.within p.within q.within r.within (to t q r x) (to p t r y) (to p q t z))

  pub transitive_in : {t s p q r : ℕ} → Placed t xs → Placed s xs → Placed p xs → Placed q xs → Placed r xs →
      Transitive (length xs) (spread (through (at xs) g)) →
      T (spread g t s p) → T (spread g t s q) → T (spread g t s r) → T (spread g t p q) → T (spread g t q r) → T (spread g t p r)
  transitive_in t s p q r law v w x y z =
      subst T (sym (turn_is t p r))
      (law _ _ _ _ _ t.within s.within p.within q.within r.within (to t s p v) (to t s q w) (to t s r x) (to t p q y) (to t q r z))

module _ (g : Turns) where
  pub opposite : (p q r : ℕ) → T (spread g p q r) → T (spread g p r q) → ⊥
  opposite p q r x y = T_not (spread g p q r) (subst T (swapped g (distinct g p q r x)) y) x

  interior_sorted : (n t p q r : ℕ) → Fours g n → Sorted (t ∷ p ∷ q ∷ r ∷ []) → t < n → p < n → q < n → r < n →
      T (spread g t q r) → T (spread g p t r) → T (spread g p q t) → T (spread g p q r)
  interior_sorted n t p q r fours s ht hp hq hr =
      let at : (z : ℕ) → Mem z (t ∷ p ∷ q ∷ r ∷ []) → Placed z s.list = λ z m. placed z s.list (s.into z m) in
      interior_in g s.list s.rising
      (at t (inl refl)) (at p (inr (inl refl))) (at q (inr (inr (inl refl)))) (at r (inr (inr (inr (inl refl)))))
      (rw s.long (fours s.list s.rising (λ z m. let k = s.from z m in omega arith) s.long))

  pub interior_by : (n : ℕ) → Fours g n → Interior n (spread g)
  interior_by n fours t p q r ht hp hq hr tqr ptr pqt =
      let a : Apart t q r = apart (distinct g t q r tqr) in
      let b : Apart p t r = apart (distinct g p t r ptr) in
      let c : Apart p q t = apart (distinct g p q t pqt) in
      interior_sorted n t p q r fours
      (sort (t ∷ p ∷ q ∷ r ∷ [])
      ((c.r≢p, (a.p≢q, (b.q≢r, tt))), ((c.p≢q, ((λ e. b.r≢p (sym e)), tt)), ((a.q≢r, tt), (tt, tt)))))
      ht hp hq hr tqr ptr pqt

  transitive_sorted : (n t s p q r : ℕ) → Fives g n → Sorted (t ∷ s ∷ p ∷ q ∷ r ∷ []) → t < n → s < n → p < n → q < n → r < n →
      T (spread g t s p) → T (spread g t s q) → T (spread g t s r) → T (spread g t p q) → T (spread g t q r) → T (spread g t p r)
  transitive_sorted n t s p q r fives o ht hs hp hq hr =
      let at : (z : ℕ) → Mem z (t ∷ s ∷ p ∷ q ∷ r ∷ []) → Placed z o.list = λ z m. placed z o.list (o.into z m) in
      transitive_in g o.list o.rising
      (at t (inl refl)) (at s (inr (inl refl))) (at p (inr (inr (inl refl)))) (at q (inr (inr (inr (inl refl))))) (at r (inr (inr (inr (inr (inl refl))))))
      (rw o.long (fives o.list o.rising (λ z m. let k = o.from z m in omega arith) o.long))

  pub transitive_by : (n : ℕ) → Fives g n → Transitive n (spread g)
  transitive_by n fives t s p q r ht hs hp hq hr tsp tsq tsr tpq tqr =
      let a : Apart t s p = apart (distinct g t s p tsp) in
      let b : Apart t s q = apart (distinct g t s q tsq) in
      let c : Apart t s r = apart (distinct g t s r tsr) in
      let d : Apart t p q = apart (distinct g t p q tpq) in
      let e : Apart t q r = apart (distinct g t q r tqr) in
      let f : p ≢ r = λ same. opposite t p q tpq (subst (λ k. T (spread g t q k)) (sym same) tqr) in
      transitive_sorted n t s p q r fives
      (sort (t ∷ s ∷ p ∷ q ∷ r ∷ []) (
        (a.p≢q, (d.p≢q, (e.p≢q, ((λ x. c.r≢p (sym x)), tt)))),
        ((a.q≢r, (b.q≢r, (c.q≢r, tt))), ((d.q≢r, (f, tt)), ((e.q≢r, tt), (tt, tt)))),
      ))
      ht hs hp hq hr tsp tsq tsr tpq tqr

  pub left_of : {n p q r : ℕ} → p < n → q < n → r < n → T (spread g p q r) → Left (system n g) p q r
  left_of {n} {p} {q} {r} hp hq hr t =
      let a : Apart p q r = apart (distinct g p q r t) in
      record { three = record { p_in = hp; q_in = hq; r_in = hr; p≢q = a.p≢q; q≢r = a.q≢r; r≢p = a.r≢p }; turns = t }

  either : {n p q r : ℕ} → Three n p q r → (b : Bool) → spread g p q r ≡ b → Left (system n g) p q r ⊎ Left (system n g) p r q
  either h true e = inl (left_of h.p_in h.q_in h.r_in (subst T (sym e) tt))
  either {n} {p} {q} {r} h false e =
      inr (left_of h.p_in h.r_in h.q_in
      (subst T (sym (swapped g (orders p q r h.p≢q h.q≢r h.r≢p) ∙ ap not e)) tt))

  -- the five laws of a spread, from laws 4 and 5 of its rising fours and fives
  pub lawful_by : (n : ℕ) → n ≤ 128 → Interior n (spread g) → Transitive n (spread g) → Lawful (system n g)
  lawful_by n limit fourth fifth = record {
    limit = limit;
    cyclic = λ {p} {q} {r} l. left_of l.three.q_in l.three.r_in l.three.p_in (subst T (cycled g (distinct g p q r l.turns)) l.turns);
    antisymmetric = λ {p} {q} {r} l m. opposite p q r l.turns m.turns;
    nondegenerate = λ h. either h _ refl;
    interior = λ {t} {p} {q} {r} a b c. left_of c.three.p_in c.three.q_in b.three.r_in
        (fourth t p q r a.three.p_in c.three.p_in c.three.q_in b.three.r_in a.turns b.turns c.turns);
    transitive = λ {t} {s} {p} {q} {r} a b c d e. left_of a.three.p_in a.three.r_in c.three.r_in
        (fifth t s p q r a.three.p_in a.three.q_in a.three.r_in b.three.r_in c.three.r_in
        a.turns b.turns c.turns d.turns e.turns);
  }
