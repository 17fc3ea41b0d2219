-- The triples of a table's lines are all triples of its marks, in rising order.
use Rattle.std.proofs.Common.{◌≡◌, ℕ, zero, suc, ◌+◌, ◌-◌, ◌<◌, ◌≤◌, Bool, true, false, cond, ◌&&◌, eqb, ltb, ◌⊎◌, sym, refl, ap, ◌∙◌, subst, inl, inr, ⊎_elim, arith, ltb-false, ltb-true, eqb-true}
use borrow.Author.Tests.{clash}
use Rattle.std.proofs.str.Laws.{order}
use Rattle.sheet.specs.Sheets.{due}
use Rattle.sheet.specs.Theorems.{AllTriples, Below, Before, Listed}
use Rattle.sheet.specs.Triples.{after, triple_at}
use Rattle.sheet.specs.declared.Kind.TheVariants.{Table}
use Rattle.sheet.specs.declared.spots.Triple.{Triple}

-- a triple whose marks do not exceed those of u, in the order in which triples are compared, is u or comes before it
same_or_before : (t u : Triple) → t.i ≤ u.i → (t.i ≡ u.i → t.j ≤ u.j) → (t.i ≡ u.i → t.j ≡ u.j → t.k ≤ u.k) → (t ≡ u) ⊎ Before t u
same_or_before t u hi hj hk =
    ⊎_elim (λ lt. inr (inl lt)) (λ ge.
    let ei : t.i ≡ u.i = omega arith in
    let hj' = hj ei in
    ⊎_elim (λ lt. inr (inr (ei, inl lt))) (λ ge'.
    let ej : t.j ≡ u.j = omega arith in
    let hk' = hk ei ej in
    ⊎_elim (λ lt. inr (inr (ei, inr (ej, lt)))) (λ ge''.
    let ek : t.k ≡ u.k = omega arith in
    inl (λ x. record { i = ei x; j = ej x; k = ek x }))
    (order t.k u.k))
    (order t.j u.j))
    (order t.i u.i)

Next : ℕ → Triple → Triple → Triple → Type 0
Next n t u s = Below n s × Before t s × ((s ≡ u) ⊎ Before s u)

module _ (n : ℕ) (t u : Triple) (bt : Below n t) (bu : Below n u) (less : Before t u) where
  up_k : t.k + 1 < n → Next n t u (record { i = t.i; j = t.j; k = t.k + 1 })
  unfolding Next
  up_k h =
      let ij = bt.ij in
      let jk = bt.jk in (
        record { ij = ij; jk = omega arith; kn = h },
        inr (refl, inr (refl, omega arith)),
        same_or_before _ u
            (⊎_elim (λ lt. omega arith) (λ e. omega (arith, e.0)) less)
            (λ ei. ⊎_elim (λ lt. omega arith) (λ e. ⊎_elim (λ lt. omega arith) (λ f. omega (arith, f.0)) e.1) less)
            (λ ei ej. ⊎_elim (λ lt. absurd (omega arith)) (λ e. ⊎_elim (λ lt. absurd (omega arith)) (λ f. omega (arith, f.1)) e.1) less),
      )

  up_j : n ≤ t.k + 1 → t.j + 2 < n → Next n t u (record { i = t.i; j = t.j + 1; k = t.j + 2 })
  unfolding Next
  up_j full h =
      let ij = bt.ij in
      let jk = bu.jk in
      let kn = bu.kn in (
        record { ij = omega arith; jk = omega arith; kn = h },
        inr (refl, inl (omega arith)),
        same_or_before _ u
            (⊎_elim (λ lt. omega arith) (λ e. omega (arith, e.0)) less)
            (λ ei. ⊎_elim (λ lt. absurd (omega arith)) (λ e. ⊎_elim (λ lt. omega arith) (λ f. absurd (omega (arith, f.1))) e.1) less)
            (λ ei ej. omega arith),
      )

  up_i : n ≤ t.k + 1 → n ≤ t.j + 2 → Next n t u (record { i = t.i + 1; j = t.i + 2; k = t.i + 3 })
  unfolding Next
  up_i full full' =
      let ij = bu.ij in
      let jk = bu.jk in
      let kn = bu.kn in
      let over : t.i < u.i = ⊎_elim (λ lt. lt) (λ e. ⊎_elim (λ lt. absurd (omega arith)) (λ f. absurd (omega (arith, f.1))) e.1) less in (
        record { ij = omega arith; jk = omega arith; kn = omega arith },
        inl (omega arith),
        same_or_before _ u (omega arith) (λ ei. omega arith) (λ ei ej. omega arith),
      )

  next : Next n t u (after n t)
  next = go (ltb (t.k + 1) n) (ltb (t.j + 2) n) refl refl
    where
      go : (a b : Bool) → ltb (t.k + 1) n ≡ a → ltb (t.j + 2) n ≡ b → Next n t u (cond a (record { i = t.i; j = t.j; k = t.k + 1 }) (cond b (record { i = t.i; j = t.j + 1; k = t.j + 2 }) (record { i = t.i + 1; j = t.i + 2; k = t.i + 3 })))
      go true b ea eb = up_k (ltb-true _ _ ea)
      go false true ea eb = up_j (ltb-false _ _ ea) (ltb-true _ _ eb)
      go false false ea eb = up_i (ltb-false _ _ ea) (ltb-false _ _ eb)

same_triple : {t u : Triple} → t.i ≡ u.i → t.j ≡ u.j → t.k ≡ u.k → t ≡ u
same_triple i j k = λ x. record { i = i x; j = j x; k = k x }

-- a table's last line has the last triple: a test of this, computed for 3 to 24 marks
is_last : ℕ → Bool
is_last m =
    let t = triple_at (m + 3) (due Table (m + 3) - 1) in
    eqb t.i m && (eqb t.j (m + 1) && eqb t.k (m + 2))

all_under : (p : ℕ → Bool) → ℕ → Bool
all_under p zero = true
all_under p (suc m) = p m && all_under p m

and_left : (a b : Bool) → (a && b) ≡ true → a ≡ true
and_left true b e = refl
and_left false b e = absurd (clash e)

and_right : (a b : Bool) → (a && b) ≡ true → b ≡ true
and_right true b e = e
and_right false b e = absurd (clash e)

at_under : (p : ℕ → Bool) (m : ℕ) → all_under p m ≡ true → (n : ℕ) → n < m → p n ≡ true
unfolding all_under
at_under p zero e n h = absurd (omega arith)
at_under p (suc m) e n h =
    ⊎_elim (λ lt. at_under p m (and_right (p m) (all_under p m) e) n lt) (λ ge. let same : m ≡ n = omega arith in ap p (sym same) ∙ and_left (p m) (all_under p m) e) (order n m)

all_last : all_under is_last 22 ≡ true
unfolding all_under is_last
all_last = refl

last_at : (m : ℕ) → is_last m ≡ true → triple_at (m + 3) (due Table (m + 3) - 1) ≡ record { i = m; j = m + 1; k = m + 2 }
unfolding is_last
last_at m e =
    let t = triple_at (m + 3) (due Table (m + 3) - 1) in
    let more = and_right (eqb t.i m) (eqb t.j (m + 1) && eqb t.k (m + 2)) e in
    let i = eqb-true t.i m (and_left (eqb t.i m) (eqb t.j (m + 1) && eqb t.k (m + 2)) e) in
    let j = eqb-true t.j (m + 1) (and_left (eqb t.j (m + 1)) (eqb t.k (m + 2)) more) in
    let k = eqb-true t.k (m + 2) (and_right (eqb t.j (m + 1)) (eqb t.k (m + 2)) more) in
    λ x. record { i = i x; j = j x; k = k x }

last_is : (n : ℕ) → 3 ≤ n → n ≤ 24 → triple_at n (due Table n - 1) ≡ record { i = n - 3; j = n - 2; k = n - 1 }
last_is n h l =
    let m = n - 3 in
    let back : m + 3 ≡ n = omega arith in
    let e = last_at m (at_under is_last 22 all_last m (omega arith)) in
    subst (λ k. triple_at k (due Table k - 1) ≡ record { i = k - 3; j = k - 2; k = k - 1 }) back
    (e ∙ same_triple (omega arith) (omega arith) (omega arith))

-- what comes before a triple comes before those after it too
before_on : (t u v : Triple) → Before t u → Before u v → Before t v
before_on t u v p q =
    ⊎_elim
    (λ lt. inl (⊎_elim (λ lt'. omega arith) (λ e. omega (arith, e.0)) q))
    (λ e. ⊎_elim
    (λ lt. inl (omega (arith, e.0)))
    (λ e'. inr (
      e.0 ∙ e'.0,
      ⊎_elim
          (λ lt. inl (⊎_elim (λ lt'. omega arith) (λ f. omega (arith, f.0)) e'.1))
          (λ f. ⊎_elim (λ lt. inl (omega (arith, f.0))) (λ f'. inr (f.0 ∙ f'.0, omega (arith, f.1, f'.1))) e'.1)
          e.1,
    ))
    q)
    p

-- t has too great an i for a triple of the marks below n, and so has every triple after it
Past : ℕ → Triple → Type 0
Past n t = (t.i < t.j) × (t.j < t.k) × (n ≤ t.i + 2)

past_after : (n : ℕ) (t : Triple) → Past n t → Past n (after n t)
unfolding Past
past_after n t p = go (ltb (t.k + 1) n) (ltb (t.j + 2) n) refl refl
  where
    go : (a b : Bool) → ltb (t.k + 1) n ≡ a → ltb (t.j + 2) n ≡ b → Past n (cond a (record { i = t.i; j = t.j; k = t.k + 1 }) (cond b (record { i = t.i; j = t.j + 1; k = t.j + 2 }) (record { i = t.i + 1; j = t.i + 2; k = t.i + 3 })))
    go true b ea eb = absurd (omega (arith, ltb-true _ _ ea, p.0, p.1, p.2))
    go false true ea eb = absurd (omega (arith, ltb-true _ _ eb, p.0, p.1, p.2))
    go false false ea eb = (omega arith, omega arith, omega (arith, p.2))

past_on : (n at more : ℕ) → Past n (triple_at n at) → Past n (triple_at n (more + at))
past_on n at zero p = let e : at ≡ 0 + at = omega arith in subst (λ m. Past n (triple_at n m)) e p
past_on n at (suc more) p =
    let e : suc (more + at) ≡ suc more + at = omega arith in
    subst (λ m. Past n (triple_at n m)) e (past_after n (triple_at n (more + at)) (past_on n at more p))

module _ (n : ℕ) (some : 3 ≤ n) (few : n ≤ 24) where
  last : Triple
  last = record { i = n - 3; j = n - 2; k = n - 1 }

  last_below : Below n last
  unfolding last
  last_below = record { ij = omega arith; jk = omega arith; kn = omega arith }

  -- the last triple is the greatest
  up_to_last : (t : Triple) → Below n t → (t ≡ last) ⊎ Before t last
  unfolding last
  up_to_last t b =
      let ij = b.ij in
      let jk = b.jk in
      let kn = b.kn in
      same_or_before t last (omega arith) (λ ei. omega arith) (λ ei ej. omega arith)

  past_last : Past n (after n last)
  unfolding last Past
  past_last = go (ltb (last.k + 1) n) (ltb (last.j + 2) n) refl refl
    where
      go : (a b : Bool) → ltb (last.k + 1) n ≡ a → ltb (last.j + 2) n ≡ b → Past n (cond a (record { i = last.i; j = last.j; k = last.k + 1 }) (cond b (record { i = last.i; j = last.j + 1; k = last.j + 2 }) (record { i = last.i + 1; j = last.i + 2; k = last.i + 3 })))
      go true b ea eb = absurd (omega (arith, ltb-true _ _ ea))
      go false true ea eb = absurd (omega (arith, ltb-true _ _ eb))
      go false false ea eb = (omega arith, omega arith, omega arith)

  -- the last triple comes no sooner than at the last line
  not_yet : (at : ℕ) → suc at < due Table n → triple_at n at ≡ last → ⊥
  unfolding last Past
  not_yet at h e =
      let more = due Table n - 1 - suc at in
      let past = past_on n (suc at) more (subst (λ t. Past n (after n t)) (sym e) past_last) in
      let here : more + suc at ≡ due Table n - 1 = omega arith in
      let end = subst (Past n) (last_is n some few) (subst (λ m. Past n (triple_at n m)) here past) in
      omega (arith, end.2)

  -- from a line's triple to the next one
  step : (at : ℕ) → suc at < due Table n → Below n (triple_at n at) → Next n (triple_at n at) last (triple_at n (suc at))
  step at h b =
      ⊎_elim (λ e. absurd (not_yet at h e)) (λ lt. next n (triple_at n at) last b last_below lt) (up_to_last (triple_at n at) b)

  below_due : (at : ℕ) → at < due Table n → Below n (triple_at n at)
  unfolding Next
  below_due zero h = record { ij = omega arith; jk = omega arith; kn = omega arith }
  below_due (suc at) h = (step at h (below_due at (omega arith))).0

  rise : (at more : ℕ) → more + suc at < due Table n → Before (triple_at n at) (triple_at n (more + suc at))
  unfolding Next
  rise at zero h =
      let e : suc at ≡ 0 + suc at = omega arith in
      subst (λ m. Before (triple_at n at) (triple_at n m)) e (step at (omega arith) (below_due at (omega arith))).1
  rise at (suc more) h =
      let e : suc (more + suc at) ≡ suc more + suc at = omega arith in
      subst (λ m. Before (triple_at n at) (triple_at n m)) e
      (before_on _ (triple_at n (more + suc at)) _ (rise at more (omega arith)) (step (more + suc at) (omega arith) (below_due (more + suc at) (omega arith))).1)

  -- up to each line, a triple is found or still to come
  found : (u : Triple) → Below n u → (at : ℕ) → at < due Table n → ((here : ℕ) × (here < due Table n) × (triple_at n here ≡ u)) ⊎ Before (triple_at n at) u
  unfolding Next
  found u b zero h =
      let ij = b.ij in
      let jk = b.jk in
      ⊎_elim (λ e. inl (0, h, e)) (λ lt. inr lt) (same_or_before (triple_at n 0) u (omega arith) (λ ei. omega arith) (λ ei ej. omega arith))
  found u b (suc at) h =
      ⊎_elim (λ there. inl there)
      (λ lt. ⊎_elim (λ e. inl (suc at, h, e)) (λ lt'. inr lt') (next n (triple_at n at) u (below_due at (omega arith)) b lt).2)
      (found u b at (omega arith))

  none_after_last : (u : Triple) → Below n u → Before last u → ⊥
  unfolding last
  none_after_last u b lt =
      let ij = b.ij in
      let jk = b.jk in
      let kn = b.kn in
      ⊎_elim (λ l. omega arith) (λ e. ⊎_elim (λ l. omega (arith, e.0)) (λ f. omega (arith, e.0, f.0, f.1)) e.1) lt

  listed_some : 0 < due Table n → Listed n
  unfolding last
  listed_some h =
      record {
        below = below_due;
        rising = λ at later lt lt'.
            let e : (later - suc at) + suc at ≡ later = omega arith in
            subst (λ m. Before (triple_at n at) (triple_at n m)) e (rise at (later - suc at) (omega arith));
        all = λ u b.
            ⊎_elim (λ there. there)
            (λ lt. absurd (none_after_last u b (subst (λ t. Before t u) (last_is n some few) lt)))
            (found u b (due Table n - 1) (omega arith));
      }

-- a line is due where there are three marks or more, and none where there are fewer
is_due : ℕ → Bool
is_due m = ltb 0 (due Table (m + 3))

all_due : all_under is_due 22 ≡ true
unfolding all_under is_due
all_due = refl

some_due : (m : ℕ) → m < 22 → 0 < due Table (m + 3)
unfolding is_due
some_due m h = ltb-true 0 (due Table (m + 3)) (at_under is_due 22 all_due m h)

none_due : (n : ℕ) → n < 3 → Listed n
none_due zero h = record { below = λ at lt. absurd (omega arith); rising = λ at later lt lt'. absurd (omega arith); all = λ u b. absurd (omega (arith, b.kn)) }
none_due (suc zero) h =
    record { below = λ at lt. absurd (omega arith); rising = λ at later lt lt'. absurd (omega arith); all = λ u b. absurd (omega (arith, b.jk, b.kn)) }
none_due (suc (suc zero)) h =
    record { below = λ at lt. absurd (omega arith); rising = λ at later lt lt'. absurd (omega arith); all = λ u b. absurd (omega (arith, b.ij, b.jk, b.kn)) }
none_due (suc (suc (suc n))) h = absurd (omega arith)

pub all_triples : AllTriples
all_triples n few =
    ⊎_elim (none_due n)
    (λ some.
    let e : (n - 3) + 3 ≡ n = omega arith in
    listed_some n some few (subst (λ m. 0 < due Table m) e (some_due (n - 3) (omega arith))))
    (order n 3)
