-- Nested loops over the groups of k rising marks, one loop for each mark: each loop has passed the groups before the marks at which it and
-- the loops around it stand.
use Rattle.std.proofs.Common.{◌≡◌, ℕ, ◌+◌, ◌<◌, ◌≤◌, ◌⊎◌, List, [], ◌∷◌, ◌++◌, length, refl, sym, subst, ap₂, inl, inr, arith}
use native.Mathlib.Decide.{ℕ_discrete}
use Rattle.laws.specs.Systems.{Meaning}
use Rattle.models.specs.Rising.{Rising, Below, Before, Group, LawfulAmong, AllLawful}

before_none : (ys : List ℕ) → Before ys [] → ⊥
before_none [] h = h
before_none (y ∷ ys) h = h

-- a rising list before (xs, a, a + 1) is before (xs, a)
entered : (xs ys : List ℕ) (a : ℕ) → Rising ys → Before ys (xs ++ (a ∷ (a + 1) ∷ [])) → Before ys (xs ++ (a ∷ []))
entered [] [] a r h = absurd h
entered [] (y ∷ ys) a r (inl h) = inl h
entered [] (y ∷ []) a r (inr (e, h)) = absurd h
entered [] (y ∷ z ∷ ys) a r (inr (e, inl h)) = let k = r.0 z (inl refl) in absurd (omega arith)
entered [] (y ∷ z ∷ ys) a r (inr (e, inr (f, h))) = absurd (before_none ys h)
entered (x ∷ xs) [] a r h = absurd h
entered (x ∷ xs) (y ∷ ys) a r (inl h) = inl h
entered (x ∷ xs) (y ∷ ys) a r (inr (e, h)) = inr (e, entered xs ys a r.1 h)

-- a longer list of marks below n that is before (xs, a + 1) is before (xs, a, n)
done : (xs ys : List ℕ) (a n : ℕ) → length xs + 1 < length ys → Below n ys → Before ys (xs ++ ((a + 1) ∷ [])) → Before ys (xs ++ (a ∷ n ∷ []))
done xs [] a n long b h = absurd (omega arith)
done [] (y ∷ []) a n long b h = absurd (omega arith)
done [] (y ∷ z ∷ ys) a n long b (inl h) =
    elim (ℕ_discrete y a) [
      | yes e ↦ inr (e, inl (b z (inr (inl refl))))
      | no e ↦ inl (omega arith)
    ]
done [] (y ∷ z ∷ ys) a n long b (inr (e, h)) = absurd h
done (x ∷ xs) (y ∷ ys) a n long b (inl h) = inl h
done (x ∷ xs) (y ∷ ys) a n long b (inr (e, h)) = inr (e, done xs ys a n (omega arith) (λ z i. b z (inr i)) h)

-- a list as long as (xs, a) that is before (xs, a + 1) is before (xs, a), or is that list
next : (xs ys : List ℕ) (a : ℕ) → length ys ≡ length xs + 1 → Before ys (xs ++ ((a + 1) ∷ [])) → Before ys (xs ++ (a ∷ [])) ⊎ (ys ≡ xs ++ (a ∷ []))
next xs [] a long h = absurd (omega arith)
next [] (y ∷ z ∷ ys) a long h = absurd (omega arith)
next [] (y ∷ []) a long (inl h) =
    elim (ℕ_discrete y a) [
      | yes e ↦ inr (ap₂ ◌∷◌ e refl)
      | no e ↦ inl (inl (omega arith))
    ]
next [] (y ∷ []) a long (inr (e, h)) = absurd h
next (x ∷ xs) (y ∷ ys) a long (inl h) = inl (inl h)
next (x ∷ xs) (y ∷ ys) a long (inr (e, h)) =
    elim (next xs ys a (omega arith) h) [
      | inl b ↦ inl (inr (e, b))
      | inr f ↦ inr (ap₂ ◌∷◌ e f)
    ]

module _ (k : ℕ) (m : Meaning) where
  -- the groups before xs are lawful
  abbrev pub Passed : List ℕ → Type 0
  Passed xs = (ys : List ℕ) → Group k m.count ys → Before ys xs → LawfulAmong m ys

  pub begin : Passed (0 ∷ [])
  begin [] g h = absurd h
  begin (y ∷ ys) g (inl h) = absurd (omega arith)
  begin (y ∷ ys) g (inr (e, h)) = absurd (before_none ys h)

  pub enter : (xs : List ℕ) (a : ℕ) → Passed (xs ++ (a ∷ [])) → Passed (xs ++ (a ∷ (a + 1) ∷ []))
  enter xs a p ys g h = p ys g (entered xs ys a g.rising h)

  pub leave : (xs : List ℕ) (a n : ℕ) → length xs + 1 < k → m.count ≤ n → Passed (xs ++ (a ∷ n ∷ [])) → Passed (xs ++ ((a + 1) ∷ []))
  leave xs a n few all p ys g h = p ys g (done xs ys a n (omega (arith, g.long)) (λ z i. let b = g.below z i in omega arith) h)

  pub pass : (xs : List ℕ) (a : ℕ) → length xs + 1 ≡ k → Passed (xs ++ (a ∷ [])) → LawfulAmong m (xs ++ (a ∷ [])) → Passed (xs ++ ((a + 1) ∷ []))
  pass xs a long p law ys g h =
      elim (next xs ys a (omega (arith, g.long)) h) [
        | inl b ↦ p ys g b
        | inr e ↦ subst (LawfulAmong m) (sym e) law
      ]

  pub every : (n : ℕ) → 0 < k → m.count ≤ n → Passed (n ∷ []) → AllLawful k m
  every n some all p [] g = absurd (omega (arith, g.long))
  every n some all p (y ∷ ys) g = p (y ∷ ys) g (inl (let b = g.below y (inl refl) in omega arith))
