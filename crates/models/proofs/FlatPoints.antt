-- Flat points keep the laws: they turn by the signs of the determinants of lifted places, and none of these is 0.
use Rattle.std.proofs.Common.{◌≡◌, ℕ, zero, suc, ◌+◌, ◌*◌, ◌<◌, ◌≤◌, Bool, true, false, cond, ◌&&◌, ◌||◌, T, ◌≢◌, ◌⊎◌, List, [], ◌∷◌, length, ℤ, pos, negsuc, ◌+ℤ◌, ◌-ℤ◌, ◌*ℤ◌, neg_ℤ, nat_abs, sym, refl, ap, ◌∙◌, subst, inl, inr, ⊎_elim, mul-le-mul, mul-pos, arith, lit≤}
use native.Mathlib.Decide.{dec_lt}
use mathlib.Core.Logic.{∥∥₁_elim}
use mathlib.Core.HLevel.{Π_prop, ¬_prop}
use native.Mathlib.Bridge.{le_prop}
use Rattle.std.specs.Prelude.{int_lt}
use Rattle.std.specs.Ordering.{int_eq}
use Rattle.std.proofs.lemmas.Int.{unsigned_abs-mul, by_lt_z}
use Rattle.std.proofs.lemmas.List.{get_or_past}
use Rattle.std.specs.Int.Signed.{lt_z_yes}
use lib.Signed.{◌<ℤ◌}
use Rattle.std.proofs.lemmas.Bool.Decides.{Decides-int_eq}
use borrow.Author.Differences.{ints}
use Rattle.laws.specs.Systems.{Three, Lawful}
use Rattle.laws.proofs.Names.{both, and}
use Rattle.models.specs.declared.places.Place.{Place}
use Rattle.models.specs.Determinants.{Row, det, positive, Positive, by_sign, GeneralPosition}
use Rattle.models.specs.Places.{Near, near-prop, before, place, cross}
use Rattle.models.specs.FlatPoints.{in_cyclic_order, turns_left, flat_points, Distinct, distinct-prop, FlatPointsKeepTheLaws, FlatPointsAgree}
use Rattle.models.proofs.Polynomials.{Expr, var, con, neg, ◌⊕◌, ◌⊝◌, ◌⊗◌, at, solve}
use Rattle.models.proofs.Plane.{bent}
use Rattle.models.proofs.Signs.{Line, determinant, positive_product, positive_or, not_both_positive, all_apart, lawful_by_sign}

-- two tests, each of which passes where the other does
same_test : (a b : Bool) → (T a → T b) → (T b → T a) → a ≡ b
same_test true true f g = refl
same_test true false f g = absurd (f tt)
same_test false true f g = absurd (g tt)
same_test false false f g = refl

is_true : (b : Bool) → T b → b ≡ true
is_true true t = refl
is_true false t = absurd t

-- ---- three numbers in cyclic order, by the sign of the product of their differences

abbrev spread : ℤ → ℤ → ℤ → ℤ
spread a b c = (b -ℤ a) *ℤ (c -ℤ a) *ℤ (c -ℤ b)

spread_cycle : (a b c : ℤ) → spread a b c ≡ spread b c a
spread_cycle a b c =
    solve (at (a ∷ b ∷ c ∷ []))
    ((var 1 ⊝ var 0) ⊗ (var 2 ⊝ var 0) ⊗ (var 2 ⊝ var 1))
    ((var 2 ⊝ var 1) ⊗ (var 0 ⊝ var 1) ⊗ (var 0 ⊝ var 2)) tt

spread_swap : (a b c : ℤ) → spread a c b ≡ neg_ℤ (spread a b c)
spread_swap a b c =
    solve (at (a ∷ b ∷ c ∷ []))
    ((var 2 ⊝ var 0) ⊗ (var 1 ⊝ var 0) ⊗ (var 1 ⊝ var 2))
    (neg ((var 1 ⊝ var 0) ⊗ (var 2 ⊝ var 0) ⊗ (var 2 ⊝ var 1))) tt

-- a lies below b
abbrev Under : ℤ → ℤ → Type 0
Under a b = Positive (b -ℤ a)

under_trans : (a b c : ℤ) → Under a b → Under b c → Under a c
under_trans a b c h k = grind (arith, ints)

rises : (a b c : ℤ) → Under a b → Under b c → Positive (spread a b c)
rises a b c h k =
    positive_product ((b -ℤ a) *ℤ (c -ℤ a)) (c -ℤ b) (positive_product (b -ℤ a) (c -ℤ a) h (under_trans a b c h k)) k

either : (a b : ℤ) → b -ℤ a ≢ pos 0 → Under a b ⊎ Under b a
either a b h = elim (positive_or (b -ℤ a) h) [ inl k ↦ inl k | inr k ↦ inr (subst Positive (solve (at (a ∷ b ∷ [])) (neg (var 1 ⊝ var 0)) (var 0 ⊝ var 1) tt) k) ]

no_factor : (x y z : ℤ) → Positive (x *ℤ y *ℤ z) → (x ≢ pos 0) × (y ≢ pos 0) × (z ≢ pos 0)
no_factor x y z h = (
  λ e. subst Positive (ap (λ d. d *ℤ y *ℤ z) e ∙ solve (at (y ∷ z ∷ [])) (con (pos 0) ⊗ var 0 ⊗ var 1) (con (pos 0)) tt) h,
  λ e. subst Positive (ap (λ d. x *ℤ d *ℤ z) e ∙ solve (at (x ∷ z ∷ [])) (var 0 ⊗ con (pos 0) ⊗ var 1) (con (pos 0)) tt) h,
  λ e. subst Positive (ap (λ d. x *ℤ y *ℤ d) e ∙ solve (at (x ∷ y ∷ [])) (var 0 ⊗ var 1 ⊗ con (pos 0)) (con (pos 0)) tt) h,
)

-- whether three numbers rise
abbrev rising : ℤ → ℤ → ℤ → Bool
rising a b c = positive (b -ℤ a) && positive (c -ℤ b)

or_left : (a b : Bool) → T a → T (a || b)
or_left true b t = tt
or_left false b t = absurd t

or_right : (a b : Bool) → T b → T (a || b)
or_right true b t = tt
or_right false b t = t

of_or : (a b : Bool) → T (a || b) → T a ⊎ T b
of_or true b t = inl tt
of_or false b t = inr t

-- the product is above 0 where three numbers rise, or a cyclic shift of them does
cyclic_is : (a b c : ℤ) → (rising a b c || rising b c a || rising c a b) ≡ positive (spread a b c)
cyclic_is a b c = same_test (rising a b c || rising b c a || rising c a b) (positive (spread a b c)) there back
  where
    from : (x y z : ℤ) → T (rising x y z) → Positive (spread x y z)
    from x y z h = let k = both (positive (y -ℤ x)) (positive (z -ℤ y)) h in rises x y z k.0 k.1

    there : T (rising a b c || rising b c a || rising c a b) → Positive (spread a b c)
    there h =
        ⊎_elim
        (λ k. ⊎_elim (from a b c) (λ l. subst Positive (sym (spread_cycle a b c)) (from b c a l)) (of_or (rising a b c) (rising b c a) k))
        (λ k. subst Positive (spread_cycle c a b) (from c a b k))
        (of_or (rising a b c || rising b c a) (rising c a b) h)

    odd : (x y z : ℤ) → Positive (spread x y z) → Under x z → Under z y → ⊥
    odd x y z h k l = not_both_positive (spread x y z) h (subst Positive (spread_swap x y z) (rises x z y k l))

    first : Under a b → Under b c → T (rising a b c || rising b c a || rising c a b)
    first h k = or_left (rising a b c || rising b c a) _ (or_left (rising a b c) _ (and (positive (b -ℤ a)) _ h k))

    second : Under b c → Under c a → T (rising a b c || rising b c a || rising c a b)
    second h k = or_left (rising a b c || rising b c a) _ (or_right (rising a b c) _ (and (positive (c -ℤ b)) _ h k))

    third : Under c a → Under a b → T (rising a b c || rising b c a || rising c a b)
    third h k = or_right (rising a b c || rising b c a) _ (and (positive (a -ℤ c)) _ h k)

    back : Positive (spread a b c) → T (rising a b c || rising b c a || rising c a b)
    back h =
        let n = no_factor (b -ℤ a) (c -ℤ a) (c -ℤ b) h in
        elim (either a b n.0) [
          | inl ab ↦ elim (either b c n.2) [
            | inl bc ↦ first ab bc
            | inr cb ↦ elim (either a c n.1) [
              | inl ac ↦ absurd (odd a b c h ac cb)
              | inr ca ↦ third ca ab
            ]
          ]
          | inr ba ↦ elim (either b c n.2) [
            | inl bc ↦ elim (either a c n.1) [
              | inl ac ↦ absurd (odd b c a (subst Positive (spread_cycle a b c) h) ba ac)
              | inr ca ↦ second bc ca
            ]
            | inr cb ↦ absurd (odd c a b (subst Positive (sym (spread_cycle c a b)) h) cb ba)
          ]
        ]

-- ---- lifted places

-- more than two coordinates differ by
abbrev wide : ℕ
wide = 20001

-- more than the spread of the numbers of any three places
abbrev lift : ℕ
lift = 100000000000000000000000000

abbrev much : ℕ
much = lift * wide

-- the number of a place; the numbers of places rise as the places do in their order
abbrev number : Place → ℤ
number p = pos wide *ℤ p.x +ℤ p.y

-- a place lifted: its number for x, and for y a great multiple of its y and the square of its number. Of three lifted places cross is a great
-- multiple of what it was, and the spread of the three numbers beside it
abbrev lifted : Place → Row
lifted p = record { a = number p; b = pos lift *ℤ p.y +ℤ number p *ℤ number p; w = pos 1 }

-- the spread of the numbers of three places
abbrev three : Place → Place → Place → ℤ
three p q r = spread (number p) (number q) (number r)

lifted_is : (p q r : Place) → det (lifted p) (lifted q) (lifted r) ≡ pos much *ℤ cross p q r +ℤ three p q r
unfolding det
lifted_is p q r =
    let n : ℕ → Expr = λ i. con (pos wide) ⊗ var (2 * i) ⊕ var (2 * i + 1) in
    let line : ℕ → Line = λ i. record { a = n i; b = con (pos lift) ⊗ var (2 * i + 1) ⊕ n i ⊗ n i; w = con (pos 1) } in
    solve (at (p.x ∷ p.y ∷ q.x ∷ q.y ∷ r.x ∷ r.y ∷ []))
    (determinant (line 0) (line 1) (line 2))
    (con (pos much) ⊗ ((var 2 ⊝ var 0) ⊗ (var 5 ⊝ var 1) ⊝ (var 3 ⊝ var 1) ⊗ (var 4 ⊝ var 0))
    ⊕ (n 1 ⊝ n 0) ⊗ (n 2 ⊝ n 0) ⊗ (n 2 ⊝ n 1)) tt

-- the order of two places (a, b) and (c, d) is that of their numbers
module _ (a b c d : ℤ) (ha : nat_abs a ≤ 10000) (hb : nat_abs b ≤ 10000) (hc : nat_abs c ≤ 10000) (hd : nat_abs d ≤ 10000) where
  farther : a <ℤ c → Positive (pos wide *ℤ c +ℤ d -ℤ (pos wide *ℤ a +ℤ b))
  farther h = let l : pos 0 <ℤ (pos wide *ℤ c +ℤ d -ℤ (pos wide *ℤ a +ℤ b)) = omega (arith, ints) in l.lt

  nearer : c <ℤ a → Positive (pos wide *ℤ c +ℤ d -ℤ (pos wide *ℤ a +ℤ b)) → ⊥
  nearer h k = let l : pos 0 <ℤ (pos wide *ℤ c +ℤ d -ℤ (pos wide *ℤ a +ℤ b)) = lt_z_yes k in omega (arith, ints)

  higher : a ≡ c → T (int_lt b d) → Positive (pos wide *ℤ c +ℤ d -ℤ (pos wide *ℤ a +ℤ b))
  higher e h = grind (arith, ints)

  as_high : a ≡ c → Positive (pos wide *ℤ c +ℤ d -ℤ (pos wide *ℤ a +ℤ b)) → T (int_lt b d)
  as_high e h = grind (arith, ints)

  order_is : (int_lt a c || int_eq a c && int_lt b d) ≡ positive (pos wide *ℤ c +ℤ d -ℤ (pos wide *ℤ a +ℤ b))
  order_is = same_test (int_lt a c || int_eq a c && int_lt b d) (positive (pos wide *ℤ c +ℤ d -ℤ (pos wide *ℤ a +ℤ b))) there back
    where
      there : T (int_lt a c || int_eq a c && int_lt b d) → Positive (pos wide *ℤ c +ℤ d -ℤ (pos wide *ℤ a +ℤ b))
      there h =
          ⊎_elim (λ k. farther (lt_z_yes k))
          (λ k. let l = both (int_eq a c) (int_lt b d) k in higher ((Decides-int_eq a c).0 (is_true (int_eq a c) l.0)) l.1)
          (of_or (int_lt a c) _ h)

      back : Positive (pos wide *ℤ c +ℤ d -ℤ (pos wide *ℤ a +ℤ b)) → T (int_lt a c || int_eq a c && int_lt b d)
      back h =
          by_lt_z a c
          (λ k. or_left (int_lt a c) _ k.lt)
          (λ k. by_lt_z c a
          (λ l. absurd (nearer l h))
          (λ l. let e : a ≡ c = omega (arith, ints) in
          or_right (int_lt a c) _ (and (int_eq a c) (int_lt b d) (subst T (sym ((Decides-int_eq a c).1 e)) tt) (as_high e h))))

  same_number : pos wide *ℤ a +ℤ b ≡ pos wide *ℤ c +ℤ d → (a ≡ c) × (b ≡ d)
  same_number e = (omega (arith, ints), omega (arith, ints))

  close : nat_abs (pos wide *ℤ c +ℤ d -ℤ (pos wide *ℤ a +ℤ b)) ≤ 400040000
  close = omega (arith, ints)

module _ (p q : Place) (h : Near p) (k : Near q) where
  before_is : before p q ≡ positive (number q -ℤ number p)
  before_is = order_is p.x p.y q.x q.y h.x_near h.y_near k.x_near k.y_near

  close_by : nat_abs (number q -ℤ number p) ≤ 400040000
  close_by = close p.x p.y q.x q.y h.x_near h.y_near k.x_near k.y_near

  number_apart : p ≢ q → number q -ℤ number p ≢ pos 0
  number_apart n e = n (λ i. record { x = s.0 i; y = s.1 i })
    where
      s : (p.x ≡ q.x) × (p.y ≡ q.y)
      s = same_number p.x p.y q.x q.y h.x_near h.y_near k.x_near k.y_near (omega (arith, ints))

-- a product of numbers that are not 0 is not 0
product_apart : (x y : ℤ) → x ≢ pos 0 → y ≢ pos 0 → x *ℤ y ≢ pos 0
product_apart x y h k e =
    let l = mul-pos (above x h) (above y k) in
    omega (arith, l, ap nat_abs e, unsigned_abs-mul x y)
  where
    above : (z : ℤ) → z ≢ pos 0 → 0 < nat_abs z
    above (pos zero) n = absurd (n refl)
    above (pos (suc m)) n = omega arith
    above (negsuc m) n = omega arith

module _ (p q r : Place) (hp : Near p) (hq : Near q) (hr : Near r) where
  three_small : nat_abs (three p q r) < much
  three_small =
      let u = number q -ℤ number p in let v = number r -ℤ number p in let w = number r -ℤ number q in
      rw (unsigned_abs-mul (u *ℤ v) w, unsigned_abs-mul u v)
      (below (mul-le-mul (mul-le-mul (close_by p q hp hq) (close_by p r hp hr)) (close_by q r hq hr)))
    where
      below : {n : ℕ} → n ≤ 400040000 * 400040000 * 400040000 → n < much
      below h = omega arith

  in_cyclic_order_is : in_cyclic_order p q r ≡ positive (three p q r)
  in_cyclic_order_is =
      let pq = before_is p q hp hq in let qr = before_is q r hq hr in let rp = before_is r p hr hp in
      (λ i. pq i && qr i || qr i && rp i || rp i && pq i) ∙ cyclic_is (number p) (number q) (number r)

  three_apart : p ≢ q → q ≢ r → r ≢ p → three p q r ≢ pos 0
  three_apart a b c =
      product_apart ((number q -ℤ number p) *ℤ (number r -ℤ number p)) (number r -ℤ number q)
      (product_apart (number q -ℤ number p) (number r -ℤ number p) (number_apart p q hp hq a) (number_apart p r hp hr (λ e. c (sym e))))
      (number_apart q r hq hr b)

-- ---- the sign of a great multiple with a small rest: that of the multiple, or that of the rest where the multiple is 0

module _ (v : ℤ) (small : nat_abs v < much) where
  weighed_up : (d : ℤ) → Positive d → Positive (pos much *ℤ d +ℤ v)
  weighed_up d h = grind (arith, ints)

  weighed_down : (d : ℤ) → Positive (neg_ℤ d) → Positive (pos much *ℤ d +ℤ v) → ⊥
  weighed_down d h k = grind (arith, ints)

  weighed_none : (d : ℤ) → pos much *ℤ d +ℤ v ≡ pos 0 → (d ≡ pos 0) × (v ≡ pos 0)
  weighed_none d e = (omega (arith, ints), omega (arith, ints))

  weighed : (d : ℤ) (b : Bool) → b ≡ positive v → cond (int_eq d (pos 0)) b (positive d) ≡ positive (pos much *ℤ d +ℤ v)
  weighed d b e = by (int_eq d (pos 0)) (Decides-int_eq d (pos 0)).0 (Decides-int_eq d (pos 0)).1
    where
      none : d ≡ pos 0 → positive v ≡ positive (pos much *ℤ d +ℤ v)
      none z = let f : v ≡ pos much *ℤ d +ℤ v = omega (arith, ints) in ap positive f

      some : d ≢ pos 0 → positive d ≡ positive (pos much *ℤ d +ℤ v)
      some n =
          same_test (positive d) _ (weighed_up d)
          (λ k. elim (positive_or d n) [ inl l ↦ l | inr l ↦ absurd (weighed_down d l k) ])

      by : (t : Bool) → (t ≡ true → d ≡ pos 0) → (d ≡ pos 0 → t ≡ true) → cond t b (positive d) ≡ positive (pos much *ℤ d +ℤ v)
      by true f g = e ∙ none (f refl)
      by false f g = some (λ z. subst T (sym (g z)) tt)

turns_is : (p q r : Place) → Near p → Near q → Near r → turns_left p q r ≡ positive (det (lifted p) (lifted q) (lifted r))
turns_is p q r hp hq hr =
    weighed (three p q r) (three_small p q r hp hq hr) (cross p q r) (in_cyclic_order p q r) (in_cyclic_order_is p q r hp hq hr) ∙ ap positive (sym (lifted_is p q r))

-- ---- the laws

abbrev rows : List Place → ℕ → Row
rows ps i = lifted (place ps i)

module _ (ps : List Place) (d : Distinct ps) where
  -- past the end of the list stands (0, 0), which is in range too
  near : (i : ℕ) → Near (place ps i)
  near i = elim (dec_lt i (length ps)) [ yes h ↦ d.near i h | no h ↦ subst Near (sym (get_or_past ps i _ (omega arith))) (record { x_near = lit≤ tt; y_near = lit≤ tt }) ]

  flat_points_is : flat_points ps ≡ by_sign (length ps) (rows ps)
  flat_points_is t = record { count = length ps; left = λ p q r. turns_is (place ps p) (place ps q) (place ps r) (near p) (near q) (near r) t }

  rising_apart : (i j k : ℕ) → i < j → j < k → k < length ps → det (rows ps i) (rows ps j) (rows ps k) ≢ pos 0
  rising_apart i j k l m n e =
      let x = weighed_none (three (place ps i) (place ps j) (place ps k)) (three_small (place ps i) (place ps j) (place ps k) (near i) (near j) (near k))
      (cross (place ps i) (place ps j) (place ps k)) (sym (lifted_is (place ps i) (place ps j) (place ps k)) ∙ e) in
      three_apart (place ps i) (place ps j) (place ps k) (near i) (near j) (near k)
      (d.apart i (omega arith) j (omega arith) l)
      (d.apart j (omega arith) k n m)
      (λ f. d.apart i (omega arith) k n (omega arith) (sym f)) x.1

  general : GeneralPosition (length ps) (rows ps)
  general = record { limit = d.few; weights = λ i l. tt; apart = all_apart (length ps) (rows ps) rising_apart }

pub flat_points_keep_the_laws : FlatPointsKeepTheLaws
flat_points_keep_the_laws ps d = subst Lawful (sym (flat_points_is ps d)) (lawful_by_sign (length ps) (rows ps) (general ps d))

-- `Distinct` has one proof at most, so a truncated one serves
pub distinct : (ps : List Place) → ∥ Distinct ps ∥₁ → Distinct ps
distinct ps t =
    ∥∥₁_elim t
    (distinct-prop le_prop (Π_prop λ i. Π_prop λ _. near-prop le_prop le_prop) (Π_prop λ i. Π_prop λ _. Π_prop λ j. Π_prop λ _. Π_prop λ _. ¬_prop))
    (λ d. d)

pub lawful_flat_points : (ps : List Place) → ∥ Distinct ps ∥₁ → Lawful (flat_points ps)
lawful_flat_points ps t = flat_points_keep_the_laws ps (distinct ps t)

-- ---- where no three lie on a line

by_cross : (p q r : Place) → cross p q r ≢ pos 0 → turns_left p q r ≡ positive (cross p q r)
by_cross p q r n = by (int_eq (cross p q r) (pos 0)) (Decides-int_eq (cross p q r) (pos 0)).0
  where
    by : (t : Bool) → (t ≡ true → cross p q r ≡ pos 0) → cond t (in_cyclic_order p q r) (positive (cross p q r)) ≡ positive (cross p q r)
    by true f = absurd (n (f refl))
    by false f = refl

pub flat_points_agree : FlatPointsAgree
flat_points_agree ps g =
    record {
      count = refl;
      turns = λ p q r. (
        λ l. record { three = l.three; turns = subst T (same l.three) l.turns },
        λ l. record { three = l.three; turns = subst T (sym (same l.three)) l.turns },
      );
    }
  where
    same : {p q r : ℕ} → Three (length ps) p q r → turns_left (place ps p) (place ps q) (place ps r) ≡ positive (cross (place ps p) (place ps q) (place ps r))
    same {p} {q} {r} t = by_cross (place ps p) (place ps q) (place ps r) (bent ps g t)
