-- The steps of the determinants: each computed number is the one that the contract names, and small.
use Rattle.std.proofs.Common.{◌≤◌, ℤ, ◌+ℤ◌, ◌-ℤ◌, ◌*ℤ◌, nat_abs, w32, w64, to_z, of_z}
use Rattle.systems.specs.declared.offsets.Offset.{Offset}
use Rattle.systems.proofs.Bounded.{Is, exact, times, plus, minus, back}

-- the difference of two coordinates, as the code casts it
abbrev cast : ℤ → ℤ → ℤ
cast a b = to_z w64 (of_z w64 (to_z w32 (of_z w32 (to_z w32 (of_z w32 a) -ℤ to_z w32 (of_z w32 b)))))

pub along : (a b : ℤ) → nat_abs a ≤ 10000 → nat_abs b ≤ 10000 → Is 20000 (cast a b) (a -ℤ b)
along a b h k = back w64 (back w32 (minus (back w32 (exact a h) tt) (back w32 (exact b k) tt)) tt) tt

abbrev bits : ℤ → ℤ
bits z = to_z w64 (of_z w64 z)

pub a_of : (p : Offset) → Is 20000 (bits p.a) p.a
a_of p = back w64 (exact p.a p.a_short) tt

pub b_of : (p : Offset) → Is 20000 (bits p.b) p.b
b_of p = back w64 (exact p.b p.b_short) tt

pub minor_of : (p q : Offset)
    → Is 800000000 (bits (bits p.a *ℤ bits q.b) -ℤ bits (bits p.b *ℤ bits q.a)) (p.a *ℤ q.b -ℤ p.b *ℤ q.a)
minor_of p q = minus (back w64 (times (a_of p) (b_of q)) tt) (back w64 (times (b_of p) (a_of q)) tt)

-- the square of an offset's length
pub square_of : (o : Offset)
    → Is 800000000 (bits (bits o.a *ℤ bits o.a) +ℤ bits (bits o.b *ℤ bits o.b)) (o.a *ℤ o.a +ℤ o.b *ℤ o.b)
square_of o = plus (back w64 (times (a_of o) (a_of o)) tt) (back w64 (times (b_of o) (b_of o)) tt)

-- w times a minor m
pub weighted : (w m : ℤ) → nat_abs w ≤ 800000000 → nat_abs m ≤ 800000000 → Is 640000000000000000 (bits w *ℤ bits m) (w *ℤ m)
weighted w m h k = times (back w64 (exact w h) tt) (back w64 (exact m k) tt)

-- the first two of the three terms of a determinant, and all three
module _ (u v w k l m : ℤ) (hu : nat_abs u ≤ 800000000) (hv : nat_abs v ≤ 800000000) (hw : nat_abs w ≤ 800000000)
    (hk : nat_abs k ≤ 800000000) (hl : nat_abs l ≤ 800000000) (hm : nat_abs m ≤ 800000000) where
  pub two_terms : Is 1280000000000000000 (bits (bits u *ℤ bits k) -ℤ bits (bits v *ℤ bits l)) (u *ℤ k -ℤ v *ℤ l)
  two_terms = minus (back w64 (weighted u k hu hk) tt) (back w64 (weighted v l hv hl) tt)

  pub three_terms : Is 1920000000000000000 (bits (bits (bits u *ℤ bits k) -ℤ bits (bits v *ℤ bits l)) +ℤ bits (bits w *ℤ bits m)) (u *ℤ k -ℤ v *ℤ l +ℤ w *ℤ m)
  three_terms = plus (back w64 two_terms tt) (back w64 (weighted w m hw hm) tt)
