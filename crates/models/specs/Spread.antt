-- Systems that are given by the turns of their rising threes.
use Rattle.std.specs.Prelude.{ℕ, Bool, false, not}
use Prim.Native.Nat.{compare, Ordering}
use Rattle.laws.specs.Systems.{Meaning}

-- whether three marks turn left; the turns that a system is given by count for i < j < k only
abbrev pub Turns : Type 0
Turns = ℕ → ℕ → ℕ → Bool

-- whether p, q and r turn left, in any order, from what g says of rising ones and from how p and q, q and r, p and r compare:
-- a rotation of three marks keeps their turn, an exchange of two turns it round, and marks that are alike do not turn left
abbrev pub sift : Ordering → Ordering → Ordering → Turns → Turns
sift Ordering.lt Ordering.lt o g p q r = g p q r
sift Ordering.lt Ordering.eq o g p q r = false
sift Ordering.lt Ordering.gt Ordering.lt g p q r = not (g p r q)
sift Ordering.lt Ordering.gt Ordering.eq g p q r = false
sift Ordering.lt Ordering.gt Ordering.gt g p q r = g r p q
sift Ordering.eq o o' g p q r = false
sift Ordering.gt Ordering.lt Ordering.lt g p q r = not (g q p r)
sift Ordering.gt Ordering.lt Ordering.eq g p q r = false
sift Ordering.gt Ordering.lt Ordering.gt g p q r = g q r p
sift Ordering.gt Ordering.eq o g p q r = false
sift Ordering.gt Ordering.gt o g p q r = not (g r q p)

-- the turns of marks in any order, from those of rising ones
abbrev pub spread : Turns → Turns
spread g p q r = sift (compare p q) (compare q r) (compare p r) g p q r

-- the system of n marks whose rising threes turn as g says
abbrev pub system : ℕ → Turns → Meaning
system n g = record { count = n; left = spread g }
