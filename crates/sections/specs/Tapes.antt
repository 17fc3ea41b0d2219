-- The length of a tape around a ring of points, in twentieths of a millimetre. It is found in parts, of which 1,024 make one twentieth: so a
-- squared length in parts is 1,048,576 times the squared length.
use Rattle.std.specs.Prelude.{◌≡◌, ℕ, ◌+◌, ◌*◌, ◌/◌, ◌<◌, ◌≤◌, cond, List, length, ◌-ℤ◌, Ok, Err, sum, Result, nat_lt, slice_index, unsigned_abs}
use Rattle.cc.specs.declared.faults.Fault.{Fault}
use Rattle.cc.specs.declared.faults.Fault.TheVariants.{Outsize, Stranger}
use Rattle.models.specs.declared.places.Place.{Place}
use Rattle.laws.specs.First.{First, Never}
use Rattle.models.specs.Places.{place}

-- r is the greatest whole number whose square is at most d
pub record Root (d r : ℕ) : Type 0 where
  pub low : r * r ≤ d
  pub high : d < (r + 1) * (r + 1)

-- the square of the distance of two places
abbrev pub squared : Place → Place → ℕ
squared p q = unsigned_abs (q.x -ℤ p.x) * unsigned_abs (q.x -ℤ p.x) + unsigned_abs (q.y -ℤ p.y) * unsigned_abs (q.y -ℤ p.y)

-- the square of their distance in parts
abbrev pub squared_parts : Place → Place → ℕ
squared_parts p q = 1048576 * squared p q

-- the i-th entry of the ring
abbrev pub entry : List ℕ → ℕ → ℕ
entry ring i = slice_index ring i

-- the entry that follows the i-th on the ring: the first follows the last
abbrev pub follower : List ℕ → ℕ → ℕ
follower ring i = cond (nat_lt (i + 1) (length ring)) (entry ring (i + 1)) (entry ring 0)

-- the squared length, in parts, of the arc from the i-th entry of the ring to its follower
abbrev pub squared_arc : List Place → List ℕ → ℕ → ℕ
squared_arc ps ring i = squared_parts (place ps (entry ring i)) (place ps (follower ring i))

-- the length around the ring in parts: each arc's length, rounded down to whole parts, all of these added
pub record Parts (ps : List Place) (ring : List ℕ) (total : ℕ) : Type 0 where
  pub parts : List ℕ
  pub one_each : length parts ≡ length ring
  pub roots : (i : ℕ) → i < length ring → Root (squared_arc ps ring i) (entry parts i)
  pub adds : total ≡ sum parts

-- the tape's length: the length around the ring in parts, rounded to whole twentieths, half a one up
pub record Taped (ps : List Place) (ring : List ℕ) (total : ℕ) : Type 0 where
  pub parts : ℕ
  pub around : Parts ps ring parts
  pub rounded : total ≡ (parts + 512) / 1024

-- n is greater than the exact length around the ring in parts, which need not be whole: there are fractions, one for each arc, that are at
-- least as long as their arcs (so that their squares are at least the arcs' squared lengths), and that add to less than n
pub record Exceeds (ps : List Place) (ring : List ℕ) (n : ℕ) : Type 0 where
  pub denominator : ℕ
  pub numerators : List ℕ
  pub above_zero : 0 < denominator
  pub one_each : length numerators ≡ length ring
  pub as_long : (i : ℕ) → i < length ring → denominator * denominator * squared_arc ps ring i ≤ entry numerators i * entry numerators i
  pub less : sum numerators < denominator * n

-- the parts are not greater than the exact length, and from one arc on they fall short of it by less than the number of arcs
abbrev pub ShortByLessThanArcs : Type 0
ShortByLessThanArcs =
    (ps : List Place) (ring : List ℕ) (total : ℕ) → Parts ps ring total
    → (Exceeds ps ring total → ⊥) × (0 < length ring → Exceeds ps ring (total + length ring))

-- the i-th entry is no mark
abbrev pub Strange : List Place → List ℕ → ℕ → Type 0
Strange ps ring i = length ps ≤ entry ring i

-- a ring has an entry that is no mark, and the fault names the first such entry
pub record FirstStranger (ps : List Place) (ring : List ℕ) (f : Fault) : Type 0 where
  pub at : ℕ
  pub first : First (length ring) (Strange ps ring) at
  pub told : f ≡ Stranger (entry ring at)

-- why a ring is not measured: it has more than 128 entries, or else one that is no mark
pub record TapeRefused (ps : List Place) (ring : List ℕ) (f : Fault) : Type 0 where
  pub long : 128 < length ring → f ≡ Outsize 128
  pub strange : length ring ≤ 128 → FirstStranger ps ring f

-- a ring is measured: it has at most 128 entries, all are marks, and the total is the length of its tape
pub record TapeMeasured (ps : List Place) (ring : List ℕ) (total : ℕ) : Type 0 where
  pub few : length ring ≤ 128
  pub marks : Never (length ring) (Strange ps ring)
  pub taped : Taped ps ring total

-- what `tape` answers: the length, or why there is none
abbrev pub TapeAnswer : List Place → List ℕ → Result ℕ Fault → Type 0
TapeAnswer ps ring (Ok total) = TapeMeasured ps ring total
TapeAnswer ps ring (Err f) = TapeRefused ps ring f

-- the contract of `tape` leaves one answer
abbrev pub OneTapeAnswer : Type 0
OneTapeAnswer = (ps : List Place) (ring : List ℕ) (r s : Result ℕ Fault) → TapeAnswer ps ring r → TapeAnswer ps ring s → r ≡ s
