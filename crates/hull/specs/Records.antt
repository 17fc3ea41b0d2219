-- What the records say, and when they describe the hull of the marks that are in.
use Rattle.std.specs.Prelude.{◌≡◌, ℕ, ◌<◌, Bool, false, ◌&&◌, List, length, nat_lt, slice_index, slice_index_or, slice_set}
use Rattle.laws.specs.Systems.{Meaning}
use Rattle.laws.specs.Outlines.{Marks, Apart, Follows}
use Rattle.laws.specs.Theorems.{of}
use Rattle.runs.specs.Calls.{RingOf}
use Rattle.hull.specs.declared.records.Record.{Record}
use Rattle.hull.specs.Rings.{rotated}

-- the record of a mark that is not in
abbrev pub away : Record
away = record { is_in = false; before = 0; after = 0; position = 0 }

-- the record of mark p
abbrev pub at : List Record → ℕ → Record
at rs p = slice_index_or rs p away

-- whether mark p is in
abbrev pub held : List Record → ℕ → Bool
held rs p = (at rs p).is_in

-- whether mark p is flagged
abbrev pub flagged : List Bool → ℕ → Bool
flagged flags p = slice_index_or flags p false

-- whether p is a mark of s below n
abbrev pub below : (ℕ → Bool) → ℕ → ℕ → Bool
below s n p = s p && nat_lt p n

-- each mark of the ring is linked with its follower, and its record tells its position
pub record Linked (rs : List Record) (ring : List ℕ) : Type 0 where
  pub beside : (p q : ℕ) → Follows ring p q → ((at rs p).after ≡ q) × ((at rs q).before ≡ p)
  pub positions : (i : ℕ) → i < length ring → (at rs (slice_index ring i)).position ≡ i

-- the records and the ring are those of the marks that are in
pub record Sound (m : Meaning) (rs : List Record) (ring : List ℕ) : Type 0 where
  pub marks : Marks m (of (held rs))
  pub is_ring : RingOf m (held rs) ring
  pub links : Linked rs ring

-- the ring has no mark twice, which is said of it started at its second mark too, and each of its marks has a record
pub record Recorded (ring : List ℕ) : Type 0 where
  pub apart : Apart ring
  pub apart_next : Apart (rotated ring)
  pub small : (i : ℕ) → i < length ring → slice_index ring i < 128

-- the records with p at position i, and q as the mark after it
abbrev pub with_position : List Record → ℕ → ℕ → ℕ → List Record
with_position rs p i q = slice_set rs p (record { is_in = (at rs p).is_in; before = (at rs p).before; after = q; position = i })

-- the records with p as the mark before q
abbrev pub with_before : List Record → ℕ → ℕ → List Record
with_before rs q p = slice_set rs q (record { is_in = (at rs q).is_in; before = p; after = (at rs q).after; position = (at rs q).position })

-- the records with mark x in, or out
abbrev pub with_held : List Record → ℕ → Bool → List Record
with_held rs x b = slice_set rs x (record { is_in = b; before = (at rs x).before; after = (at rs x).after; position = (at rs x).position })
