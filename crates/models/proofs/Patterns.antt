-- A system given by its rising threes is lawful exactly where laws 4 and 5 hold among every four and every five of its marks,
-- and they hold among some marks exactly where the pattern of those marks is lawful.
use Rattle.std.proofs.Common.{◌≡◌, ℕ, ◌<◌, ◌≤◌, Bool, T, ◌↔◌, List, length, sym, subst, arith, lit≤}
use Rattle.laws.specs.Systems.{Left, Lawful}
use Rattle.models.specs.Spread.{Turns, spread, system}
use Rattle.models.specs.Threes.{table, table_turns, each_three, threes}
use Rattle.models.specs.Rising.{Rising, Below, Group, LawfulAmong, AllLawful}
use Rattle.models.specs.Catalogue.{bits, value, four, five, keeps4, keeps, lawful_four, lawful_five, at, through, pattern}
use Rattle.models.proofs.Spread.{Agree, spread_agree, spread_through}
use Rattle.laws.proofs.Names.{both, and}
use Rattle.models.proofs.Tests.{Interior, Transitive, interior, interior_tested, transitive, transitive_tested}
use Rattle.models.proofs.Sort.{mem_at, rises, placed}
use Rattle.models.proofs.Carry.{interior_by, transitive_by, interior_in, transitive_in, left_of, lawful_by}
use Rattle.models.proofs.Lists.{length_three, read_three, bits_value}

-- laws 4 and 5 of a lawful spread, over its marks
module _ (g : Turns) (n : ℕ) (law : Lawful (system n g)) where
  pub interior_of : Interior n (spread g)
  interior_of t p q r ht hp hq hr x y z = (law.interior (left_of g ht hq hr x) (left_of g hp ht hr y) (left_of g hp hq ht z)).turns

  pub transitive_of : Transitive n (spread g)
  transitive_of t s p q r ht hs hp hq hr v w x y z =
      (law.transitive (left_of g ht hs hp v) (left_of g ht hs hq w) (left_of g ht hs hr x) (left_of g ht hp hq y) (left_of g ht hq hr z)).turns

-- the tests of laws 4 and 5, and the record of the laws
module _ (g : Turns) (n : ℕ) (limit : n ≤ 128) where
  pub lawful_tested : T (keeps n (spread g)) ↔ Lawful (system n g)
  lawful_tested = (
    λ t. lawful_by g n limit
        (interior n (spread g) (both (keeps4 n (spread g)) _ t).0)
        (transitive n (spread g) (both (keeps4 n (spread g)) _ t).1),
    λ law. and (keeps4 n (spread g)) _
        (interior_tested n (spread g) (interior_of g n law))
        (transitive_tested n (spread g) (transitive_of g n law)),
  )

pub table_lawful : (n : ℕ) (turns : List Bool) → n ≤ 24 → T (keeps n (spread (table_turns n turns))) → Lawful (table n turns)
table_lawful n turns few kept = (lawful_tested (table_turns n turns) n (omega arith)).0 kept

pub five_tested : (p : ℕ) → T (lawful_five p) ↔ Lawful (five p)
five_tested p = lawful_tested (table_turns 5 (bits 10 p)) 5 (lit≤ tt)

pub four_tested : (p : ℕ) → T (lawful_four p) ↔ Lawful (four p)
four_tested p = lawful_tested (table_turns 4 (bits 4 p)) 4 (lit≤ tt)

-- laws 4 and 5 of turns that agree on rising threes
module _ (n : ℕ) (g h : Turns) (agree : Agree n g h) where
  to : {p q r : ℕ} → p < n → q < n → r < n → T (spread g p q r) → T (spread h p q r)
  to a b c t = subst T (spread_agree n g h agree a b c) t

  back : {p q r : ℕ} → p < n → q < n → r < n → T (spread h p q r) → T (spread g p q r)
  back a b c t = subst T (sym (spread_agree n g h agree a b c)) t

  interior_agree : Interior n (spread g) → Interior n (spread h)
  interior_agree law t p q r ht hp hq hr x y z =
      to hp hq hr (law t p q r ht hp hq hr (back ht hq hr x) (back hp ht hr y) (back hp hq ht z))

  transitive_agree : Transitive n (spread g) → Transitive n (spread h)
  transitive_agree law t s p q r ht hs hp hq hr v w x y z =
      to ht hp hr (law t s p q r ht hs hp hq hr (back ht hs hp v) (back ht hs hq w) (back ht hs hr x) (back ht hp hq y) (back ht hq hr z))

-- laws 4 and 5 among the marks of a rising list, by their places
module _ (g : Turns) (n : ℕ) (xs : List ℕ) (rising : Rising xs) (below : Below n xs) where
  here : {k : ℕ} → k < length xs → at xs k < n
  here {k} h = below _ (mem_at xs k h)

  up : {i j k : ℕ} → i < length xs → j < length xs → k < length xs → T (spread (through (at xs) g) i j k) → Left (system n g) (at xs i) (at xs j) (at xs k)
  up a b c t = left_of g (here a) (here b) (here c) (subst T (sym (spread_through (length xs) (at xs) (rises xs rising) g a b c)) t)

  down : {i j k : ℕ} → i < length xs → j < length xs → k < length xs → Left (system n g) (at xs i) (at xs j) (at xs k) → T (spread (through (at xs) g) i j k)
  down a b c l = subst T (spread_through (length xs) (at xs) (rises xs rising) g a b c) l.turns

  interior_at : LawfulAmong (system n g) xs → Interior (length xs) (spread (through (at xs) g))
  interior_at law t p q r ht hp hq hr x y z =
      down hp hq hr
      (law.interior _ _ _ _ (mem_at xs t ht) (mem_at xs p hp) (mem_at xs q hq) (mem_at xs r hr) (up ht hq hr x) (up hp ht hr y) (up hp hq ht z))

  transitive_at : LawfulAmong (system n g) xs → Transitive (length xs) (spread (through (at xs) g))
  transitive_at law t s p q r ht hs hp hq hr v w x y z =
      down ht hp hr
      (law.transitive _ _ _ _ _ (mem_at xs t ht) (mem_at xs s hs) (mem_at xs p hp) (mem_at xs q hq) (mem_at xs r hr)
      (up ht hs hp v) (up ht hs hq w) (up ht hs hr x) (up ht hp hq y) (up ht hq hr z))

  among_by : Interior (length xs) (spread (through (at xs) g)) → Transitive (length xs) (spread (through (at xs) g)) → LawfulAmong (system n g) xs
  among_by fourth fifth = record {
    interior = λ t p q r mt mp mq mr x y z.
        left_of g (below p mp) (below q mq) (below r mr)
        (interior_in g xs rising (placed t xs mt) (placed p xs mp) (placed q xs mq) (placed r xs mr) fourth x.turns y.turns z.turns);
    transitive = λ t s p q r mt ms mp mq mr v w x y z.
        left_of g (below t mt) (below p mp) (below r mr)
        (transitive_in g xs rising (placed t xs mt) (placed s xs ms) (placed p xs mp) (placed q xs mq) (placed r xs mr) fifth
        v.turns w.turns x.turns y.turns z.turns);
  }

-- the turns of a pattern are the turns of its marks
pattern_bits : (k : ℕ) (h : Turns) → bits (threes k) (value (each_three k h)) ≡ each_three k h
pattern_bits k h = subst (λ n. bits n (value (each_three k h)) ≡ each_three k h) (length_three k h) (bits_value (each_three k h))

pub pattern_agree : (k : ℕ) (h : Turns) → Agree k (table_turns k (bits (threes k) (value (each_three k h)))) h
pattern_agree k h = subst (λ b. Agree k (table_turns k b) h) (sym (pattern_bits k h)) (read_three k h)

pub agree_back : (k : ℕ) (g h : Turns) → Agree k g h → Agree k h g
agree_back k g h a i j l x y z = sym (a i j l x y z)

-- laws 4 and 5 among k marks, and the laws of their pattern
module _ (g : Turns) (n : ℕ) (k : ℕ) (limit : k ≤ 128) (xs : List ℕ) (group : Group k n xs) where
  pub among_pattern : LawfulAmong (system n g) xs ↔ Lawful (system k (table_turns k (bits (threes k) (pattern k g xs))))
  among_pattern =
      let h : Turns = through (at xs) g in
      let a : Agree k (table_turns k (bits (threes k) (pattern k g xs))) h = pattern_agree k h in (
        λ law. lawful_by _ k limit
            (interior_agree k h _ (agree_back k _ h a)
            (subst (λ m. Interior m (spread h)) group.long (interior_at g n xs group.rising group.below law)))
            (transitive_agree k h _ (agree_back k _ h a)
            (subst (λ m. Transitive m (spread h)) group.long (transitive_at g n xs group.rising group.below law))),
        λ law. among_by g n xs group.rising group.below
            (subst (λ m. Interior m (spread h)) (sym group.long) (interior_agree k _ h a (interior_of _ k law)))
            (subst (λ m. Transitive m (spread h)) (sym group.long) (transitive_agree k _ h a (transitive_of _ k law))),
      )

module _ (g : Turns) (n : ℕ) where
  -- a system is lawful where every four and every five of its marks are, and only there
  pub lawful_from : n ≤ 128 → AllLawful 4 (system n g) → AllLawful 5 (system n g) → Lawful (system n g)
  lawful_from limit fours fives = lawful_by g n limit
      (interior_by g n λ xs rising below long.
      subst (λ m. Interior m (spread (through (at xs) g))) long
      (interior_at g n xs rising below (fours xs (record { long = long; rising = rising; below = below }))))
      (transitive_by g n λ xs rising below long.
      subst (λ m. Transitive m (spread (through (at xs) g))) long
      (transitive_at g n xs rising below (fives xs (record { long = long; rising = rising; below = below }))))

  pub lawful_all : Lawful (system n g) → (k : ℕ) → AllLawful k (system n g)
  lawful_all law k xs group = record {
    interior = λ t p q r mt mp mq mr x y z. law.interior x y z;
    transitive = λ t s p q r mt ms mp mq mr v w x y z. law.transitive v w x y z;
  }
