-- Patterns of four and of five marks. The pattern of some marks is a number of one bit for each rising three of them, in rising order from
-- the lowest bit on, where a one means left: of four marks 012, 013, 023, 123; of five 012, 013, 014, 023, 024, 034, 123, 124, 134, 234.
use Rattle.std.specs.Prelude.{◌≡◌, ℕ, zero, suc, ◌+◌, ◌*◌, ◌/◌, ◌%◌, ◌<◌, Bool, true, false, cond, not, ◌&&◌, ◌||◌, ◌≢◌, ◌↔◌, List, [], ◌∷◌, length, ◌==◌, slice_index}
use Rattle.laws.specs.Systems.{Meaning, Lawful}
use Rattle.models.specs.Spread.{Turns, spread}
use Rattle.models.specs.Threes.{table, table_turns, each_three}
use Rattle.models.specs.Rising.{Mem, Rising}

-- the low n bits of a number, the lowest first
abbrev pub bits : ℕ → ℕ → List Bool
bits zero p = []
bits (suc n) p = (p % 2 == 1) ∷ bits n (p / 2)

-- the number whose bits these are, the lowest first
abbrev pub value : List Bool → ℕ
value [] = 0
value (b ∷ bs) = cond b 1 0 + 2 * value bs

-- the system of four marks that turn as a pattern says
abbrev pub four : ℕ → Meaning
four p = table 4 (bits 4 p)

-- the system of five marks that turn as a pattern says
abbrev pub five : ℕ → Meaning
five p = table 5 (bits 10 p)

-- the list of all patterns of five marks that keep the laws, in rising order: there are 264
pub record Catalogued (xs : List ℕ) : Type 0 where
  pub long : length xs ≡ 264
  pub rising : Rising xs
  pub below : (p : ℕ) → Mem p xs → p < 1024
  pub lawful : (p : ℕ) → p < 1024 → Mem p xs ↔ Lawful (five p)

-- of the patterns of four marks, 5 and 10 break the laws, and the other fourteen keep them
abbrev pub Fours : Type 0
Fours = (p : ℕ) → p < 16 → ((p ≢ 5) × (p ≢ 10)) ↔ Lawful (four p)

-- the mark at place k of a list
abbrev pub at : List ℕ → ℕ → ℕ
at xs k = slice_index xs k

-- the turns of the marks f 0, f 1, f 2 .., under the numbers 0, 1, 2 ..
abbrev pub through : (ℕ → ℕ) → Turns → Turns
through f g i j k = g (f i) (f j) (f k)

-- the pattern of the k marks of a list, which turn as g says
abbrev pub pattern : ℕ → Turns → List ℕ → ℕ
pattern k g xs = value (each_three k (through (at xs) g))

-- whether a test passes at each number below n
abbrev pub all : ℕ → (ℕ → Bool) → Bool
all zero f = true
all (suc n) f = let rest = all n f in f n && rest

-- law 4 as a test, over all choices of the marks below n in any order
abbrev pub keeps4 : ℕ → Turns → Bool
keeps4 n left =
    all n (λ p. all n (λ q. all n (λ r.
    let inside = all n (λ t. not (left t q r && left p t r && left p q t)) in left p q r || inside)))

-- law 5 as a test, in the same way
abbrev pub keeps5 : ℕ → Turns → Bool
keeps5 n left =
    all n (λ t. all n (λ s. all n (λ p.
    let rest = all n (λ q.
    let last = all n (λ r. not (left t s r && left t q r) || left t p r) in
    not (left t s q && left t p q) || last) in
    not (left t s p) || rest)))

-- both laws
abbrev pub keeps : ℕ → Turns → Bool
keeps n left = keeps4 n left && keeps5 n left

-- whether the four marks of a pattern pass both tests
abbrev pub lawful_four : ℕ → Bool
lawful_four p = let turns = bits 4 p in keeps 4 (spread (table_turns 4 turns))

-- whether the five marks of a pattern pass both tests
abbrev pub lawful_five : ℕ → Bool
lawful_five p = let turns = bits 10 p in keeps 5 (spread (table_turns 5 turns))

-- of the n numbers from k on, those that pass a test
abbrev pub those : (ℕ → Bool) → ℕ → ℕ → List ℕ
those f k zero = []
those f k (suc n) = elim (f k) [ true ↦ k ∷ those f (suc k) n | false ↦ those f (suc k) n ]
