-- Marks as the bits of words.
use Rattle.std.specs.Prelude.{◌≡◌, ℕ, zero, suc, ◌+◌, ◌*◌, ◌/◌, ◌%◌, ◌^◌, ◌<◌, Bool, cond, length, filter, ◌==◌}
use Rattle.std.specs.Int.Count.{ones}
use Rattle.std.specs.List.{range_with_len}

-- the number whose bit k, of the n lowest, is f (a + k)
unfoldable pub word_of : (ℕ → Bool) → ℕ → ℕ → ℕ
word_of f a zero = 0
word_of f a (suc n) = cond (f a) 1 0 + 2 * word_of f (a + 1) n

-- bit k of a word
abbrev pub bit : ℕ → ℕ → Bool
bit w k = w / 2 ^ k % 2 == 1

-- how many of the n numbers from a on pass the test f
unfoldable pub how_many : (ℕ → Bool) → ℕ → ℕ → ℕ
how_many f a n = length (filter f (range_with_len a n))

-- bit k of the first word stands for mark k, and of the second for mark 64 + k, and neither has more than 64 bits; the last is how many
-- marks are in, which is how many bits are one
pub record Census (f : ℕ → Bool) (r : ℕ × ℕ × ℕ) : Type 0 where
  pub low : (k : ℕ) → k < 64 → bit r.0 k ≡ f k
  pub high : (k : ℕ) → k < 64 → bit r.1 k ≡ f (64 + k)
  pub low_fits : r.0 < 2 ^ 64
  pub high_fits : r.1 < 2 ^ 64
  pub size : r.2 ≡ how_many f 0 128
  pub ones : r.2 ≡ ones r.0 + ones r.1
