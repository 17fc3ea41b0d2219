-- How a text is handed over in bytes of the caller's.
use Rattle.std.specs.Prelude.{ℕ, ◌<◌, ◌≤◌, List, ◌++◌, length, drop}

-- the text stands at the front of the caller's bytes, or it is too long for them and they stay as they are; the answer is its length
-- either way
pub data Copied (text before : List ℕ) : ℕ → List ℕ → Type 0 where
  written : length text ≤ length before → Copied text before (length text) (text ++ drop (length text) before)
  tight : length before < length text → Copied text before (length text) before

-- a text of which Says holds is handed over; or memory was wanting, and the bytes stay
pub data Handed (Says : List ℕ → Type 0) (before : List ℕ) : ℕ → List ℕ → Type 0 where
  handed : {text after : List ℕ} {n : ℕ} → Says text → Copied text before n after → Handed Says before n after
  no_memory : Handed Says before 18446744073709551615 before
