-- The entry, by the numbers of pairs and threes.
use Rattle.std.proofs.Common.{◌≡◌, ℕ, ◌+◌, ◌-◌, ◌<◌, ◌≤◌, min, arith}
use Rattle.models.specs.Threes.{place3, pairs_of, threes_of}
use Rattle.models.proofs.Entries.{entry_is}
use Rattle.systems.proofs.Counts.{within}
use Rattle.systems.proofs.tables.entry.Goals as goal

counted : (n i j k : ℕ) {all later begun ended : ℕ} → i < j → j < k → k < n → n ≤ 24 →
    all ≡ threes_of (min n 24) → later ≡ pairs_of (min (n - i - 1) 32) → begun ≡ threes_of (min (n - i) 24) → ended ≡ pairs_of (min (n - j) 32) →
    place3 n i j k + begun + ended ≡ all + later + (k - j - 1)
counted n i j k x y z few a b c d =
    let a' = within threes_of few a in
    let b' = within pairs_of {n = n - i - 1} (omega arith) b in
    let c' = within threes_of {n = n - i} (omega arith) c in
    let d' = within pairs_of {n = n - j} (omega arith) d in
    let e = entry_is n i j k x y z few in
    rw (a', b', c', d') e

pub overflow_sub-result-4 : goal.overflow_sub-result-4
overflow_sub-result-4 c =
    let a = c.args in
    let e = counted a.n a.i a.j a.k c.requires.0 c.requires.1 c.requires.2 c.requires.3
    c.threes.ensures.number c.pairs.ensures.number c.threes-2.ensures.number c.pairs-2.ensures.number in
    omega arith

pub returns : goal.returns
returns c =
    let a = c.args in
    let e = counted a.n a.i a.j a.k c.requires.0 c.requires.1 c.requires.2 c.requires.3
    c.threes.ensures.number c.pairs.ensures.number c.threes-2.ensures.number c.pairs-2.ensures.number in
    record { entry = omega arith }
