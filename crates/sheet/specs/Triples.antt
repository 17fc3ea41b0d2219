-- The triples of a table, in rising order: first marks are compared, then second ones, then third ones.
use Rattle.std.specs.Prelude.{ℕ, zero, suc, ◌+◌, cond, nat_lt}
use Rattle.sheet.specs.declared.spots.Triple.{Triple}

-- the triple that follows i < j < k, of the marks below n
abbrev pub after : ℕ → Triple → Triple
after n t =
    cond (nat_lt (t.k + 1) n) (record { i = t.i; j = t.j; k = t.k + 1 })
    (cond (nat_lt (t.j + 2) n) (record { i = t.i; j = t.j + 1; k = t.j + 2 }) (record { i = t.i + 1; j = t.i + 2; k = t.i + 3 }))

-- the triple of the at-th line, counted from 0
abbrev pub triple_at : ℕ → ℕ → Triple
triple_at n zero = record { i = 0; j = 1; k = 2 }
triple_at n (suc at) = after n (triple_at n at)
