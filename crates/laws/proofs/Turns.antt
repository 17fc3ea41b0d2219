-- Consequences of the laws on few marks: law 5's mirror.
use Rattle.std.proofs.Common.{ℕ, ◌≢◌, ◌⊎◌, sym, inl, inr}
use mathlib.Core.Logic.{Ne-symm}
use Rattle.laws.specs.Systems.{Meaning, Three, Left, Right, Lawful}

-- five marks against law 5's mirror: p, q, r left of st, and a cycle about t
record Cycle (m : Meaning) (s t p q r : ℕ) : Type 0 where
  stp : Left m s t p
  stq : Left m s t q
  str : Left m s t r
  tpq : Left m t p q
  tqr : Left m t q r
  trp : Left m t r p

next : {m : Meaning} {s t p q r : ℕ} → Cycle m s t p q r → Cycle m s t q r p
next c = record { stp = c.stq; stq = c.str; str = c.stp; tpq = c.tqr; tqr = c.trp; trp = c.tpq }

pub swapped : {n p q r : ℕ} → Three n p q r → Three n p r q
swapped t =
    record {
      p_in = t.p_in;
      q_in = t.r_in;
      r_in = t.q_in;
      p≢q = Ne-symm t.r≢p;
      q≢r = Ne-symm t.q≢r;
      r≢p = Ne-symm t.p≢q;
    }

-- p and q, both left of st
pub beside : {m : Meaning} {s t p q : ℕ} → Left m s t p → Left m s t q → p ≢ q → Three m.count s p q
beside a b n =
    record {
      p_in = a.three.p_in;
      q_in = a.three.r_in;
      r_in = b.three.r_in;
      p≢q = λ e. a.three.r≢p (sym e);
      q≢r = n;
      r≢p = b.three.r≢p;
    }

module _ {m : Meaning} (L : Lawful m) where
  pub cyclic² : {p q r : ℕ} → Left m p q r → Left m r p q
  cyclic² h = L.cyclic (L.cyclic h)

  -- where p, q, r turn right, p, r, q turn left; and where p, r, q turn left, p, q, r turn right
  pub right_left : {p q r : ℕ} → Right m p q r → Left m p r q
  right_left h = elim (L.nondegenerate h.three) [ inl l ↦ absurd (h.turns l.turns) | inr l ↦ l ]

  pub left_right : {p q r : ℕ} → Left m p r q → Right m p q r
  left_right h =
      record {
        three = swapped h.three;
        turns = λ t. L.antisymmetric h (record { three = swapped h.three; turns = t });
      }

  -- of pqr and qpr, one at most
  pub opposite : {p q r : ℕ} → Left m p q r → Left m q p r → ⊥
  opposite h k = L.antisymmetric (L.cyclic h) k

  sides : {s t p q r : ℕ} → Cycle m s t p q r → Left m s p q ⊎ Left m s q p
  sides c = L.nondegenerate (beside c.stp c.stq c.tpq.three.q≢r)

  outer : {s t p q r : ℕ} → Cycle m s t p q r → Three m.count p q r
  outer c =
      record {
        p_in = c.stp.three.r_in;
        q_in = c.stq.three.r_in;
        r_in = c.str.three.r_in;
        p≢q = c.tpq.three.q≢r;
        q≢r = c.tqr.three.q≢r;
        r≢p = c.trp.three.q≢r;
      }

  all_left : {s t p q r : ℕ} → Cycle m s t p q r → Left m s p q → Left m s q r → Left m s r p → ⊥
  all_left c spq sqr srp = L.antisymmetric (L.transitive c.stp c.stq c.str spq sqr) srp

  -- pqr and spq give srp, and so all three
  around : {s t p q r : ℕ} → Cycle m s t p q r → Left m p q r → Left m s p q → Left m s r p
  around c pqr spq =
      L.cyclic (L.transitive (L.cyclic spq) (L.cyclic c.tpq) pqr (cyclic² c.stp) (cyclic² c.trp))

  -- prq and srp give spq, and so all three
  around' : {s t p q r : ℕ} → Cycle m s t p q r → Left m p r q → Left m s r p → Left m s p q
  around' c prq srp =
      elim (sides c) [
        | inl spq ↦ spq
        | inr sqp ↦
            absurd (L.antisymmetric
            (L.transitive (cyclic² sqp) (cyclic² c.stp) (cyclic² srp) (L.cyclic c.tpq) (cyclic² c.trp))
            prq)
      ]

  not_left : {s t p q r : ℕ} → Cycle m s t p q r → Left m s p q → ⊥
  not_left c spq =
      elim (L.nondegenerate (outer c)) [
        | inl pqr ↦ let srp = around c pqr spq in all_left c spq (around (next (next c)) (cyclic² pqr) srp) srp
        | inr prq ↦
            let sqr = around' (next c) (cyclic² prq) spq in
            all_left c spq sqr (around' (next (next c)) (L.cyclic prq) sqr)
      ]

  right : {s t p q r : ℕ} → Cycle m s t p q r → Left m s q p
  right c = elim (sides c) [ inl spq ↦ absurd (not_left c spq) | inr sqp ↦ sqp ]

  no_cycle : {s t p q r : ℕ} → Cycle m s t p q r → ⊥
  no_cycle c =
      L.antisymmetric
      (L.transitive c.stp c.str c.stq (right (next (next c))) (right (next c)))
      (right c)

  -- law 5's mirror
  pub transitive' : {s t p q r : ℕ} → Left m s t p → Left m s t q → Left m s t r → Left m t p q → Left m t q r → Left m t p r
  transitive' {s} {t} {p} {q} {r} stp stq str tpq tqr =
      elim (L.nondegenerate far) [
        | inl tpr ↦ tpr
        | inr trp ↦ absurd (no_cycle (record { stp = stp; stq = stq; str = str; tpq = tpq; tqr = tqr; trp = trp }))
      ]
    where
      far : Three m.count t p r
      far =
          record {
            p_in = tpq.three.p_in;
            q_in = tpq.three.q_in;
            r_in = tqr.three.r_in;
            p≢q = tpq.three.p≢q;
            q≢r = λ e. L.antisymmetric tpq (rw (sym e) at tqr);
            r≢p = tqr.three.r≢p;
          }
