-- Different marks stand in a rising list.
use Rattle.std.proofs.Common.{◌≡◌, ℕ, zero, suc, ◌<◌, ◌≢◌, List, [], ◌∷◌, length, get_or, sym, refl, ap, ◌∙◌, inl, inr, suc-le-suc, le_of_suc-le-suc, arith}
use native.Mathlib.Decide.{dec_lt}
use Rattle.models.specs.Rising.{Mem, Rising}
use Rattle.models.proofs.Spread.{Rises}

abbrev pub Away : ℕ → List ℕ → Type 0
Away z [] = Unit {0}
Away z (x ∷ xs) = (z ≢ x) × Away z xs

away : (z : ℕ) (xs : List ℕ) → Away z xs → Mem z xs → ⊥
away z [] a m = m
away z (x ∷ xs) a (inl e) = a.0 e
away z (x ∷ xs) a (inr m) = away z xs a.1 m

abbrev pub Different : List ℕ → Type 0
Different [] = Unit {0}
Different (x ∷ xs) = Away x xs × Different xs

-- a rising list of the same marks
pub record Sorted (xs : List ℕ) : Type 0 where
  pub list : List ℕ
  pub rising : Rising list
  pub long : length list ≡ length xs
  pub from : (z : ℕ) → Mem z list → Mem z xs
  pub into : (z : ℕ) → Mem z xs → Mem z list

insert : (x : ℕ) (ys : List ℕ) → Rising ys → (Mem x ys → ⊥) → Sorted (x ∷ ys)
insert x [] rising new =
    record { list = x ∷ []; rising = (λ z m. elim m [ ], tt); long = refl; from = λ z m. m; into = λ z m. m }
insert x (y ∷ ys) rising new =
    elim (dec_lt x y) [
      | yes h ↦ record {
        list = x ∷ y ∷ ys;
        rising = (λ z m. elim m [ inl e ↦ omega arith | inr m' ↦ omega (arith, rising.0 z m') ], rising);
        long = refl;
        from = λ z m. m;
        into = λ z m. m;
      }
      | no h ↦
          let r = insert x ys rising.1 (λ m. new (inr m)) in
          let y<x : y < x = omega (arith, λ (e : x ≡ y). new (inl e)) in
          record {
            list = y ∷ r.list;
            rising = (λ z m. elim (r.from z m) [ inl e ↦ omega arith | inr m' ↦ rising.0 z m' ], r.rising);
            long = ap suc r.long;
            from = λ z m. elim m [ inl e ↦ inr (inl e) | inr m' ↦ elim (r.from z m') [ inl e ↦ inl e | inr k ↦ inr (inr k) ] ];
            into = λ z m. elim m [ inl e ↦ inr (r.into z (inl e)) | inr m' ↦ elim m' [ inl e ↦ inl e | inr k ↦ inr (r.into z (inr k)) ] ];
          }
    ]

pub sort : (xs : List ℕ) → Different xs → Sorted xs
sort [] d = record { list = []; rising = tt; long = refl; from = λ z m. m; into = λ z m. m }
sort (x ∷ xs) d =
    let s = sort xs d.1 in
    let r = insert x s.list s.rising (λ m. away x xs d.0 (s.from x m)) in
    record {
      list = r.list;
      rising = r.rising;
      long = r.long ∙ ap suc s.long;
      from = λ z m. elim (r.from z m) [ inl e ↦ inl e | inr k ↦ inr (s.from z k) ];
      into = λ z m. r.into z (elim m [ inl e ↦ inl e | inr k ↦ inr (s.into z k) ]);
    }

-- the place of a mark in a list, and the mark at a place
pub record Placed (z : ℕ) (xs : List ℕ) : Type 0 where
  pub place : ℕ
  pub within : place < length xs
  pub is : get_or xs place 0 ≡ z

pub placed : (z : ℕ) (xs : List ℕ) → Mem z xs → Placed z xs
placed z [] m = elim m [ ]
placed z (x ∷ xs) (inl e) = record { place = 0; within = omega arith; is = sym e }
placed z (x ∷ xs) (inr m) =
    let p = placed z xs m in record { place = suc p.place; within = suc-le-suc p.within; is = p.is }

pub mem_at : (xs : List ℕ) (k : ℕ) → k < length xs → Mem (get_or xs k 0) xs
mem_at [] k h = absurd (omega arith)
mem_at (x ∷ xs) zero h = inl refl
mem_at (x ∷ xs) (suc k) h = inr (mem_at xs k (le_of_suc-le-suc h))

pub rises : (xs : List ℕ) → Rising xs → Rises (length xs) (λ k. get_or xs k 0)
rises [] r i j x y = absurd (omega arith)
rises (a ∷ xs) r i zero x y = absurd (omega arith)
rises (a ∷ xs) r zero (suc j) x y = r.0 _ (mem_at xs j (le_of_suc-le-suc y))
rises (a ∷ xs) r (suc i) (suc j) x y = rises xs r.1 i j (le_of_suc-le-suc x) (le_of_suc-le-suc y)
