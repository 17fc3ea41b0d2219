-- A text has one answer.
use Rattle.std.proofs.Common.{◌≡◌, ℕ, ◌^◌, ◌<◌, ◌≤◌, cond, List, [], ◌∷◌, ◌++◌, length, get_or, drop, ℤ, pos, negsuc, Ok, Err, decimal, sym, refl, ap, ◌∙◌, subst, append-nil, arith}
use lib.Signed.{mag}
use Rattle.std.specs.Prelude.{◌==◌}
use Rattle.std.specs.Fmt.{signed_decimal}
use Rattle.std.proofs.lemmas.Fmt.{decimal_injective, signed_decimal_injective}
use Rattle.cc.specs.declared.Turn.{Turn}
use Rattle.cc.specs.declared.Turn.TheVariants.{Left, Right}
use Rattle.cc.specs.declared.faults.Fault.{Fault}
use Rattle.cc.specs.declared.faults.Fault.TheVariants.{Tight}
use Rattle.sheet.specs.Fields.{SixSigned}
use Rattle.sheet.specs.Forms.{Stops, Upto, lines}
use Rattle.cc.specs.Texts.{side}
use Rattle.sheet.specs.Shapes.{letter}
use Rattle.sheet.specs.Sheets.{Declines, Holds, Lists, Opens, Others, Reads, Unopened, Value, long, headless, overcount, unopened, stopped, tight, crossings, due, form, heads, list, marks, sixes, turn_line, turns}
use Rattle.sheet.specs.Theorems.{OneAnswer}
use Rattle.sheet.specs.Triples.{triple_at}
use Rattle.sheet.specs.declared.Kind.{Kind}
use Rattle.sheet.specs.declared.Kind.TheVariants.{Points, FlatPoints, Network, Table}
use Rattle.sheet.specs.declared.spots.Triple.{Triple}
use Rattle.sheet.specs.Cuts.{cut_unique}
use Rattle.sheet.specs.FieldsLemmas.{decimal_lacks, signed_lacks}
use Rattle.sheet.proofs.Heads.{count_six, head_whole}
use Rattle.sheet.specs.Marks.{mark_whole, same_mark}
use Rattle.sheet.specs.Turnings.{crossing_whole, turn_whole}
use Rattle.sheet.proofs.Unique.{Plain, agree, not_both, one_stop, same_line}

-- the kind whose letter it is
kind_of : ℕ → Kind
kind_of b = cond (b == 80) Points (cond (b == 70) FlatPoints (cond (b == 87) Network Table))

kind_is : (k : Kind) → kind_of (letter k) ≡ k
unfolding kind_of
kind_is Points = refl
kind_is FlatPoints = refl
kind_is Network = refl
kind_is Table = refl

-- a head says one kind and count
same_letter : (a b : Kind) → letter a ≡ letter b → a ≡ b
same_letter a b e = sym (kind_is a) ∙ ap kind_of e ∙ kind_is b

pub plain_heads : Plain heads
plain_heads =
    record {
      whole = λ i v w. head_whole v w;
      one = λ i u v wu wv e.
          let kind = same_letter u.0 v.0 (ap (λ l. get_or l 0 0) e) in
          let count = decimal_injective u.1 v.1 (omega (arith, wu)) (omega (arith, wv)) (ap (drop 2) e) in
          λ j. (kind j, count j);
    }

-- a mark's line says one place
mag_six : (z : ℤ) → SixSigned z → mag z < 2 ^ 63
mag_six (pos n) h = omega arith
mag_six (negsuc n) h = omega arith

plain_marks : Plain marks
plain_marks =
    record {
      whole = λ i v w. mark_whole v w;
      one = λ i u v wu wv e.
          let same = same_mark (marks.line 0 u) (signed_decimal u.x) (signed_decimal u.y) v.x v.y (signed_lacks 9 u.x (omega arith) wu.0, refl) wv.0 e in
          let x = signed_decimal_injective u.x v.x (mag_six u.x wu.0) (mag_six v.x wv.0) same.0 in
          let y = signed_decimal_injective u.y v.y (mag_six u.y wu.1) (mag_six v.y wv.1) same.1 in
          λ j. record { x = x j; y = y j };
    }

-- a crossing's line says one crossing
plain_crossings : (n : ℕ) → Plain (crossings n)
plain_crossings n =
    record { whole = λ i v w. crossing_whole v w; one = λ i u v wu wv e. decimal_injective u v (omega (arith, wu)) (omega (arith, wv)) (ap (drop 2) e) }

-- a turn's line says one turn
same_side : (a b : Turn) → side a ≡ side b → a ≡ b
same_side Left Left e = refl
same_side Left Right e = absurd (omega arith)
same_side Right Left e = absurd (omega arith)
same_side Right Right e = refl

same_turns : (t : Triple) (u v : Turn) → sixes t → turn_line t u ≡ turn_line t v → u ≡ v
same_turns t u v six e =
    let i = decimal t.i in
    let j = decimal t.j in
    let k = decimal t.k in
    let li = decimal_lacks 9 t.i (omega arith) six.0 in
    let lj = decimal_lacks 9 t.j (omega arith) six.1 in
    let lk = decimal_lacks 9 t.k (omega arith) six.2 in
    let last = (cut_unique 9 k (side u ∷ []) k (side v ∷ []) lk lk (cut_unique 9 j _ j _ lj lj (cut_unique 9 i _ i _ li li (ap (drop 2) e)).1).1).1 in
    same_side u v (ap (λ l. get_or l 0 0) last)

plain_turns : (n : ℕ) → Plain (turns n)
plain_turns n =
    record { whole = λ i v w. turn_whole (triple_at n i) v w; one = λ i u v wu wv e. same_turns (triple_at n i) u v wu e }

pub plain : (k : Kind) (n : ℕ) → Plain (form k n)
plain Points n = plain_marks
plain FlatPoints n = plain_marks
plain Network n = plain_crossings n
plain Table n = plain_turns n

-- a text opens in one way
module _ (text : List ℕ) where
  pub one_opening : (k : Kind) (n : ℕ) (rest : List ℕ) (l : Kind) (m : ℕ) (more : List ℕ) → Opens text k n rest → Opens text l m more → (◌≡◌ {A = Kind × ℕ} (k, n) (l, m)) × (rest ≡ more)
  one_opening k n rest l m more o p =
      same_line heads plain_heads 0 (k, n) (l, m) rest more (count_six k n o.limited) (count_six l m p.limited) (sym o.is ∙ p.is)

  pub not_opened : (k : Kind) (n : ℕ) (rest : List ℕ) → Opens text k n rest → (fault : Fault) → Unopened text fault → ⊥
  not_opened k n rest o fault (long h) = omega (arith, o.short)
  not_opened k n rest o fault (headless s none) = none (k, n) rest (count_six k n o.limited) o.is
  not_opened k n rest o fault (overcount s v more w unfit e) =
      unfit (subst heads.Fits (same_line heads plain_heads 0 (k, n) v rest more (count_six k n o.limited) w (sym o.is ∙ e)).0 o.limited)

  one_unopened : (a b : Fault) → Unopened text a → Unopened text b → a ≡ b
  one_unopened a b (long h) (long h') = refl
  one_unopened a b (long h) (headless s none) = absurd (omega arith)
  one_unopened a b (long h) (overcount s v r w unfit e) = absurd (omega arith)
  one_unopened a b (headless s none) (long h) = absurd (omega arith)
  one_unopened a b (headless s none) (headless s' none') = refl
  one_unopened a b (headless s none) (overcount s' v r w unfit e) = absurd (none v r w e)
  one_unopened a b (overcount s v r w unfit e) (long h) = absurd (omega arith)
  one_unopened a b (overcount s v r w unfit e) (headless s' none) = absurd (none v r w e)
  one_unopened a b (overcount s v r w unfit e) (overcount s' v' r' w' unfit' e') = refl

  -- a sheet's text opens, and all of the rest is read
  pub opens : (k : Kind) (n : ℕ) (vs : List (Value k)) → Holds text k n vs → Opens text k n (lines (form k n) 0 vs)
  opens k n vs h = record { short = h.short; limited = h.sheet.limited; is = h.is }

  upto : (k : Kind) (n : ℕ) (vs : List (Value k)) → Holds text k n vs → Upto (form k n) (lines (form k n) 0 vs) vs []
  upto k n vs h = record { fine = h.sheet.fine; read = sym (append-nil _) }

  -- what holds of the kind and the count of one opening holds of those of another
  pub moved : (P : Kind → ℕ → Type 0) (k : Kind) (n : ℕ) (rest : List ℕ) (l : Kind) (m : ℕ) (more : List ℕ) → Opens text k n rest → Opens text l m more → P k n → P l m
  moved P k n rest l m more o p h = subst (λ v. P v.0 v.1) (one_opening k n rest l m more o p).0 h

  one_values : (k : Kind) (n : ℕ) (vs ws : List (Value k)) → Holds text k n vs → Holds text k n ws → vs ≡ ws
  one_values k n vs ws h g =
      let rest = (one_opening k n _ k n _ (opens k n vs h) (opens k n ws g)).1 in
      (agree (form k n) (plain k n) _ vs ws [] [] (subst (λ r. Upto (form k n) r vs []) rest (upto k n vs h)) (upto k n ws g) (h.sheet.many ∙ sym g.sheet.many)).0

  -- a text that is a sheet's does not stop
  pub sheet_goes : (k : Kind) (n : ℕ) (vs : List (Value k)) → Holds text k n vs → (l : Kind) (m : ℕ) (rest : List ℕ) → Opens text l m rest → (fault : Fault) → Stops (form l m) (due l m) rest fault → ⊥
  sheet_goes k n vs h l m rest o fault stops =
      let here = opens k n vs h in
      let back = moved (λ k n. Stops (form k n) (due k n) rest fault) l m rest k n _ o here stops in
      let body = (one_opening l m rest k n _ o here).1 in
      not_both (form k n) (plain k n) (due k n) _ vs fault (upto k n vs h) h.sheet.many (subst (λ r. Stops (form k n) (due k n) r fault) body back)

  module _ (b : Lists) where
    one_decline : (d e : Fault) → Declines text b d → Declines text b e → d ≡ e
    one_decline d e (unopened u) (unopened v) = one_unopened d e u v
    one_decline d e (unopened u) (stopped l m more p t) = absurd (not_opened l m more p d u)
    one_decline d e (unopened u) (tight l m ws g less is) = absurd (not_opened l m _ (opens l m ws g) d u)
    one_decline d e (stopped k n rest o s) (unopened v) = absurd (not_opened k n rest o e v)
    one_decline d e (stopped k n rest o s) (stopped l m more p t) =
        let here = moved (λ k n. Stops (form k n) (due k n) rest d) k n rest l m more o p s in
        let body = (one_opening k n rest l m more o p).1 in
        one_stop (form l m) (plain l m) (due l m) more d e (subst (λ r. Stops (form l m) (due l m) r d) body here) t
    one_decline d e (stopped k n rest o s) (tight l m ws g less is) = absurd (sheet_goes l m ws g k n rest o d s)
    one_decline d e (tight k n vs h less is) (unopened v) = absurd (not_opened k n _ (opens k n vs h) e v)
    one_decline d e (tight k n vs h less is) (stopped l m more p t) = absurd (sheet_goes k n vs h l m more p e t)
    one_decline d e (tight k n vs h less is) (tight l m ws g less' is') =
        is ∙ ap (λ v. Tight (due v.0 v.1)) (one_opening k n _ l m _ (opens k n vs h) (opens l m ws g)).0 ∙ sym is'

    clash : (k : Kind) (n : ℕ) (a : Lists) (fault : Fault) → Reads text k n b a → Declines text b fault → ⊥
    clash k n a fault r (unopened u) = not_opened k n _ (opens k n r.values r.holds) fault u
    clash k n a fault r (stopped l m rest o s) = sheet_goes k n r.values r.holds l m rest o fault s
    clash k n a fault r (tight l m ws g less is) =
        let long = moved (λ k n. due k n ≤ length (list k b)) k n _ l m _ (opens k n r.values r.holds) (opens l m ws g) r.long in
        omega arith

    -- three lists are the same where the one that is read into and the two others are
    same_lists : (k : Kind) (a c : Lists) → list k a ≡ list k c → Others k b a → Others k b c → a ≡ c
    same_lists Points a c e p q = λ j. record { places = e j; crossings = (p.0 ∙ sym q.0) j; turns = (p.1 ∙ sym q.1) j }
    same_lists FlatPoints a c e p q = λ j. record { places = e j; crossings = (p.0 ∙ sym q.0) j; turns = (p.1 ∙ sym q.1) j }
    same_lists Network a c e p q = λ j. record { places = (p.0 ∙ sym q.0) j; crossings = e j; turns = (p.1 ∙ sym q.1) j }
    same_lists Table a c e p q = λ j. record { places = (p.0 ∙ sym q.0) j; crossings = (p.1 ∙ sym q.1) j; turns = e j }

    one_reading : (k : Kind) (n : ℕ) (a c : Lists) → Reads text k n b a → Reads text k n b c → a ≡ c
    one_reading k n a c p q =
        let values = one_values k n p.values q.values p.holds q.holds in
        same_lists k a c (p.front ∙ ap (λ vs. vs ++ drop (due k n) (list k b)) values ∙ sym q.front) p.others q.others

pub one_answer : OneAnswer
one_answer text b a c (Ok o) (Ok u) p q =
    let here = opens text o.0 o.1 p.values p.holds in
    let there = opens text u.0 u.1 q.values q.holds in (
      ap Ok (one_opening text o.0 o.1 _ u.0 u.1 _ here there).0,
      one_reading text b u.0 u.1 a c (moved text (λ k n. Reads text k n b a) o.0 o.1 _ u.0 u.1 _ here there p) q,
    )
one_answer text b a c (Ok o) (Err e) p q = absurd (clash text b o.0 o.1 a e p q.0)
one_answer text b a c (Err d) (Ok u) p q = absurd (clash text b u.0 u.1 c d q p.0)
one_answer text b a c (Err d) (Err e) p q = (ap Err (one_decline text b d e p.0 q.0), p.1 ∙ sym q.1)
