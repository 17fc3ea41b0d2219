-- A refusal names the first line at which the text stops being the beginning of a sheet.
use Rattle.std.proofs.Common.{◌≡◌, ℕ, zero, suc, ◌+◌, ◌-◌, ◌<◌, ◌≤◌, List, [], ◌∷◌, ◌++◌, length, get_or, replicate, pos, sym, refl, ap, ◌∙◌, subst, append_assoc, append-nil, zero-add, arith, length-append}
use lib.ListN.{length-replicate}
use Rattle.cc.specs.Refusals.{number, places}
use Rattle.cc.specs.declared.Turn.TheVariants.{Left}
use Rattle.cc.specs.declared.faults.Fault.{Fault}
use Rattle.sheet.specs.Fields.{Lacks}
use Rattle.sheet.specs.Forms.{Fine, Form, Stops, Wrong, lines, missing, surplus, torn, outsize}
use Rattle.sheet.specs.Sheets.{Declines, Opens, Sheet, Unopened, Value, due, form, heads, limit, long, headless, overcount, unopened, stopped, tight, marks, written}
use Rattle.sheet.specs.Theorems.{Begins, FirstLine, Lined, StopsAfter, none, more}
use Rattle.sheet.specs.declared.Kind.{Kind}
use Rattle.sheet.specs.declared.Kind.TheVariants.{Points, FlatPoints, Network, Table}
use Rattle.sheet.specs.Cuts.{cut_unique, not_nil}
use Rattle.sheet.proofs.Exact.{moved, not_opened, one_opening, opens, plain, sheet_goes}
use Rattle.sheet.proofs.Heads.{count_six, head_whole}
use Rattle.sheet.proofs.Lengths.{fine_turns, short_enough}
use Rattle.sheet.proofs.Unique.{Plain, prefix, unstuck, within}

-- lines of values are lines
lined_lines : {V : Type 0} (f : Form V) → Plain f → (i : ℕ) (vs : List V) → Fine f i vs → Lined (length vs) (lines f i vs)
lined_lines f p i [] fine = none
lined_lines f p i (v ∷ vs) fine = more (f.line i v) (p.whole i v fine.0) (lined_lines f p (suc i) vs fine.2)

lines_append : {V : Type 0} (f : Form V) (i : ℕ) (vs ws : List V) → lines f i (vs ++ ws) ≡ lines f i vs ++ lines f (i + length vs) ws
lines_append f i [] ws = let e : i ≡ i + 0 = omega arith in ap (λ m. lines f m ws) e
lines_append f i (v ∷ vs) ws =
    let e : suc i + length vs ≡ i + suc (length vs) = omega arith in
    ap (λ l. f.line i v ++ 10 ∷ l) (lines_append f (suc i) vs ws ∙ ap (λ m. lines f (suc i) vs ++ lines f m ws) e)
    ∙ sym (append_assoc (f.line i v) (10 ∷ lines f (suc i) vs) (lines f (i + suc (length vs)) ws))

fine_append : {V : Type 0} (f : Form V) (i : ℕ) (vs ws : List V) → Fine f i vs → Fine f (i + length vs) ws → Fine f i (vs ++ ws)
fine_append f i [] ws fine fine' = let e : i + 0 ≡ i = omega arith in subst (λ m. Fine f m ws) e fine'
fine_append f i (v ∷ vs) ws fine fine' =
    let e : i + suc (length vs) ≡ suc i + length vs = omega arith in
    (fine.0, fine.1, fine_append f (suc i) vs ws fine.2 (subst (λ m. Fine f m ws) e fine'))

-- a value that any line may have
abbrev some_value : (k : Kind) → Value k
some_value Points = record { x = pos 0; y = pos 0 }
some_value FlatPoints = record { x = pos 0; y = pos 0 }
some_value Network = 0
some_value Table = Left

fine_crossings : (n i m : ℕ) → 2 ≤ n → Fine (form Network n) i (replicate m 0)
fine_crossings n i zero h = tt
fine_crossings n i (suc m) h = (omega arith, omega arith, fine_crossings n (suc i) m h)

fine_places : (i m : ℕ) → Fine marks i (replicate m (some_value Points))
fine_places i zero = tt
fine_places i (suc m) = ((omega arith, omega arith), record { x_near = omega arith; y_near = omega arith }, fine_places (suc i) m)

fine_some : (k : Kind) (n i m : ℕ) → n ≤ limit k → i + m ≡ due k n → Fine (form k n) i (replicate m (some_value k))
fine_some Points n i m few h = fine_places i m
fine_some FlatPoints n i m few h = fine_places i m
fine_some Network zero i zero few h = tt
fine_some Network zero i (suc m) few h = absurd (omega arith)
fine_some Network (suc zero) i zero few h = tt
fine_some Network (suc zero) i (suc m) few h = absurd (omega arith)
fine_some Network (suc (suc n)) i m few h = fine_crossings (suc (suc n)) i m (omega arith)
fine_some Table n i m few h = fine_turns n i (replicate m Left) few (omega (arith, length-replicate m Left))

-- a head and lines of values in range begin a sheet
begins : (k : Kind) (n : ℕ) (vs : List (Value k)) → n ≤ limit k → Fine (form k n) 0 vs → length vs ≤ due k n → Begins (heads.line 0 (k, n) ++ 10 ∷ lines (form k n) 0 vs)
begins k n vs few fine h =
    let m = due k n - length vs in
    let ws = replicate m (some_value k) in
    let e : 0 + length vs ≡ length vs = zero-add (length vs) in
    record {
      kind = k;
      count = n;
      values = vs ++ ws;
      sheet = record {
        limited = few;
        many = length-append vs ws ∙ ap (λ l. length vs + l) (length-replicate m (some_value k)) ∙ omega arith;
        fine = fine_append (form k n) 0 vs ws fine (subst (λ i. Fine (form k n) i ws) (sym e) (fine_some k n (length vs) m few (omega arith)));
      };
      rest = lines (form k n) (0 + length vs) ws;
      is = ap (λ l. heads.line 0 (k, n) ++ 10 ∷ l) (lines_append (form k n) 0 vs ws) ∙ sym (append_assoc (heads.line 0 (k, n)) (10 ∷ lines (form k n) 0 vs) (lines (form k n) (0 + length vs) ws));
    }

-- where the next line is wrong, no sheet has it after the same lines
no_next : {V : Type 0} (f : Form V) → Plain f → (n : ℕ) (vs ws : List V) (rest : List ℕ) (fault : Fault) → Wrong f n (length vs) rest fault → Fine f 0 vs → Fine f 0 ws → length ws ≡ n → (bs after next : List ℕ) → Lacks 10 bs → rest ≡ bs ++ 10 ∷ after → lines f 0 vs ++ (bs ++ 10 ∷ next) ≡ lines f 0 ws → ⊥
no_next {V} f p n vs ws rest fault wrong fv fw many bs after next lacks is e =
    go q.0 q.1 (subst (λ m. Fine f m q.0) (zero-add (length vs)) q.2) (q.3 ∙ append-nil _ ∙ ap (λ m. lines f m q.0) (zero-add (length vs)))
  where
    few : length vs ≤ n
    few = within f p n (length vs) rest fault wrong

    q : (us : List V) × (ws ≡ vs ++ us) × Fine f (0 + length vs) us × (bs ++ 10 ∷ next ≡ lines f (0 + length vs) us ++ [])
    q = prefix f p 0 vs ws (bs ++ 10 ∷ next) [] fv fw (omega (arith, few)) (e ∙ sym (append-nil _))

    go : (us : List V) → ws ≡ vs ++ us → Fine f (length vs) us → bs ++ 10 ∷ next ≡ lines f (length vs) us → ⊥
    go [] same fine at = not_nil 10 bs next at
    go (u ∷ us) same fine at =
        let here = (cut_unique 10 bs next (f.line (length vs) u) (lines f (suc (length vs)) us) lacks (p.whole (length vs) u fine.0) at).0 in
        let under : length vs < n = omega (arith, ap length same, length-append vs (u ∷ us)) in
        unstuck f p n (length vs) rest fault u after under fine.0 fine.1 (is ∙ ap (λ l. l ++ 10 ∷ after) here) wrong

-- the line that the refusal names
place_of : {V : Type 0} (f : Form V) (n i : ℕ) (rest : List ℕ) (fault : Fault) → Wrong f n i rest fault → places fault ≡ (i + 2) ∷ []
place_of f n i rest fault (missing lt e) = refl
place_of f n i rest fault (surplus e some) = refl
place_of f n i rest fault (torn lt some no_value) = refl
place_of f n i rest fault (outsize lt v after w unfit e) = refl

-- a text that does not open stops at the line of the head
module _ (text : List ℕ) (short : length text ≤ 32768) (fault : Fault) (u : Unopened text fault) where
  no_head_goes_on : (bs after : List ℕ) → Lacks 10 bs → text ≡ bs ++ 10 ∷ after → Begins (bs ++ 10 ∷ []) → ⊥
  no_head_goes_on bs after lacks e g =
      let limited = g.sheet.limited in
      let whole = head_whole (g.kind, g.count) (count_six g.kind g.count limited) in
      let same = (cut_unique 10 (heads.line 0 (g.kind, g.count)) _ bs g.rest whole lacks (g.is ∙ append_assoc bs (10 ∷ []) g.rest)).0 in
      not_opened text g.kind g.count after (record { short = short; limited = limited; is = e ∙ ap (λ l. l ++ 10 ∷ after) (sym same) }) fault u

  at_head : (before : ℕ) → 1 ≡ before + 1 → StopsAfter text before
  at_head before e =
      record {
        lines = [];
        rest = text;
        is = refl;
        lined = let z : 0 ≡ before = omega arith in subst (λ m. Lined m []) z none;
        begins = record { kind = Points; count = 0; values = []; sheet = record { limited = omega arith; many = refl; fine = tt }; rest = written Points 0 []; is = refl };
        ends = no_head_goes_on;
        no_sheet = λ k n vs sheet is. not_opened text k n _ (opens text k n vs (record { short = short; sheet = sheet; is = is })) fault u;
      }

-- a text whose lines stop has lines that are fine, and then the wrong one
module _ (text : List ℕ) (k : Kind) (n : ℕ) (rest : List ℕ) (o : Opens text k n rest) (fault : Fault) (s : Stops (form k n) (due k n) rest fault) where
  head_line : List ℕ
  head_line = heads.line 0 (k, n)

  good_lines : List ℕ
  good_lines = head_line ++ 10 ∷ lines (form k n) 0 s.good

  no_line_goes_on : (bs after : List ℕ) → Lacks 10 bs → s.rest ≡ bs ++ 10 ∷ after → Begins (good_lines ++ (bs ++ 10 ∷ [])) → ⊥
  unfolding head_line good_lines
  no_line_goes_on bs after lacks e g =
      let all = written g.kind g.count g.values in
      let body = lines (form k n) 0 s.good ++ (bs ++ 10 ∷ g.rest) in
      let split : all ≡ head_line ++ 10 ∷ body =
      g.is ∙ append_assoc good_lines (bs ++ 10 ∷ []) g.rest ∙ ap (λ l. good_lines ++ l) (append_assoc bs (10 ∷ []) g.rest)
      ∙ append_assoc head_line (10 ∷ lines (form k n) 0 s.good) (bs ++ 10 ∷ g.rest) in
      let few = short_enough g.kind g.count g.values g.sheet in
      let there : Opens all g.kind g.count (lines (form g.kind g.count) 0 g.values) = record { short = few; limited = g.sheet.limited; is = refl } in
      let here : Opens all k n body = record { short = few; limited = o.limited; is = split } in
      let found = moved all (λ k n. (ws : List (Value k)) × Sheet k n ws × (all ≡ written k n ws)) g.kind g.count _ k n body there here (g.values, g.sheet, refl) in
      let ws = found.0 in
      let same = (one_opening all k n (lines (form k n) 0 ws) k n body (record { short = few; limited = o.limited; is = found.2 }) here).1 in
      no_next (form k n) (plain k n) (due k n) s.good ws s.rest fault s.wrong s.upto.fine found.1.fine found.1.many bs after g.rest lacks e (sym same)

  at_line : (before : ℕ) → length s.good + 2 ≡ before + 1 → StopsAfter text before
  unfolding head_line good_lines
  at_line before e =
      record {
        lines = good_lines;
        rest = s.rest;
        is = o.is ∙ ap (λ l. head_line ++ 10 ∷ l) s.upto.read ∙ sym (append_assoc head_line (10 ∷ lines (form k n) 0 s.good) s.rest);
        lined =
            let z : suc (length s.good) ≡ before = omega arith in
            subst (λ m. Lined m good_lines) z (more head_line (head_whole (k, n) (count_six k n o.limited)) (lined_lines (form k n) (plain k n) 0 s.good s.upto.fine));
        begins = begins k n s.good o.limited s.upto.fine (within (form k n) (plain k n) (due k n) (length s.good) s.rest fault s.wrong);
        ends = no_line_goes_on;
        no_sheet = λ l m vs sheet is. sheet_goes text l m vs (record { short = o.short; sheet = sheet; is = is }) k n rest o fault s;
      }

first : List ℕ → ℕ
first l = get_or l 0 0

by_head : (text : List ℕ) (fault : Fault) (before : ℕ) → Unopened text fault → places fault ≡ (before + 1) ∷ [] → StopsAfter text before
unfolding first
by_head text fault before (long h) e = let z = ap first e in absurd (omega arith)
by_head text fault before (headless short no_value) e = at_head text short fault (headless short no_value) before (ap first e)
by_head text fault before (overcount short v rest w unfit is) e = at_head text short fault (overcount short v rest w unfit is) before (ap first e)

pub first_line : FirstLine
unfolding first
first_line text b a fault before answers few e = go answers.0
  where
    go : Declines text b fault → StopsAfter text before
    go (unopened u) = by_head text fault before u e
    go (stopped k n rest o s) =
        at_line text k n rest o fault s before (ap first (sym (place_of (form k n) (due k n) (length s.good) s.rest fault s.wrong) ∙ e))
    go (tight k n vs h less is) = let z : 13 ≤ 3 = subst (λ f. number f ≤ 3) is few in absurd (omega arith)
