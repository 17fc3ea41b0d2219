-- Reading lines one after another.
use Rattle.std.proofs.Common.{◌≡◌, ℕ, suc, ◌+◌, ◌<◌, ◌≤◌, ◌≢◌, List, [], ◌∷◌, ◌++◌, length, take, set, Ok, Err, Some, Option, Result, sym, ap, ◌∙◌, subst, append_assoc, add-zero, zero-add, arith}
use Rattle.std.proofs.lemmas.List.{length-take-le, take_all, take_more_set}
use Rattle.std.specs.Option.{ok_or}
use Rattle.cc.specs.declared.faults.Fault.{Fault}
use Rattle.cc.specs.declared.faults.Fault.TheVariants.{Torn, Outsize, Miscounted}
use Rattle.sheet.specs.Fields.{Lacks, Says}
use Rattle.sheet.specs.Forms.{Form, Flawed, formless, beyond, Missed, ended, unended, Judged, lines, Fine, Upto, Wrong, missing, surplus, torn, outsize, Stops}
use Rattle.sheet.proofs.Results.{or_none}
use Rattle.sheet.specs.Cuts.{cut_none, cut_unique, not_nil}

lines_push : {V : Type 0} (f : Form V) (i : ℕ) (vs : List V) (v : V) → lines f i (vs ++ v ∷ []) ≡ lines f i vs ++ (f.line (i + length vs) v ++ 10 ∷ [])
lines_push f i [] v = ap (λ k. f.line k v ++ 10 ∷ []) (sym (add-zero i))
lines_push f i (u ∷ vs) v =
    ap (λ l. f.line i u ++ 10 ∷ l) (lines_push f (suc i) vs v ∙ ap (λ k. lines f (suc i) vs ++ (f.line k v ++ 10 ∷ [])) (omega arith))
    ∙ sym (append_assoc (f.line i u) (10 ∷ lines f (suc i) vs) _)

fine_push : {V : Type 0} (f : Form V) (i : ℕ) (vs : List V) (v : V) → Fine f i vs → f.Written (i + length vs) v → f.Fits v → Fine f i (vs ++ v ∷ [])
fine_push f i [] v fine w fits = (subst (λ k. f.Written k v) (add-zero i) w, fits, tt)
fine_push f i (u ∷ vs) v fine w fits =
    (fine.0, fine.1, fine_push f (suc i) vs v fine.2 (subst (λ k. f.Written k v) (omega arith) w) fits)

lines_after : {V : Type 0} (f : Form V) (vs : List V) (v : V) (after : List ℕ) → lines f 0 (vs ++ v ∷ []) ++ after ≡ lines f 0 vs ++ (f.line (length vs) v ++ 10 ∷ after)
lines_after f vs v after =
    let here = f.line (length vs) v in
    ap (λ l. l ++ after) (lines_push f 0 vs v ∙ ap (λ k. lines f 0 vs ++ (f.line k v ++ 10 ∷ [])) (zero-add (length vs)))
    ∙ append_assoc (lines f 0 vs) (here ++ 10 ∷ []) after
    ∙ ap (λ l. lines f 0 vs ++ l) (append_assoc here (10 ∷ []) after)

-- a line that says no value is torn, and one that says a value out of range is outsize
pub untold : {V : Type 0} (f : Form V) (i number n : ℕ) (bs : List ℕ) (r : Option V) (fault : Fault) → Says (f.Written i) (f.line i) bs r → Err fault ≡ ok_or r (Torn n) → n ≡ number → Flawed f i number bs fault
untold f i number n bs r fault told e same =
    let none = or_none r (Torn n) fault e in
    subst (Flawed f i number bs) (sym (none.0 ∙ ap Torn same)) (formless (subst (Says (f.Written i) (f.line i) bs) none.1 told))

pub beyond_range : {V : Type 0} (f : Form V) (i number n : ℕ) (bs : List ℕ) (r : Option V) (v : V) → Says (f.Written i) (f.line i) bs r → r ≡ Some v → (f.Fits v → ⊥) → n ≡ number → Flawed f i number bs (Outsize n)
beyond_range f i number n bs r v told e unfit same =
    let is = subst (Says (f.Written i) (f.line i) bs) e told in
    subst (λ n. Flawed f i number bs (Outsize n)) (sym same) (beyond v is.0 unfit is.1)

-- a line is judged alike under equal counts and equal places in the sheet
pub judged_at : {V : Type 0} (form : ℕ → Form V) (count n at i : ℕ) (bs : List ℕ) (r : Result V Fault) → count ≡ n → at ≡ i → Judged (form count) at (at + 2) bs r → Judged (form n) i (i + 2) bs r
judged_at form count n at i bs r e f h = subst (λ n. Judged (form n) i (i + 2) bs r) e (subst (λ i. Judged (form count) i (i + 2) bs r) f h)

module _ {V : Type 0} (f : Form V) (text : List ℕ) where
  pub upto_more : (vs : List V) (rest : List ℕ) (v : V) (after : List ℕ) → Upto f text vs rest → f.Written (length vs) v → f.Fits v → rest ≡ f.line (length vs) v ++ 10 ∷ after → Upto f text (vs ++ v ∷ []) after
  upto_more vs rest v after so w fits e =
      record {
        fine = fine_push f 0 vs v so.fine (subst (λ k. f.Written k v) (sym (zero-add (length vs))) w) fits;
        read = so.read ∙ ap (λ l. lines f 0 vs ++ l) e ∙ sym (lines_after f vs v after);
      }

  -- the i-th line is fine, and its value is written at i
  pub upto_set : (list : List V) (i : ℕ) (rest : List ℕ) (v : V) (bs after : List ℕ) → i < length list → Upto f text (take i list) rest → Judged f i (i + 2) bs (Ok v) → rest ≡ bs ++ 10 ∷ after → Upto f text (take (i + 1) (set list i v)) after
  upto_set list i rest v bs after h so judged e =
      let long = length-take-le i list (omega arith) in
      subst (λ vs. Upto f text vs after) (sym (take_more_set list i v h))
      (upto_more (take i list) rest v after so (subst (λ k. f.Written k v) (sym long) judged.0) judged.1 (e ∙ ap (λ l. l ++ 10 ∷ after) (judged.2 ∙ ap (λ k. f.line k v) (sym long))))

  pub upto_all : (list : List V) (i : ℕ) (rest : List ℕ) → length list ≤ i → rest ≡ [] → Upto f text (take i list) rest → Upto f text list []
  upto_all list i rest h none so = subst (λ l. Upto f text l []) (take_all i list h) (subst (Upto f text (take i list)) none so)

  module _ (n : ℕ) (vs : List V) (rest : List ℕ) (so : Upto f text vs rest) (i : ℕ) (long : length vs ≡ i) where
    stop : (fault : Fault) → Wrong f n i rest fault → Stops f n text fault
    stop fault wrong =
        record { good = vs; rest = rest; upto = so; wrong = subst (λ k. Wrong f n k rest fault) (sym long) wrong }

    -- reading stops where no line is left, or none that a byte 10 ends
    pub stop_missed : i < n → (fault : Fault) → Missed rest (i + 2) fault → Stops f n text fault
    stop_missed h fault (ended e) = stop fault (missing h e)
    stop_missed h fault (unended some l) = stop fault (torn h some (λ v after w e. cut_none rest (f.line i v) after l e))

    pub stop_surplus : i ≡ n → rest ≢ [] → Stops f n text (Miscounted (n + 2))
    stop_surplus h e = subst (λ k. Stops f n text (Miscounted (k + 2))) h (stop (Miscounted (i + 2)) (surplus h e))

    -- reading stops where the line bs is refused
    pub stop_judged : ((v : V) → f.Written i v → Lacks 10 (f.line i v)) → i < n → (bs after : List ℕ) → Lacks 10 bs × (rest ≡ bs ++ 10 ∷ after) → (fault : Fault) → Flawed f i (i + 2) bs fault → Stops f n text fault
    stop_judged whole h bs after is fault (formless none) =
        stop fault (torn h (λ e. not_nil 10 bs after (sym is.1 ∙ e)) (λ v after' w e. none v w (cut_unique 10 bs after (f.line i v) after' is.0 (whole v w) (sym is.1 ∙ e)).0))
    stop_judged whole h bs after is fault (beyond v w unfit e) =
        stop fault (outsize h v after w unfit (is.1 ∙ ap (λ l. l ++ 10 ∷ after) e))
