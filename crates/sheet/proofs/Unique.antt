-- A text is read in one way.
use Rattle.std.proofs.Common.{◌≡◌, ℕ, suc, ◌+◌, ◌<◌, ◌≤◌, List, [], ◌∷◌, ◌++◌, length, sym, refl, ap, ◌∙◌, subst, ⊎_elim, append_assoc, append-nil, add-zero, zero-add, arith, length-append}
use Rattle.std.proofs.str.Laws.{order}
use Rattle.cc.specs.declared.faults.Fault.{Fault}
use Rattle.sheet.specs.Fields.{Lacks}
use Rattle.sheet.specs.Forms.{Form, lines, Fine, Upto, Wrong, missing, surplus, torn, outsize, Stops}
use Rattle.sheet.specs.Cuts.{cut_unique, not_nil}

-- no line holds a byte 10, and a line says one value
pub record Plain {V : Type 0} (f : Form V) : Type 0 where
  pub whole : (i : ℕ) (v : V) → f.Written i v → Lacks 10 (f.line i v)
  pub one : (i : ℕ) (u v : V) → f.Written i u → f.Written i v → f.line i u ≡ f.line i v → u ≡ v

module _ {V : Type 0} (f : Form V) (plain : Plain f) where
  pub same_line : (i : ℕ) (u v : V) (r s : List ℕ) → f.Written i u → f.Written i v → f.line i u ++ 10 ∷ r ≡ f.line i v ++ 10 ∷ s → (u ≡ v) × (r ≡ s)
  same_line i u v r s wu wv e =
      let cut = cut_unique 10 (f.line i u) r (f.line i v) s (plain.whole i u wu) (plain.whole i v wv) e in
      (plain.one i u v wu wv cut.0, cut.1)

  -- of two runs of lines at the front of a text, the longer begins with the shorter
  pub prefix : (i : ℕ) (vs ws : List V) (r s : List ℕ) → Fine f i vs → Fine f i ws → length vs ≤ length ws → lines f i vs ++ r ≡ lines f i ws ++ s → (us : List V) × (ws ≡ vs ++ us) × Fine f (i + length vs) us × (r ≡ lines f (i + length vs) us ++ s)
  prefix i [] ws r s fv fw h e =
      (ws, refl, subst (λ k. Fine f k ws) (sym (add-zero i)) fw, e ∙ ap (λ k. lines f k ws ++ s) (sym (add-zero i)))
  prefix i (v ∷ vs) [] r s fv fw h e = absurd (omega arith)
  prefix i (v ∷ vs) (w ∷ ws) r s fv fw h e =
      let e' = sym (append_assoc (f.line i v) (10 ∷ lines f (suc i) vs) r) ∙ e ∙ append_assoc (f.line i w) (10 ∷ lines f (suc i) ws) s in
      let first = same_line i v w _ _ fv.0 fw.0 e' in
      let rest = prefix (suc i) vs ws r s fv.2 fw.2 (omega arith) first.1 in
      let k : suc i + length vs ≡ i + suc (length vs) = omega arith in
      (rest.0, (λ j. sym first.0 j ∷ rest.1 j), subst (λ m. Fine f m rest.0) k rest.2, rest.3 ∙ ap (λ m. lines f m rest.0 ++ s) k)

  -- where a fine line is due and there, nothing is wrong
  pub unstuck : (n i : ℕ) (rest : List ℕ) (fault : Fault) (u : V) (after : List ℕ) → i < n → f.Written i u → f.Fits u → rest ≡ f.line i u ++ 10 ∷ after → Wrong f n i rest fault → ⊥
  unstuck n i rest fault u after h w fits e (missing lt none) = not_nil 10 (f.line i u) after (sym e ∙ none)
  unstuck n i rest fault u after h w fits e (surplus many some) = omega arith
  unstuck n i rest fault u after h w fits e (torn lt some none) = none u after w e
  unstuck n i rest fault u after h w fits e (outsize lt v more w' unfit e') =
      unfit (subst f.Fits (same_line i u v after more w w' (sym e ∙ e')).0 fits)

  -- a reading goes no further than the lines due
  pub within : (n i : ℕ) (rest : List ℕ) (fault : Fault) → Wrong f n i rest fault → i ≤ n
  within n i rest fault (missing lt none) = omega arith
  within n i rest fault (surplus many some) = omega arith
  within n i rest fault (torn lt some none) = omega arith
  within n i rest fault (outsize lt v more w unfit e) = omega arith

  -- one fault at most
  one_fault : (n i : ℕ) (rest : List ℕ) (a b : Fault) → Wrong f n i rest a → Wrong f n i rest b → a ≡ b
  one_fault n i rest a b (missing lt none) (missing lt' none') = refl
  one_fault n i rest a b (missing lt none) (surplus many some) = refl
  one_fault n i rest a b (missing lt none) (torn lt' some no_value) = absurd (some none)
  one_fault n i rest a b (missing lt none) (outsize lt' v more w unfit e) = absurd (not_nil 10 (f.line i v) more (sym e ∙ none))
  one_fault n i rest a b (surplus many some) (missing lt none) = refl
  one_fault n i rest a b (surplus many some) (surplus many' some') = refl
  one_fault n i rest a b (surplus many some) (torn lt some' no_value) = absurd (omega arith)
  one_fault n i rest a b (surplus many some) (outsize lt v more w unfit e) = absurd (omega arith)
  one_fault n i rest a b (torn lt some no_value) (missing lt' none) = absurd (some none)
  one_fault n i rest a b (torn lt some no_value) (surplus many some') = absurd (omega arith)
  one_fault n i rest a b (torn lt some no_value) (torn lt' some' no-value') = refl
  one_fault n i rest a b (torn lt some no_value) (outsize lt' v more w unfit e) = absurd (no_value v more w e)
  one_fault n i rest a b (outsize lt v more w unfit e) (missing lt' none) = absurd (not_nil 10 (f.line i v) more (sym e ∙ none))
  one_fault n i rest a b (outsize lt v more w unfit e) (surplus many some) = absurd (omega arith)
  one_fault n i rest a b (outsize lt v more w unfit e) (torn lt' some no_value) = absurd (no_value v more w e)
  one_fault n i rest a b (outsize lt v more w unfit e) (outsize lt' v' more' w' unfit' e') = refl

  -- past the good lines of a reading that stops, no reading goes on
  no_further : (n : ℕ) (text : List ℕ) (vs ws : List V) (r s : List ℕ) (fault : Fault) → Upto f text vs r → Upto f text ws s → Wrong f n (length vs) r fault → length vs < length ws → length ws ≤ n → ⊥
  no_further n text vs ws r s fault uv uw wrong h k =
      go p.0 p.1 (subst (λ m. Fine f m p.0) (zero-add (length vs)) p.2) (p.3 ∙ ap (λ m. lines f m p.0 ++ s) (zero-add (length vs)))
    where
      p : (us : List V) × (ws ≡ vs ++ us) × Fine f (0 + length vs) us × (r ≡ lines f (0 + length vs) us ++ s)
      p = prefix 0 vs ws r s uv.fine uw.fine (omega arith) (sym uv.read ∙ uw.read)

      go : (us : List V) → ws ≡ vs ++ us → Fine f (length vs) us → r ≡ lines f (length vs) us ++ s → ⊥
      go [] e fine is = let same = ap length (e ∙ append-nil vs) in omega arith
      go (u ∷ us) e fine is =
          unstuck n (length vs) r fault u (lines f (suc (length vs)) us ++ s) (omega arith) fine.0 fine.1 (is ∙ append_assoc (f.line (length vs) u) (10 ∷ lines f (suc (length vs)) us) s) wrong

  -- readings of one length agree
  pub agree : (text : List ℕ) (vs ws : List V) (r s : List ℕ) → Upto f text vs r → Upto f text ws s → length vs ≡ length ws → (vs ≡ ws) × (r ≡ s)
  agree text vs ws r s uv uw e =
      go p.0 p.1 p.3
    where
      p : (us : List V) × (ws ≡ vs ++ us) × Fine f (0 + length vs) us × (r ≡ lines f (0 + length vs) us ++ s)
      p = prefix 0 vs ws r s uv.fine uw.fine (omega arith) (sym uv.read ∙ uw.read)

      go : (us : List V) → ws ≡ vs ++ us → r ≡ lines f (0 + length vs) us ++ s → (vs ≡ ws) × (r ≡ s)
      go [] is rest = (sym (is ∙ append-nil vs), rest)
      go (u ∷ us) is rest = absurd (omega (arith, ap length is, length-append vs (u ∷ us)))

  done : (n : ℕ) (fault : Fault) → Wrong f n n [] fault → ⊥
  done n fault (missing lt none) = omega arith
  done n fault (surplus many some) = some refl
  done n fault (torn lt some none) = some refl
  done n fault (outsize lt v more w unfit e) = omega arith

  -- a text that is read does not stop
  pub not_both : (n : ℕ) (text : List ℕ) (vs : List V) (fault : Fault) → Upto f text vs [] → length vs ≡ n → Stops f n text fault → ⊥
  not_both n text vs fault uv e stop =
      let few = within n (length stop.good) stop.rest fault stop.wrong in
      ⊎_elim
      (λ lt. no_further n text stop.good vs stop.rest [] fault stop.upto uv stop.wrong lt (omega arith))
      (λ ge.
      let long : length stop.good ≡ n = omega arith in
      let rest = (agree text stop.good vs stop.rest [] stop.upto uv (omega arith)).1 in
      done n fault (subst (λ m. Wrong f n m [] fault) long (subst (λ r. Wrong f n (length stop.good) r fault) rest stop.wrong)))
      (order (length stop.good) (length vs))

  -- a text stops for one fault
  pub one_stop : (n : ℕ) (text : List ℕ) (a b : Fault) → Stops f n text a → Stops f n text b → a ≡ b
  one_stop n text a b s t =
      let few = within n (length s.good) s.rest a s.wrong in
      let few' = within n (length t.good) t.rest b t.wrong in
      ⊎_elim
      (λ lt. absurd (no_further n text s.good t.good s.rest t.rest a s.upto t.upto s.wrong lt few'))
      (λ ge. ⊎_elim
      (λ lt. absurd (no_further n text t.good s.good t.rest s.rest b t.upto s.upto t.wrong lt few))
      (λ le.
      let long : length s.good ≡ length t.good = omega arith in
      let rest = (agree text s.good t.good s.rest t.rest s.upto t.upto long).1 in
      one_fault n (length t.good) t.rest a b (subst (λ r. Wrong f n (length t.good) r a) rest (subst (λ m. Wrong f n m s.rest a) long s.wrong)) t.wrong)
      (order (length t.good) (length s.good)))
      (order (length s.good) (length t.good))
