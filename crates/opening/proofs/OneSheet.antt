-- A text is one sheet, or refused for one fault.
use Rattle.std.proofs.Common.{◌≡◌, ℕ, ◌≤◌, List, [], ◌++◌, length, drop, Ok, Err, sym, refl, ap, ◌∙◌, subst, append-nil, arith}
use Rattle.std.proofs.lemmas.List.{drop_all}
use Rattle.cc.specs.declared.faults.Fault.{Fault}
use Rattle.sheet.specs.Sheets.{Declines, Holds, Lists, Others, Reads, Value, due, list, lists}
use Rattle.sheet.specs.declared.Kind.{Kind}
use Rattle.sheet.specs.declared.Kind.TheVariants.{Points, FlatPoints, Network, Table}
use Rattle.sheet.proofs.Exact.{moved, one_answer, opens}

-- lists that have just these values
abbrev holding : (k : Kind) → List (Value k) → Lists
holding Points ps = lists ps [] []
holding FlatPoints ps = lists ps [] []
holding Network cs = lists [] cs []
holding Table ts = lists [] [] ts

held : (k : Kind) (vs : List (Value k)) → list k (holding k vs) ≡ vs
held Points ps = refl
held FlatPoints ps = refl
held Network cs = refl
held Table ts = refl

beside : (k : Kind) (vs ws : List (Value k)) → Others k (holding k vs) (holding k ws)
beside Points ps qs = (refl, refl)
beside FlatPoints ps qs = (refl, refl)
beside Network cs ds = (refl, refl)
beside Table ts us = (refl, refl)

module _ (text : List ℕ) where
  -- read into a list that is just as long, the values of a sheet are all that it holds
  reads : (k : Kind) (n : ℕ) (vs ws : List (Value k)) → Holds text k n vs → Holds text k n ws → Reads text k n (holding k vs) (holding k ws)
  reads k n vs ws h g =
      record {
        values = ws;
        holds = g;
        long = subst (λ l. due k n ≤ length l) (sym (held k vs)) (omega (arith, h.sheet.many));
        front = held k ws ∙ sym (ap (λ l. ws ++ drop (due k n) l) (held k vs) ∙ ap (λ l. ws ++ l) (drop_all (due k n) vs (omega (arith, h.sheet.many))) ∙ append-nil ws);
        others = beside k vs ws;
      }

  one_values : (k : Kind) (n : ℕ) (vs ws : List (Value k)) → Holds text k n vs → Holds text k n ws → vs ≡ ws
  one_values k n vs ws h g =
      let same = (one_answer text (holding k vs) (holding k vs) (holding k ws) (Ok (k, n)) (Ok (k, n)) (reads k n vs vs h h) (reads k n vs ws h g)).1 in
      sym (held k vs) ∙ ap (list k) same ∙ held k ws

  -- what holds of a sheet's list holds of the list of every sheet with this text
  pub same_sheet : (P : (k : Kind) → ℕ → List (Value k) → Type 0) (k : Kind) (n : ℕ) (vs : List (Value k)) (l : Kind) (m : ℕ) (ws : List (Value l))
      → Holds text k n vs → Holds text l m ws → P k n vs → P l m ws
  same_sheet P k n vs l m ws h g p =
      let (us, k', q) = moved text (λ k n. (us : List (Value k)) × Holds text k n us × P k n us) k n _ l m _ (opens text k n vs h) (opens text l m ws g) (vs, h, p) in
      subst (P l m) (one_values l m us ws k' g) q

  -- a sheet is not refused
  pub not_refused : (k : Kind) (n : ℕ) (vs : List (Value k)) (f : Fault) → Holds text k n vs → ((room : Lists) → Declines text room f) → ⊥
  not_refused k n vs f h d =
      let room = holding k vs in
      let z : ◌≡◌ {A = ℕ} 0 1 = cc (one_answer text room room room (Ok (k, n)) (Err f) (reads k n vs vs h h) (d room, refl)).0 in
      omega arith

  pub one_refusal : (f g : Fault) → ((room : Lists) → Declines text room f) → ((room : Lists) → Declines text room g) → f ≡ g
  one_refusal f g d e =
      let room = lists [] [] [] in
      let same = (one_answer text room room room (Err f) (Err g) (d room, refl) (e room, refl)).0 in
      cc
