-- A head and the lines after it make the answer of a reading.
use Rattle.std.proofs.Common.{min, ◌≡◌, ℕ, ◌-◌, ◌<◌, ◌≤◌, List, length, take, ap, ◌∙◌, subst, arith}
use Rattle.std.proofs.lemmas.List.{length-take-le}
use Rattle.cc.specs.declared.faults.Fault.{Fault}
use Rattle.cc.specs.declared.faults.Fault.TheVariants.{Tight}
use Rattle.sheet.specs.Forms.{Stops}
use Rattle.sheet.specs.Sheets.{Declines, Holds, Lists, Opens, Value, due, form, limit, list, stopped, tight}
use Rattle.sheet.specs.Turnings.{pairs_few, triples_few}
use Rattle.sheet.specs.declared.Kind.{Kind}
use Rattle.sheet.specs.declared.Kind.TheVariants.{Points, FlatPoints, Network, Table}

module _ (k : Kind) (text : List ℕ) (n : ℕ) (rest : List ℕ) where
  -- a text whose lines stop is refused, where the kind and the number of lines due go by other names
  pub stops : (kind : Kind) (m : ℕ) (fault : Fault) → kind ≡ k → m ≡ due k n → Opens text kind n rest → Stops (form k n) m rest fault → (room : Lists) → Declines text room fault
  stops kind m fault is many opens why room =
      stopped k n rest (subst (λ l. Opens text l n rest) is opens) (subst (λ l. Stops (form k n) l rest fault) many why)

-- the most lines that may be due
abbrev pub most_due : Kind → ℕ
most_due Points = 128
most_due FlatPoints = 128
most_due Network = 496
most_due Table = 2024

few_due : (k : Kind) (n : ℕ) → n ≤ limit k → due k n ≤ most_due k
few_due Points n few = few
few_due FlatPoints n few = few
few_due Network n few = pairs_few n (n - 1) few (omega arith)
few_due Table n few = triples_few n (n - 1) (n - 2) few (omega arith) (omega arith)

-- m of the list's entries are taken, one for each line that is due
pub due_taken : {V : Type 0} (kind k : Kind) (n m : ℕ) (list : List V) → kind ≡ k → m ≡ due kind (min n (limit kind)) → n ≤ limit kind → most_due k ≤ length list → length (take m list) ≡ due k n
due_taken kind k n m list is due_is limited room =
    let small : min n (limit kind) ≡ n = omega (arith, limited) in
    let e = due_is ∙ ap (due kind) small ∙ ap (λ k. due k n) is in
    let few = few_due k n (subst (λ k. n ≤ limit k) is limited) in
    length-take-le m list (omega (arith, e, few)) ∙ e

-- the list of the kind is too short for the values
pub too_short : (k : Kind) (text : List ℕ) (n : ℕ) (vs : List (Value k)) (b : Lists) (fault : Fault) → Holds text k n vs → length (list k b) < length vs → fault ≡ Tight (length vs) → Declines text b fault
too_short k text n vs b fault h less is =
    let many = h.sheet.many in
    tight k n vs h (subst (λ m. length (list k b) < m) many less) (is ∙ ap Tight many)
