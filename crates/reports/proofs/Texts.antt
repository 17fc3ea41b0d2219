-- Texts that are written part by part.
use Rattle.std.proofs.Common.{◌≡◌, ℕ, List, [], ◌++◌, Ok, Err, Result, OnOk, ap, ◌∙◌, append_assoc}
use Rattle.reports.specs.Reports.{Adds}

-- two writes, one after the other
pub two_writes : (e x y a b : List ℕ) → x ≡ e ++ a → y ≡ x ++ b → y ≡ e ++ (a ++ b)
two_writes e x y a b p q = q ∙ (ap (λ k. k ++ b) p ∙ append_assoc e a b)

-- a text that is written into an empty one
pub from_empty : (e x t : List ℕ) → e ≡ [] → x ≡ e ++ t → x ≡ t
from_empty e x t p q = q ∙ ap (λ k. k ++ t) p

-- what follows from what holds where a call succeeds
pub on_ok : {V E P Q : Type 0} (r : Result V E) → (P → Q) → OnOk r P → OnOk r Q
on_ok (Ok _) f p = f p
on_ok (Err _) f p = tt

-- what a text that was added at the end says
pub adding : {V E : Type 0} (P : List ℕ → Type 0) (r : Result V E) (before after text : List ℕ) → P text → OnOk r (after ≡ before ++ text) → OnOk r (Adds P before after)
adding P (Ok _) before after text told is = (text, told, is)
adding P (Err _) before after text told is = tt
