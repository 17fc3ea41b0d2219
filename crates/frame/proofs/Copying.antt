-- A text in bytes of the caller's.
use Rattle.std.proofs.Common.{◌≡◌, ℕ, List, length, Ok, Err, Result, IfOk, MatchResult, sym, subst, subst₂}
use Rattle.cc.specs.declared.faults.Fault.{Fault}
use Rattle.cc.specs.Lists.{Copied as Fronted}
use Rattle.frame.specs.Handing.{Copied, Handed, handed, no_memory, written, tight}

pub handed_over : (text before after : List ℕ) (r : Result ℕ Fault) → Fronted text before after r → Copied text before (length text) after
handed_over text before after (Ok n) (_, fits, is) = subst (Copied text before (length text)) (sym is) (written fits)
handed_over text before after (Err f) (_, short, is) = subst (Copied text before (length text)) (sym is) (tight short)

-- a text that says what it should, or want of memory
pub handed_by : {T E : Type 0} (bytes : T → List ℕ) (Says : List ℕ → Type 0) (said : Result T E) (before after : List ℕ) (n : ℕ) → IfOk said (λ t. Says (bytes t))
    → MatchResult said (λ t. Copied (bytes t) before n after) (λ _. (n ≡ 18446744073709551615) × (after ≡ before)) → Handed Says before n after
handed_by bytes Says (Ok t) before after n says copied = handed says copied
handed_by bytes Says (Err e) before after n says (is, same) = subst₂ (Handed Says before) (sym is) (sym same) no_memory
