-- What `ok` and `ok_or` make of an answer.
use Rattle.std.proofs.Common.{◌≡◌, Some, None, Ok, Err, Option, Result, MatchOption, MatchResult, sym, refl, subst}
use Rattle.std.specs.Option.{ok_or}
use Rattle.std.specs.Result.{result_ok}

-- what holds of the value that `ok` gives, and of the error that it drops
pub some_ok : {T E : Type 0} (P : T → Type 0) (Q : E → Type 0) (r : Result T E) (x : T) → Some x ≡ result_ok r → MatchResult r P Q → P x
some_ok P Q (Ok y) x e h = let same : y ≡ x = cc in subst P same h
some_ok P Q (Err y) x e h = absurd (cc)

pub none_err : {T E : Type 0} (P : T → Type 0) (Q : E → Type 0) (r : Result T E) (o : Option T) → o ≡ result_ok r → o ≡ None → MatchResult r P Q → (e : E) × Q e
none_err P Q (Ok y) o e none h = absurd (cc)
none_err P Q (Err y) o e none h = (y, h)

-- what holds of the value that `ok_or` gives, or of the error that it puts in place of none
pub or_error : {T E : Type 0} (N : Type 0) (P : T → Type 0) (Q : E → Type 0) (o : Option T) (e : E) (r : Result T E) → r ≡ ok_or o e → MatchOption o N P → (N → Q e) → MatchResult r P Q
or_error N P Q (Some x) e r is h none = subst (λ r. MatchResult r P Q) (sym is) h
or_error N P Q None e r is h none = subst (λ r. MatchResult r P Q) (sym is) (none h)

-- an error that `ok_or` gives came in place of none
pub or_none : {T E : Type 0} (o : Option T) (e f : E) → Err f ≡ ok_or o e → (f ≡ e) × (o ≡ None)
or_none (Some x) e f h = absurd (cc)
or_none None e f h = let same : f ≡ e = cc in (same, refl)

pub when_none : {T : Type 0} (N : Type 0) (P : T → Type 0) (o : Option T) → o ≡ None → MatchOption o N P → N
when_none N P o is h = subst (λ o. MatchOption o N P) is h

pub when_some : {T : Type 0} (N : Type 0) (P : T → Type 0) (o : Option T) (x : T) → o ≡ Some x → MatchOption o N P → P x
when_some N P o x is h = subst (λ o. MatchOption o N P) is h
