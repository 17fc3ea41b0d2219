-- Numbers as text.
use Rattle.std.proofs.Common.{◌≡◌, ℕ, ◌+◌, ◌<◌, List, [], ◌∷◌, ◌++◌, length, get_or, take, decimal, sym, refl, ap, ◌∙◌, append_assoc, append-nil}
use Rattle.std.proofs.lemmas.List.{take_more}
use Rattle.cc.specs.Texts.{tabbed}

pub tabbed_append : (xs ys : List ℕ) → tabbed (xs ++ ys) ≡ tabbed xs ++ tabbed ys
tabbed_append [] ys = refl
tabbed_append (x ∷ xs) ys = ap (λ l. 9 ∷ l) (ap (λ l. decimal x ++ l) (tabbed_append xs ys) ∙ sym (append_assoc (decimal x) (tabbed xs) (tabbed ys)))

-- the text of the first i + 1 numbers is that of the first i, a tab, and the next one
pub tabbed_more : (xs : List ℕ) (i : ℕ) → i < length xs → tabbed (take i xs) ++ 9 ∷ decimal (get_or xs i 0) ≡ tabbed (take (i + 1) xs)
tabbed_more xs i h =
    ap (λ l. tabbed (take i xs) ++ 9 ∷ l) (sym (append-nil (decimal (get_or xs i 0))))
    ∙ sym (tabbed_append (take i xs) (get_or xs i 0 ∷ []))
    ∙ ap tabbed (sym (take_more xs i 0 h))
