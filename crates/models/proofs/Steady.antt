-- Turns of which the four of each rising i<j<k<l, ijk, ijl, ikl and jkl, change sign at most once are lawful.
use Rattle.std.proofs.Common.{ℕ, ◌^◌, ◌<◌, ◌≤◌, Bool, cond, not, ◌&&◌, ◌||◌, T, List, length, subst, arith, lit≤}
use mathlib.Core.Bool.{beq}
use Rattle.laws.specs.Systems.{Lawful}
use Rattle.models.specs.Spread.{Turns, system}
use Rattle.models.specs.Threes.{table_turns, each_three, threes}
use Rattle.models.specs.Catalogue.{bits, value, all, at, through, lawful_four, lawful_five}
use Rattle.models.specs.Rising.{Rising, Below, Group}
use Rattle.models.proofs.Spread.{Agree}
use Rattle.models.proofs.Tests.{all_at, all_of, implies}
use Rattle.models.proofs.Sort.{rises, mem_at}
use Rattle.models.proofs.Lists.{value_below}
use Rattle.models.proofs.Patterns.{pattern_agree, agree_back, four_tested, five_tested, among_pattern, lawful_from}

-- four turns change at most once
abbrev pub steady : Bool → Bool → Bool → Bool → Bool
steady a b c d = cond (beq a b) (beq b c || beq c d) (beq b c && beq c d)

abbrev pub Steady : ℕ → Turns → Type 0
Steady n g = (i j k l : ℕ) → i < j → j < k → k < l → l < n → T (steady (g i j k) (g i j l) (g i k l) (g j k l))

abbrev all_steady : ℕ → Turns → Bool
all_steady n g = all n (λ l. all l (λ k. all k (λ j. all j (λ i. steady (g i j k) (g i j l) (g i k l) (g j k l)))))

steady_tested : (n : ℕ) (g : Turns) → Steady n g → T (all_steady n g)
steady_tested n g s = all_of n _ λ l hl. all_of l _ λ k hk. all_of k _ λ j hj. all_of j _ λ i hi. s i j k l hi hj hk hl

steady_agree : (n : ℕ) (g h : Turns) → Agree n g h → Steady n g → Steady n h
steady_agree n g h agree s i j k l x y z w =
    subst T
    (λ t. steady (agree i j k x y (omega arith) t) (agree i j l x (omega arith) w t) (agree i k l (omega arith) z w t) (agree j k l y z w t))
    (s i j k l x y z w)

-- each steady pattern of n marks is lawful: one computed test for each n
right : ℕ → (ℕ → Bool) → ℕ → Bool
right n law p = let lawful = law p in not (all_steady n (table_turns n (bits (threes n) p))) || lawful

right_four : T (all 16 (right 4 lawful_four))
unfolding right
right_four = tt

right_five : T (all 1024 (right 5 lawful_five))
unfolding right
right_five = tt

steady_right : (n : ℕ) (law : ℕ → Bool) (h : Turns) → T (all (2 ^ length (each_three n h)) (right n law)) → Steady n h → T (law (value (each_three n h)))
unfolding right
steady_right n law h computed s =
    let p = value (each_three n h) in
    let g = table_turns n (bits (threes n) p) in
    implies (all_steady n g) (law p) (all_at (2 ^ length (each_three n h)) (right n law) computed p (value_below (each_three n h)))
    (steady_tested n g (steady_agree n h g (agree_back n g h (pattern_agree n h)) s))

steady_through : (n : ℕ) (g : Turns) (xs : List ℕ) → Rising xs → Below n xs → Steady n g → Steady (length xs) (through (at xs) g)
steady_through n g xs rising below s i j k l x y z w =
    s (at xs i) (at xs j) (at xs k) (at xs l)
    (rises xs rising i j x (omega arith)) (rises xs rising j k y (omega arith)) (rises xs rising k l z w) (below _ (mem_at xs l w))

-- turns that are steady are lawful
pub steady_lawful : (n : ℕ) (g : Turns) → n ≤ 128 → Steady n g → Lawful (system n g)
steady_lawful n g limit s = lawful_from g n limit
    (λ xs group. (among_pattern g n 4 (lit≤ tt) xs group).1 ((four_tested _).0 (steady_right 4 lawful_four (through (at xs) g) right_four (steady_in 4 xs group))))
    (λ xs group. (among_pattern g n 5 (lit≤ tt) xs group).1 ((five_tested _).0 (steady_right 5 lawful_five (through (at xs) g) right_five (steady_in 5 xs group))))
  where
    steady_in : (k : ℕ) (xs : List ℕ) → Group k n xs → Steady k (through (at xs) g)
    steady_in k xs group = subst (λ m. Steady m (through (at xs) g)) group.long (steady_through n g xs group.rising group.below s)
