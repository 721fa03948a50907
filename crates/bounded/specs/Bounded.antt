-- Sums, tests, tables and first places over the numbers below a bound. The bound comes first.
--
--   at s i       byte i of the list s, and 0 beyond its end
--   sum n f      f 0 + .. + f (n - 1), and 0 for n = 0; a count is a sum of zeros and ones
--   any n f      f i is true for some i below n
--   tab n f      the list f 0 .. f (n - 1)
--   index n f    the first i below n for which f i is true, and n where there is none
--
-- Sums, tests and tables recurse at their end, as a loop does; the first place is sought from the start.
-- What this file is for: contracts and laws speak of arrays and of loops in these five words.
use Rattle.std.specs.Prelude.{Bool, false, ◌||◌, cond, List, [], ◌∷◌, ◌++◌, ℕ, zero, suc, ◌+◌, get_or}

abbrev pub at : List ℕ → ℕ → ℕ
at s i = get_or s i 0

abbrev pub sum : ℕ → (ℕ → ℕ) → ℕ
sum zero f = 0
sum (suc n) f = sum n f + f n

unfoldable pub any : ℕ → (ℕ → Bool) → Bool
any zero f = false
any (suc n) f = any n f || f n

unfoldable pub tab : ℕ → (ℕ → ℕ) → List ℕ
tab zero f = []
tab (suc n) f = tab n f ++ (f n ∷ [])

unfoldable pub index : ℕ → (ℕ → Bool) → ℕ
index zero f = 0
index (suc n) f = cond (f 0) 0 (suc (index n λ i. f (suc i)))
