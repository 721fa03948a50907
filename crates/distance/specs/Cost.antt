-- The weighted distance of values v from symbols s with doubts u, for any full doubt.
-- A doubt is an uncertainty in whole numbers.
--
--   cell full s u v     what one cell costs: its doubt where the symbol is the value, else twice the full doubt less its doubt
--   cost full n s u v   the sum over n cells
--   differ v w          1 where two values differ, else 0
--   hamming n v w       in how many of n cells two words differ: their Hamming distance
--
-- What this file is for: which word is nearest.
use Rattle.std.specs.Prelude.{cond, ℕ, ◌*◌, ◌-◌, eqb}
use Rattle.bounded.specs.Bounded.{sum}

abbrev pub cell : (full s u v : ℕ) → ℕ
cell full s u v = cond (eqb s v) u (2 * full - u)

abbrev pub cost : (full n : ℕ) (s u v : ℕ → ℕ) → ℕ
cost full n s u v = sum n λ c. cell full (s c) (u c) (v c)

abbrev pub differ : (v w : ℕ) → ℕ
differ v w = cond (eqb v w) 0 1

abbrev pub hamming : (n : ℕ) (v w : ℕ → ℕ) → ℕ
hamming n v w = sum n λ c. differ (v c) (w c)
