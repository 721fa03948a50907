-- Polynomials in one variable by their coefficients a 0 .. a (k - 1): a bounded sum, no list and no degree. suc q is the modulus.
--
--   eval k a x       a 0 + a 1 x + .. + a (k - 1) x^(k - 1), not reduced
--   values q k a x   its values at the points x 0, x 1, .., modulo suc q
--   Apart q n x      the n points are apart: the difference of two of them can be cancelled
--   Points p n x     the n points are below p and strictly rising, as those of a plan
--
-- What this file is for: strips, rows and columns are all words of such values.
use Rattle.std.specs.Prelude.{◌≡◌, ℕ, suc, ◌+◌, ◌*◌, ◌%◌, ◌^◌, ◌<◌}
use Rattle.bounded.specs.Bounded.{sum}

abbrev pub eval : ℕ → (ℕ → ℕ) → ℕ → ℕ
eval k a x = sum k λ i. a i * x ^ i

abbrev pub values : (q k : ℕ) (a x : ℕ → ℕ) → ℕ → ℕ
values q k a x j = eval k a (x j) % suc q

pub record Apart (q n : ℕ) (x : ℕ → ℕ) : Type 0 where
  pub cancel : (j r b : ℕ) → j < r → r < n → (x j + q * x r) * b % suc q ≡ 0 → b % suc q ≡ 0

pub record Points (p n : ℕ) (x : ℕ → ℕ) : Type 0 where
  pub below : (i : ℕ) → i < n → x i < p
  pub rising : (i : ℕ) → suc i < n → x i < x (suc i)
