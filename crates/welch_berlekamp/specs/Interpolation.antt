-- Incremental rational interpolation (Welch and Berlekamp, in Koetter's form), by values at the points x 0 .. x (n - 1), modulo
-- suc q. A pair of rows D, E stands for two polynomials Q, E: D j is Q - y E at point j, where y j is the symbol.
--
--   residual q y P D E j       Q - P E at point j, for a polynomial P that the decoder does not know
--   Degrees q n k x y P a b D1 E1 D2 E2
--                              Q1 - P E1 is monic of degree a and E1 has a degree below a - k; E2 is monic of degree b and
--                              Q2 - P E2 has a degree of at most b + k
--   Interpolates q n k x y w a b D1 E1 D2 E2
--     degrees                  the degrees, whatever polynomial P of degree at most k is looked for
--     bit, count               w marks by 1 the cells that have entered, a + b of them, and the others by 0
--     zero1, zero2             Q = y E for both pairs at each cell that has entered
--   Entered r w w'             the cell r, which had not, has entered
--
-- What this file is for: the invariant of the strip decoder, for any set of cells that have entered.
use Rattle.std.specs.Prelude.{◌≢◌, ◌≡◌, ℕ, suc, ◌+◌, ◌*◌, ◌-◌, ◌≤◌, ◌<◌}
use Rattle.bounded.specs.Bounded.{sum}
use Rattle.field.specs.Congruence.{Cong}
use Rattle.polynomial.specs.Lead.{Lead}

abbrev pub residual : (q : ℕ) (y P D E : ℕ → ℕ) → ℕ → ℕ
residual q y P D E j = D j + (y j + q * P j) * E j

pub record Degrees (q n k : ℕ) (x y P : ℕ → ℕ) (a b : ℕ) (D1 E1 D2 E2 : ℕ → ℕ) : Type 0 where
  pub s1 : Lead q n x a 1 (residual q y P D1 E1)
  pub e1 : Lead q n x (a - k) 0 E1
  pub s2 : Lead q n x (suc (b + k)) 0 (residual q y P D2 E2)
  pub e2 : Lead q n x b 1 E2

pub record Interpolates (q n k : ℕ) (x y w : ℕ → ℕ) (a b : ℕ) (D1 E1 D2 E2 : ℕ → ℕ) : Type 0 where
  pub degrees : (P : ℕ → ℕ) {o : ℕ} → Lead q n x k o P → Degrees q n k x y P a b D1 E1 D2 E2
  pub bit : (j : ℕ) → w j ≤ 1
  pub count : a + b ≡ sum n w
  pub zero1 : (j : ℕ) → j < n → w j ≢ 0 → Cong q (D1 j) 0
  pub zero2 : (j : ℕ) → j < n → w j ≢ 0 → Cong q (D2 j) 0

pub record Entered (r : ℕ) (w w' : ℕ → ℕ) : Type 0 where
  pub before : w r ≡ 0
  pub after : w' r ≡ 1
  pub others : (j : ℕ) → j ≢ r → w' j ≡ w j
