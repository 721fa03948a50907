-- Records: polynomials by their coefficients in one list, in X, or in X and Y by groups of one total degree.
--
--   start k              where the group of total degree k begins; so a record of degree d has start (d + 1) places
--   place i t            where the coefficient of X^i Y^t stands
--   coef F i t           that coefficient of the record F
--   longest              the length of the longest record, that of degree 15
--   value_x p d F x      the value of the record F in X at a point, modulo p; d bounds the degree
--   value_xy p d F x y   the same in X and Y; d bounds the total degree
--   grid_value p d b x y F c  the value in cell c of a grid of b columns
--   column d h t x       where h i t stands before X^i Y^t, i + t ≤ d: the coefficient of Y^t, of degree d - t in X, at the
--                        point x
--   on_row d h x         the polynomial in Y on the row x, by its coefficients
--
-- What this file is for: where each coefficient stands, and what the writer writes; and a mark's rows are strips in Y, the
-- coefficients of a power of Y a strip in X.
use Rattle.std.specs.Prelude.{List, ℕ, suc, ◌+◌, ◌*◌, ◌-◌, ◌/◌, ◌%◌, ◌^◌}
use Rattle.bounded.specs.Bounded.{at, sum}
use Rattle.polynomial.specs.Eval.{eval}

abbrev pub start : ℕ → ℕ
start k = k * (k + 1) / 2

-- in the group of total degree i + t by rising power of Y
abbrev pub place : ℕ → ℕ → ℕ
place i t = start (i + t) + t

abbrev pub coef : List ℕ → ℕ → ℕ → ℕ
coef F i t = at F (place i t)

abbrev pub longest : ℕ
longest = start 16

-- coefficient k goes with x^k; 0^0 is 1
unfoldable pub value_x : (p d : ℕ) (F : List ℕ) (x : ℕ) → ℕ
value_x p d F x = sum (d + 1) (λ k. at F k * x ^ k) % p

-- the terms of each total degree k, from x^k to y^k
unfoldable pub value_xy : (p d : ℕ) (F : List ℕ) (x y : ℕ) → ℕ
value_xy p d F x y = sum (d + 1) (λ k. sum (k + 1) λ j. coef F (k - j) j * (x ^ (k - j) * y ^ j)) % p

-- the cell of the i-th row point x i and the j-th column point y j is at i * b + j, where b is the number of columns
abbrev pub grid_value : (p d b : ℕ) (x y : ℕ → ℕ) (F : List ℕ) → ℕ → ℕ
grid_value p d b x y F c = value_xy p d F (x (c / b)) (y (c % b))

abbrev pub column : (d : ℕ) (h : ℕ → ℕ → ℕ) (t x : ℕ) → ℕ
column d h t x = eval (suc (d - t)) (λ i. h i t) x

abbrev pub on_row : (d : ℕ) (h : ℕ → ℕ → ℕ) (x : ℕ) → ℕ → ℕ
on_row d h x t = column d h t x
