-- One and two coordinates: the definitions for any number of them are those of records in X, and in X and Y, on any sides.
--
--   start-strip      in X the coefficient of X^k is at k
--   count-mark       in X and Y a group has one coefficient more than its degree
--   start-mark       in X and Y the group of degree k begins at k (k + 1) / 2
--   value-strip-is   the value of a record in X
--   value-mark-is    the value of a record in X and Y
--   value_cell       its value in a cell of a grid
--
-- What this file is for: laws for any number of coordinates hold of strips and of marks. Assumes nothing.
use mathlib.Core.Path.{◌≡◌, refl, sym, ap, ◌∙◌}
use mathlib.Core.List.{List}
use Prim.Native.Nat.{ℕ, zero, suc, ◌+◌, ◌*◌, ◌-◌, ◌%◌, ◌^◌, ◌≤◌}
use native.Mathlib.Omega.{arith}
use native.Mathlib.Numerals.{add-one}
use Rattle.bounded.specs.Bounded.{at, sum}
use Rattle.bounded.proofs.Sum.{sum-eq, sum_const}
use Rattle.polynomial.specs.Record.{start as start_of, coef, value_x, value_xy, grid_value}
use Rattle.polynomial.specs.Sides.{cell_point}
use Rattle.polynomial.specs.Layout.{count, skip, start, value}

pub start-strip : (k : ℕ) → start 0 k ≡ k
start-strip k = sum_const k 1 ∙ omega arith

pub count-mark : (k : ℕ) → count 1 k ≡ suc k
count-mark k = sum_const (suc k) 1 ∙ omega arith

pub start-mark : (k : ℕ) → start 1 k ≡ start_of k
start-mark zero = refl
start-mark (suc k) = omega (arith, start-mark k, count-mark k)

pub value-strip-is : (p d : ℕ) (F : List ℕ) (z : ℕ → ℕ) → value 0 p d F z ≡ value_x p d F (z 0)
unfolding value value_x
value-strip-is p d F z =
    ap (λ v. v % p) (sum-eq (d + 1) λ k _. ap (λ i. at F i * z 0 ^ k) (omega (arith, start-strip k)))

pub value-mark-is : (p d : ℕ) (F : List ℕ) (z : ℕ → ℕ) → value 1 p d F z ≡ value_xy p d F (z 0) (z 1)
unfolding value value_xy
value-mark-is p d F z = ap (λ v. v % p) (sum-eq (d + 1) λ k _.
    ap (λ n. sum n λ j. at F (start 1 k + (skip 0 k j + 0)) * z 0 ^ (k - j) * z 1 ^ j) (sym (add-one k))
    ∙ sum-eq (k + 1) λ j l. there k j (omega arith))
  where
    there : (k j : ℕ) → j ≤ k →
        at F (start 1 k + (skip 0 k j + 0)) * z 0 ^ (k - j) * z 1 ^ j ≡ coef F (k - j) j * (z 0 ^ (k - j) * z 1 ^ j)
    there k j l =
        let e : k - j + j ≡ k = omega arith in
        let f : start 1 k + (skip 0 k j + 0) ≡ start_of k + j = omega (arith, start-mark k, sum_const j 1) in
        rw (e, f) (omega arith)

pub value_cell : (p d : ℕ) (F : List ℕ) (n : ℕ → ℕ) (x : ℕ → ℕ → ℕ) (c : ℕ) →
    value 1 p d F (cell_point 1 n x c) ≡ grid_value p d (n 1) (x 0) (x 1) F c
value_cell p d F n x c = value-mark-is p d F (cell_point 1 n x c)
