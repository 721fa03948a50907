-- The sides of a code: coordinate i, from 0 to m, has n i points. So m counts the coordinates after the first: 0 is a strip, 1 a
-- mark.
--
--   cells m n           how many cells: the product of the sides
--   least m n           the smallest side
--   others m n          the product of all sides but the smallest
--   distance m n d      two different polynomials of total degree d < least m n differ in so many cells or more
--   two a b             the sides a and b of a grid
--   cell_point m n x c  the coordinates of cell c, where x i j is the j-th point of coordinate i; the last coordinate is the
--                       fastest
--
-- What this file is for: one distance and one order of cells, for any number of coordinates.
use Rattle.std.specs.Prelude.{cond, ℕ, zero, suc, ◌*◌, ◌-◌, ◌/◌, ◌%◌, min, max, eqb}

abbrev pub cells : (m : ℕ) (n : ℕ → ℕ) → ℕ
cells zero n = n zero
cells (suc m) n = cells m n * n (suc m)

abbrev pub least : (m : ℕ) (n : ℕ → ℕ) → ℕ
least zero n = n zero
least (suc m) n = min (least m n) (n (suc m))

abbrev pub others : (m : ℕ) (n : ℕ → ℕ) → ℕ
others zero n = 1
others (suc m) n = max (least m n) (n (suc m)) * others m n

abbrev pub distance : (m : ℕ) (n : ℕ → ℕ) (d : ℕ) → ℕ
distance m n d = others m n * (least m n - d)

abbrev pub two : (a b : ℕ) → ℕ → ℕ
two a b zero = a
two a b (suc i) = b

abbrev pub cell_point : (m : ℕ) (n : ℕ → ℕ) (x : ℕ → ℕ → ℕ) (c : ℕ) → ℕ → ℕ
cell_point zero n x c i = x zero c
cell_point (suc m) n x c i = cond (eqb i (suc m)) (x (suc m) (c % n (suc m))) (cell_point m n x (c / n (suc m)) i)
