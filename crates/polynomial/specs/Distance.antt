-- The distance of polynomials in two variables on a grid of a row points and b column points.
--
--   grid_distance a b d  the distance for these two sides, max(a, b) (min(a, b) - d): two polynomials of total degree
--                        d < min(a, b) differ in so many cells or more
--
-- What this file is for: the distance of the codes on a product of two point sets, square or oblong.
use Rattle.std.specs.Prelude.{ℕ}
use Rattle.polynomial.specs.Sides.{distance, two}

abbrev pub grid_distance : (a b d : ℕ) → ℕ
grid_distance a b d = distance 1 (two a b) d
