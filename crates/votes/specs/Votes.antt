-- "Several photographs of one tray" (document 02, request 8), one cell. The symbols that n photographs have there are the list x;
-- 255 stands for a cell that was not read, and for a photograph that is not held: it casts no vote.
--
--   votes x n v       how many of the n symbols are v
--   cast x n          t, how many votes are cast
--   most b g          the largest of g 0 .. g (b - 1)
--   winner x n        the smallest of the symbols that have most votes
--   next x n          s, the most votes that a symbol other than the winner has
--   symbol_of x n      the symbol of the combined cell
--   doubt_of f x n    its doubt, where f is the full doubt
--
-- What this file is for: what stands in each cell of a combination.
use Rattle.std.specs.Prelude.{cond, List, ℕ, zero, suc, ◌*◌, ◌-◌, ◌/◌, max, eqb}
use Rattle.bounded.specs.Bounded.{at, sum, index}

unfoldable pub votes : (x : List ℕ) (n v : ℕ) → ℕ
votes x n v = sum n λ k. cond (eqb (at x k) v) 1 0

unfoldable pub cast : (x : List ℕ) (n : ℕ) → ℕ
cast x n = sum n λ k. cond (eqb (at x k) 255) 0 1

unfoldable pub most : ℕ → (ℕ → ℕ) → ℕ
most zero g = 0
most (suc b) g = max (most b g) (g b)

unfoldable pub winner : (x : List ℕ) (n : ℕ) → ℕ
winner x n = index 255 λ v. eqb (votes x n v) (most 255 (votes x n))

unfoldable pub next : (x : List ℕ) (n : ℕ) → ℕ
next x n = most 255 λ v. cond (eqb v (winner x n)) 0 (votes x n v)

unfoldable pub symbol_of : (x : List ℕ) (n : ℕ) → ℕ
symbol_of x n = cond (eqb (cast x n) 0) 255 (winner x n)

unfoldable pub doubt_of : (f : ℕ) (x : List ℕ) (n : ℕ) → ℕ
doubt_of f x n = cond (eqb (cast x n) 0) f (f - f * (votes x n (winner x n) - next x n) / cast x n)
