-- "Record and mark". A record is a message, its mark or strip the codeword. Both are one code, in one coordinate and in two, each
-- coordinate with its own points: the layout of a record and its value at a point are `start` and `value` of the crate
-- `polynomial` (specs/Layout.antt), the cells of a mark and their points `cells` and `cell_point` (specs/Sides.antt).
--
--   strip, oblong    the two codes: of polynomials in X (Reed-Solomon), and in X and Y (Reed-Muller) on rows and columns
--   code_of b         the code that a `mark: bool` of the programs stands for
--   more             how many coordinates a code has after X
--   size, cells      how many coefficients a record has, and how many cells its mark
--   value C P F c    the value of the record F in cell c
--   mark C P F       the mark of the record F: its values, cell after cell
--   IsRecord C P F   F is a record of the plan P
--
-- What this file is for: what the writer writes, and "every record of the plan".
use Rattle.std.specs.Prelude.{Bool, true, false, List, ℕ, ◌+◌}
use Rattle.bounded.specs.Bounded.{tab}
use Rattle.field.specs.Word.{Word}
use Rattle.polynomial.specs.Sides as sides
use Rattle.polynomial.specs.Layout as layout
use Rattle.definitions.specs.Plan.{modulus, degree, side, point}

pub data Code : Type 0 where
  strip oblong : Code

abbrev pub code_of : Bool → Code
code_of true = oblong
code_of false = strip

abbrev pub more : Code → ℕ
more strip = 0
more oblong = 1

abbrev pub size : Code → List ℕ → ℕ
size C P = layout.start (more C) (degree P + 1)

abbrev pub cells : Code → List ℕ → ℕ
cells C P = sides.cells (more C) (side P)

abbrev pub value : Code → (P F : List ℕ) → ℕ → ℕ
value C P F c = layout.value (more C) (modulus P) (degree P) F (sides.cell_point (more C) (side P) (point P) c)

unfoldable pub mark : Code → (P F : List ℕ) → List ℕ
mark C P F = tab (cells C P) (value C P F)

abbrev pub IsRecord : Code → (P F : List ℕ) → Type 0
IsRecord C P F = Word (modulus P) (size C P) F
