-- The cells of a photograph that differ from the mark, from what the decoder left of the symbols.
--
--   flag s l                    other than 0 where a cell with the symbol s differs:
--                               it is unread, or l, what is left of it, is not 0
--   differing_cells a b s left  how many cells of the first a rows of the flat grid s of b columns differ
--
-- What this file is for: nothing has to be evaluated to count the cells that differ.
use Rattle.std.specs.Prelude.{cond, List, ℕ, eqb}
use Rattle.bounded.specs.Bounded.{sum}
use Rattle.definitions.specs.Cost.{unread}
use Rattle.distance.specs.Cost.{hamming}
use Rattle.grid.specs.Loops.{cell_at}
use Rattle.reading.specs.Loading.{grid_cell}

abbrev pub flag : (s l : ℕ) → ℕ
flag s l = cond (eqb s unread) 1 l

abbrev pub differing_cells : (a b : ℕ) (s : List ℕ) (left : List (List ℕ)) → ℕ
differing_cells a b s left = sum a λ r. hamming b (λ c. flag (grid_cell b s r c) (cell_at left r c)) (λ _. 0)
