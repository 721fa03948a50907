-- "Masked marks" (document 02, request 9): the mark of a record is added to lent symbols, cell by cell, or taken off again. A
-- call is given a plan P, a record F and symbols s; everything is decided from these bytes alone.
--
--   Way                      on adds the mark, off takes it off
--   way_of b                  the way that an `off: bool` of the code stands for
--   shift W p a b            b added to a modulo p, or subtracted from it
--   mask_cell W p s v        the symbol s of a cell with the value v; an unread one is left alone
--   masked W C P F s         all symbols
--   mask_number, mask_buffer  MASKING: the number, one for both ways, and the symbols afterwards; a refusal leaves them
--
-- What this file is for: the contracts of the calls are equalities with these.
use Rattle.std.specs.Prelude.{Bool, true, false, cond, List, [], ◌∷◌, ◌++◌, ℕ, ◌+◌, ◌-◌, ◌%◌, eqb}
use Rattle.bounded.specs.Bounded.{at, tab}
use Rattle.definitions.specs.Refusals.{Refusal, ◌when◌, first, accepted}
use Rattle.definitions.specs.Plan.{modulus, plan_rows}
use Rattle.definitions.specs.Code.{Code, size, cells, value}
use Rattle.definitions.specs.Cost.{unread}
use Rattle.definitions.specs.Calls.{length_row, strange, overflowing}

pub data Way : Type 0 where
  on off : Way

abbrev pub way_of : Bool → Way
way_of false = on
way_of true = off

abbrev pub shift : Way → (p a b : ℕ) → ℕ
shift on p a b = (a + b) % p
shift off p a b = (a + (p - b)) % p

abbrev pub mask_cell : Way → (p s v : ℕ) → ℕ
mask_cell W p s v = cond (eqb s unread) s (shift W p s v)

unfoldable pub masked : Way → Code → (P F s : List ℕ) → List ℕ
masked W C P F s = tab (cells C P) λ c. mask_cell W (modulus P) (at s c) (value C P F c)

-- the plan's refusals, 6, 7 and 9
abbrev pub mask_tests : (p : ℕ) (F s : List ℕ) (n k : ℕ) → List Refusal
mask_tests p F s n k = length_row F k ∷ length_row s n ∷ (7 when strange p s n) ∷ (9 when overflowing p F k) ∷ []

unfoldable pub mask_rows : Code → (P F s : List ℕ) → List Refusal
mask_rows C P F s = plan_rows P ++ mask_tests (modulus P) F s (cells C P) (size C P)

unfoldable pub mask_number : Code → (P F s : List ℕ) → ℕ
mask_number C P F s = first (mask_rows C P F s)

unfoldable pub mask_buffer : Way → Code → (P F s : List ℕ) → List ℕ
mask_buffer W C P F s = accepted (mask_number C P F s) (masked W C P F s) s
