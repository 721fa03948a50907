-- Photographs as the readers take and load them.
--
--   residue v            the residue that stands for the symbol v: itself, and 0 for an unread cell
--   grid_cell b s r c    the cell of row r and column c in the flat grid s of b columns, and 0 beyond it
--   line b r s           the bytes of row r
--   SymbolRows b s rows  row r has the residues of row r of the grid s, r from 0 to 15
--   DoubtLines b u rows  row r is row r of the grid u, r from 0 to 15
--   Taken C P s u B      the plan's refusals and 6 to 8 do not apply: s and u are a photograph of a sound plan, B has room for a
--                        record
--
-- What this file is for: an unread cell's symbol is no residue; its doubt is the full doubt, so any residue may stand for it.
use Rattle.std.specs.Prelude.{◌≡◌, cond, List, [], ℕ, ◌+◌, ◌*◌, ◌-◌, eqb, ltb, length, take, drop}
use Rattle.bounded.specs.Bounded.{at}
use Rattle.field.specs.Loop.{Upto}
use Rattle.field.specs.Row.{row}
use Rattle.definitions.specs.Refusals.{first}
use Rattle.definitions.specs.Code.{Code, size}
use Rattle.definitions.specs.Cost.{unread}
use Rattle.definitions.specs.Calls.{photo_rows}
use Rattle.definitions.specs.Photograph.{Photograph}

abbrev pub residue : ℕ → ℕ
residue v = cond (eqb v unread) 0 v

abbrev pub grid_cell : ℕ → List ℕ → ℕ → ℕ → ℕ
grid_cell b s r c = cond (ltb c b) (at s (r * b + c)) 0

abbrev pub line : (b r : ℕ) → List ℕ → List ℕ
line b r s = take (r * b + b - r * b) (drop (r * b) s)

abbrev pub SymbolRows : ℕ → List ℕ → List (List ℕ) → Type 0
SymbolRows b s rows = Upto 16 [] (λ r l. l ≡ row λ c. residue (grid_cell b s r c)) rows 16

abbrev pub DoubtLines : ℕ → List ℕ → List (List ℕ) → Type 0
DoubtLines b u rows = Upto 16 [] (λ r l. l ≡ row (grid_cell b u r)) rows 16

pub record Taken (C : Code) (P s u B : List ℕ) : Type 0 where
  pub clear : first (photo_rows C P s u B) ≡ 0
  pub photo : Photograph C P s u
  pub room : length B ≡ size C P
