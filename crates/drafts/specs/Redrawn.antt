-- Columns that were drafted.
--
--   Redrawn p k columns columns'   other columns of residues, the same from the one of Y^k on
--
-- What this file is for: a draft takes the place of columns that are not found yet, and of no others.
use Rattle.std.specs.Prelude.{◌≡◌, List, ℕ, ◌≤◌}
use Rattle.polynomial.specs.Powers.{Rows}
use Rattle.grid.specs.Loops.{line}

pub record Redrawn (p k : ℕ) (columns columns' : List (List ℕ)) : Type 0 where
  pub rows : Rows p columns'
  pub kept : (t : ℕ) → k ≤ t → line columns' t ≡ line columns t
