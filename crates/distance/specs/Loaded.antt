-- Cells as a reader loads them.
--
--   Loaded full s u s' u'   the symbol s' with the doubt u' stands for s with u: the doubt is the same, and so is the symbol
--                           unless the doubt is the full one
--
-- What this file is for: the symbol of an unread cell is no residue, and any residue may stand for it.
use Rattle.std.specs.Prelude.{◌≡◌, ◌⊎◌, ℕ}

pub record Loaded (full s u s' u' : ℕ) : Type 0 where
  pub doubt : u' ≡ u
  pub symbol : (s' ≡ s) ⊎ (u ≡ full)
