-- What a writing, a masking and an explaining that are not refused know of their arguments, as facts. Of a photograph this is
-- `Photograph`.
--
--   Writing C P F B          the plan is sound, F is a record of it, and B has as many bytes as its mark
--   Masking C P F s          the plan is sound, F is a record of it, and s are as many symbols of it as its mark has cells
--   Expecting C P s u F B    s and u are a photograph of a sound plan, F is a record of it, and B has room for another
--
-- What this file is for: where the plan's refusals and 6 to 9 do not apply, the writer, the masker and the explainer rest on
-- these.
use Rattle.std.specs.Prelude.{◌≡◌, List, ℕ, length}
use Rattle.definitions.specs.Code.{Code, size, cells, IsRecord}
use Rattle.definitions.specs.Sound.{Sound}
use Rattle.definitions.specs.Photograph.{SymbolsFit, Photograph}

pub record Writing (C : Code) (P F B : List ℕ) : Type 0 where
  pub sound : Sound P
  pub given : IsRecord C P F
  pub room : length B ≡ cells C P

pub record Masking (C : Code) (P F s : List ℕ) : Type 0 where
  pub sound : Sound P
  pub given : IsRecord C P F
  pub whole : length s ≡ cells C P
  pub symbol : SymbolsFit C P s

pub record Expecting (C : Code) (P s u F B : List ℕ) : Type 0 where
  pub photo : Photograph C P s u
  pub given : IsRecord C P F
  pub room : length B ≡ size C P
