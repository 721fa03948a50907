-- What a program reads of its standard input.
--
--   HoldsFirst input room came    a room holds the first bytes of an input of any length: `came` of them, all or as many as fit
--
-- What this file is for: a program answers the whole input by what it has in its room.
use Rattle.std.specs.Prelude.{◌≡◌, List, ℕ, min, length, take}

pub record HoldsFirst (input room : List ℕ) (came : ℕ) : Type 0 where
  pub count : came ≡ min (length input) (length room)
  pub bytes : take came room ≡ take came input
