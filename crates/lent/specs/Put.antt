-- Bytes put into lent memory.
--
--   put S a s    the bytes S with the bytes s in the place of those from byte a on
--
-- What this file is for: what a call leaves in the memory is said by the bytes that it puts there.
use Rattle.std.specs.Prelude.{List, ◌++◌, ℕ, ◌+◌, length, take, drop}

abbrev pub put : (S : List ℕ) (a : ℕ) (s : List ℕ) → List ℕ
put S a s = take a S ++ (s ++ drop (a + length s) S)
