-- What the finder answers.
--
--   offset_of r   where a record begins, and 0 of a refusal
--
-- What this file is for: the contract of `locate` is an equality with `find_offset`, of a refusal too.
use Rattle.std.specs.Prelude.{ℕ, Result, Ok, Err}
use Rattle.definitions.specs.declared.Refusal.{Refusal}

abbrev pub offset_of : Result ℕ Refusal → ℕ
offset_of (Ok n) = n
offset_of (Err r) = 0
