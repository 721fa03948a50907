-- What is told of a record that was measured or read.
--
--   unread_in s        how many of the symbols s are of unread cells
--   summary R D n s    the reading with number 0 of a record whose cost is D under the radius R, where n of the symbols s differ
--                      from its mark, those of unread cells among them
--
-- What this file is for: measuring and reading tell the same five numbers, all decided by these.
use Rattle.std.specs.Prelude.{List, ℕ, ◌-◌, length}
use Rattle.bounded.specs.Bounded.{at}
use Rattle.definitions.specs.declared.Reading.{Reading}
use Rattle.definitions.specs.Cost.{unread_cells, margin, class}

abbrev pub unread_in : List ℕ → ℕ
unread_in s = unread_cells (length s) (at s)

abbrev pub summary : (R D n : ℕ) (s : List ℕ) → Reading
summary R D n s = record {
  number = 0;
  cost = D;
  margin = margin R D;
  changed = n - unread_in s;
  unread = unread_in s;
  class = class (n - unread_in s);
}
