-- What the program `trayread` reads from its standard input: a plan, then symbols, then doubts, nothing after.
--
--   plan_of                    the plan, with which the input begins
--   symbols_of a, doubts_of a  the photograph of its mark, from byte a on: a symbol for each cell, and what is left
--   buffer_of                 a buffer of the record's size
--   tray_reading, tray_record  the reading of the mark, and the record that is printed
--   longest                   the length of the longest input that a sound plan takes, with 16 times 16 cells
--
-- What this file is for: fewer than 40 bytes are refusal 1, since the plan is short; a wrong count after a sound plan is 6, since
-- the symbols or the doubts have not their length.
use Rattle.std.specs.Prelude.{List, ℕ, ◌+◌, take, drop, replicate}
use Rattle.definitions.specs.declared.Reading.{Reading}
use Rattle.definitions.specs.Plan.{plan_bytes}
use Rattle.definitions.specs.Code.{oblong, size, cells}
use Rattle.definitions.specs.Calls.{read_reading, read_buffer}

abbrev pub plan_of : List ℕ → List ℕ
plan_of input = take plan_bytes input

abbrev pub symbols_of : (a : ℕ) → List ℕ → List ℕ
symbols_of a input = take (cells oblong (plan_of input)) (drop a input)

abbrev pub doubts_of : (a : ℕ) → List ℕ → List ℕ
doubts_of a input = drop (a + cells oblong (plan_of input)) input

abbrev pub buffer_of : List ℕ → List ℕ
buffer_of input = replicate (size oblong (plan_of input)) 0

unfoldable pub tray_reading : List ℕ → Reading
tray_reading input =
    read_reading oblong (plan_of input) (symbols_of plan_bytes input) (doubts_of plan_bytes input) (buffer_of input)

unfoldable pub tray_record : List ℕ → List ℕ
tray_record input =
    read_buffer oblong (plan_of input) (symbols_of plan_bytes input) (doubts_of plan_bytes input) (buffer_of input)

abbrev pub longest : ℕ
longest = plan_bytes + 256 + 256
