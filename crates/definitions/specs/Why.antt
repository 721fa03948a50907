-- What the program `traywhy` reads from its standard input: a plan, then the record that was expected, then the symbols and the
-- doubts of a photograph, nothing after.
--
--   expected_of                the expected record
--   shown_symbols, shown_doubts  the photograph
--   why_reason, why_other      why the expected record did not come up, and the other record where there is one
--   why_reading                what is said of the expected record where it did
--   longest                    the length of the longest input that a sound plan takes: a record of 136 and 16 times 16 cells
--
-- What this file is for: the plan and the buffer are those of Tray, and so is what a photograph is. Fewer than 40 bytes are
-- refusal 1; a wrong count after a sound plan is 6.
use Rattle.std.specs.Prelude.{List, ℕ, ◌+◌, take, drop}
use Rattle.definitions.specs.declared.Reading.{Reading}
use Rattle.definitions.specs.declared.Reason.{Reason}
use Rattle.definitions.specs.Plan.{plan_bytes}
use Rattle.definitions.specs.Code.{oblong, size}
use Rattle.definitions.specs.Calls.{measure_reading}
use Rattle.definitions.specs.Explaining.{explain_reason, explain_buffer}
use Rattle.definitions.specs.Tray.{plan_of, symbols_of, doubts_of, buffer_of}

abbrev pub expected_of : List ℕ → List ℕ
expected_of input = take (size oblong (plan_of input)) (drop plan_bytes input)

abbrev pub shown_symbols : List ℕ → List ℕ
shown_symbols input = symbols_of (plan_bytes + size oblong (plan_of input)) input

abbrev pub shown_doubts : List ℕ → List ℕ
shown_doubts input = doubts_of (plan_bytes + size oblong (plan_of input)) input

unfoldable pub why_reason : List ℕ → Reason
why_reason input =
    explain_reason oblong (plan_of input) (shown_symbols input) (shown_doubts input) (expected_of input) (buffer_of input)

unfoldable pub why_other : List ℕ → List ℕ
why_other input =
    explain_buffer oblong (plan_of input) (shown_symbols input) (shown_doubts input) (expected_of input) (buffer_of input)

unfoldable pub why_reading : List ℕ → Reading
why_reading input = measure_reading oblong (plan_of input) (shown_symbols input) (shown_doubts input) (expected_of input)

abbrev pub longest : ℕ
longest = plan_bytes + 136 + 256 + 256
