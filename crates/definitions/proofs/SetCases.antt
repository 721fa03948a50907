-- The cases of sets hold of the definitions.
--
--   set_cases_hold    all rows
--
-- What this file is for: the definitions say what was worked out by hand; it is one computed comparison. Assumes nothing.
use mathlib.Core.Path.{◌≡◌, refl}
use mathlib.Core.List.{map}
use Rattle.bounded.specs.Bounded.{any}
use Rattle.field.specs.Prime.{is_prime}
use Rattle.definitions.specs.Refusals.{first}
use Rattle.definitions.specs.Plan.{plan_rows, check_number}
use Rattle.definitions.specs.Cost.{full}
use Rattle.definitions.specs.Sets.{blank, start_memory, add_rows, add_number, add_memory, withdraw_number, withdraw_memory}
use Rattle.definitions.specs.Sets.{combine_rows, combine_number, combine_symbols, combine_doubts}
use Rattle.definitions.specs.SetCases.{effect, asks, given, set_cases}

pub set_cases_hold : map effect (map asks set_cases) ≡ map given set_cases
unfolding effect any first is_prime plan_rows check_number full start_memory add_rows add_number add_memory withdraw_number
    withdraw_memory combine_rows combine_number combine_symbols combine_doubts blank
set_cases_hold = refl
