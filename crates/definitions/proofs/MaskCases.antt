-- The cases of masking hold of the definitions.
--
--   mask_cases_hold    all rows
--
-- What this file is for: the definitions say what was worked out by hand; it is one computed comparison. Assumes nothing.
use mathlib.Core.Path.{◌≡◌, refl}
use mathlib.Core.List.{map}
use Rattle.bounded.specs.Bounded.{any, tab}
use Rattle.field.specs.Prime.{is_prime}
use Rattle.polynomial.specs.Layout.{value}
use Rattle.definitions.specs.Refusals.{first}
use Rattle.definitions.specs.Plan.{plan_rows}
use Rattle.definitions.specs.Masking.{masked, mask_rows, mask_number, mask_buffer}
use Rattle.definitions.specs.MaskCases.{effect, asks, given, mask_cases}

pub mask_cases_hold : map effect (map asks mask_cases) ≡ map given mask_cases
unfolding effect any tab first is_prime plan_rows value masked mask_rows mask_number mask_buffer
mask_cases_hold = refl
