-- The refusals as the code names them, and the numbers that C is handed.
--
--   number r       the number of the refusal r in the table "What is returned"
--   number_of o    the number of an outcome: 0 where nothing is refused
--   answered o     the reading of an outcome: of a refusal the number and zeros
--   reason_of o    the reason of an outcome, of which a refusal is one
--
-- What this file is for: in the code a call that may refuse has a `Result`; the definitions say which number each gives.
use Rattle.std.specs.Prelude.{ℕ, Result, Ok, Err}
use Rattle.definitions.specs.declared.Reading.{Reading}
use Rattle.definitions.specs.declared.Reason.{Reason}
use Rattle.definitions.specs.declared.Reason.TheVariants.{Refused}
use Rattle.definitions.specs.declared.Refusal.{Refusal}
use Rattle.definitions.specs.declared.Refusal.TheVariants.{PlanBytes, Modulus, Rows, Columns, Degree, Points, Length, Held}
use Rattle.definitions.specs.declared.Refusal.TheVariants.{NotHeld, Symbol, Doubt, Coefficient, NoneNear, PlanFile, NoPlan}
use Rattle.definitions.specs.declared.Refusal.TheVariants.{WindowFile, SharedDay, NoWindow}
use Rattle.definitions.specs.Calls.{refused}

abbrev pub number : Refusal → ℕ
number PlanBytes = 1
number Modulus = 2
number Rows = 3
number Columns = 13
number Degree = 4
number Points = 5
number Length = 6
number Held = 17
number NotHeld = 18
number Symbol = 7
number Doubt = 8
number Coefficient = 9
number NoneNear = 10
number PlanFile = 11
number NoPlan = 12
number WindowFile = 14
number SharedDay = 15
number NoWindow = 16

abbrev pub number_of : {A : Type 0} → Result A Refusal → ℕ
number_of (Ok a) = 0
number_of (Err r) = number r

abbrev pub answered : Result Reading Refusal → Reading
answered (Ok r) = r
answered (Err r) = refused (number r)

abbrev pub reason_of : Result Reason Refusal → Reason
reason_of (Ok r) = r
reason_of (Err r) = Refused (number r)
