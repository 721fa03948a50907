-- What a plan says, as the struct that the code above takes.
--
--   bytes_of plan   the bytes of the plan
--   Says P plan     the plan P is sound, and the struct says what it does
--   Parsed P r      of the bytes P the parser answers r: their refusal, or the plan that they are
--
-- What this file is for: the contract of `parse`; and what the functions that take the struct rest on.
use Rattle.std.specs.Prelude.{◌≡◌, List, ℕ, Result, IfOk}
use Rattle.field.specs.Row.{row}
use Rattle.definitions.specs.declared.Refusal.{Refusal}
use Rattle.definitions.specs.Numbers.{number_of}
use Rattle.definitions.specs.Plan.{season, modulus, rows, columns, degree, row_point, column_point, check_number}
use Rattle.definitions.specs.Cost.{full}
use Rattle.definitions.specs.Sound.{Sound}
use Rattle.plan.specs.declared.season.Plan.{Plan}
use Rattle.plan.specs.Bytes.{said}

abbrev pub bytes_of : Plan → List ℕ
bytes_of plan = said plan.season plan.grid

pub record Says (P : List ℕ) (plan : Plan) : Type 0 where
  pub sound : Sound P
  pub season : plan.season ≡ season P
  pub modulus : plan.grid.modulus.p ≡ modulus P
  pub rows : plan.grid.a ≡ rows P
  pub columns : plan.grid.b ≡ columns P
  pub degree : plan.grid.d ≡ degree P
  pub row_points : plan.grid.x ≡ row (row_point P)
  pub column_points : plan.grid.y ≡ row (column_point P)
  pub full : plan.grid.full ≡ full P

pub record Parsed (P : List ℕ) (r : Result Plan Refusal) : Type 0 where
  pub number : number_of r ≡ check_number P
  pub plan : IfOk r (λ plan. bytes_of plan ≡ P)
