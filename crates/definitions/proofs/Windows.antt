-- The refusals of finding the season of a date, row by row.
--
--   season-at          a search that stops at row i of its refusals has that row's number
--   no-season          a refusal has no season
--   season_earliest    the number is the first in the table's order of those that apply: 14 before 15 before 16
--
-- What this file is for: the number by the row at which a search stops, and the season beside a refusal. Assumes nothing.
use mathlib.Core.Path.{◌≡◌, refl}
use mathlib.Core.Logic.{◌≢◌}
use mathlib.Core.List.{List}
use Prim.Native.Nat.{ℕ}
use Rattle.bounded.specs.Bounded.{index}
use Rattle.calendar.specs.declared.Date.{Date}
use Rattle.definitions.specs.Refusals.{table, Earliest}
use Rattle.definitions.specs.Windows.{season_rows, season_number, season_found}
use Rattle.definitions.proofs.Refusals.{Stops, number_at, first-at, first_earliest, otherwise}

module _ (file : List ℕ) (t : Date) where
  pub season-at : (i : ℕ) → Stops (season_rows file t) i → number_at (season_rows file t) i ≡ season_number file t
  unfolding season_number
  season-at i h = first-at (season_rows file t) i h

  pub no-season : season_number file t ≢ 0 → season_found file t ≡ 0
  unfolding season_found
  no-season h = otherwise (season_number file t) _ _ h

  pub season_earliest : Earliest table (season_rows file t) (season_number file t)
  unfolding season_number season_rows index
  season_earliest = first_earliest table (season_rows file t) tt refl
