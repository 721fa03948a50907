-- "Photographed mark and cost": what is said of a record that is measured against a photograph. Its cost is `cost` of the crate
-- `distance` (specs/Cost.antt), with the full doubt of the plan's season; an unread cell is an erasure.
--
--   full_in y              the full doubt in season y: doubts are in 250ths from season 30 on, before it in 100ths
--   full P                 the full doubt of a photograph under the plan P
--   unread                 the symbol of an unread cell
--   changed_cell s v       1 for a cell that was read and whose symbol s is not the value v
--   unread_cell s          1 for a cell that was not read
--   changed n s v          how many of n cells were read and have another symbol than the value
--   unread_cells n s       how many of n cells were not read
--   radius C P             R, the full doubt times the distance of the code (crate `polynomial`, specs/Sides.antt)
--   margin R D             the signed number R - D
--   class n                by changed count: 0; 1 to 3; 4 to 15; 16 and more
--
-- What this file is for: how far is too far, and what is said of a record beside its cost.
use Rattle.std.specs.Prelude.{cond, List, ℕ, ◌*◌, eqb, ltb, ℤ, pos, ◌-ℤ◌}
use Rattle.bounded.specs.Bounded.{sum}
use Rattle.distance.specs.Cost.{differ}
use Rattle.polynomial.specs.Sides.{distance}
use Rattle.definitions.specs.Plan.{season, side, degree}
use Rattle.definitions.specs.Code.{Code, more}

abbrev pub full_in : ℕ → ℕ
full_in y = cond (ltb y 30) 100 250

unfoldable pub full : List ℕ → ℕ
full P = full_in (season P)

abbrev pub unread : ℕ
unread = 255

abbrev pub changed_cell : (s v : ℕ) → ℕ
changed_cell s v = cond (eqb s unread) 0 (differ s v)

abbrev pub unread_cell : ℕ → ℕ
unread_cell s = cond (eqb s unread) 1 0

abbrev pub changed : (n : ℕ) (s v : ℕ → ℕ) → ℕ
changed n s v = sum n λ c. changed_cell (s c) (v c)

abbrev pub unread_cells : (n : ℕ) (s : ℕ → ℕ) → ℕ
unread_cells n s = sum n λ c. unread_cell (s c)

abbrev pub radius : Code → List ℕ → ℕ
radius C P = full P * distance (more C) (side P) (degree P)

unfoldable pub margin : (R D : ℕ) → ℤ
margin R D = pos R -ℤ pos D

abbrev pub class : ℕ → ℕ
class n = cond (ltb n 1) 0 (cond (ltb n 4) 1 (cond (ltb n 16) 2 3))
