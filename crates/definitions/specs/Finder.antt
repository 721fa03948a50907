-- Finding a season's plan in a plan file: the first in file order. Everything is decided from the file and the season alone.
--
--   plans file, plan_at file k     how many plans the file has, and plan k: 40 bytes at k * 40
--   of_season, first_plan         that a plan has the season, and which is the first that has, counted from 0
--   find_rows, find_number        refusals 11 and 12; 0 where neither applies
--   find_offset                   where the first plan of the season begins in the file, and 0 on a refusal
--   find_bytes                    its bytes, and none on a refusal
--   address_at                    the address at an offset in what is lent; at `find_offset` lies what Rattle callers get
--
-- What this file is for: the contracts of the finder, for Rattle and for C, are equalities with these. The season bytes alone are
-- compared; the plan is not checked.
use Rattle.std.specs.Prelude.{Bool, not, List, [], ◌∷◌, ℕ, ◌+◌, ◌*◌, ◌/◌, ◌%◌, eqb, length, take, drop}
use Rattle.std.specs.Borrow.{Bor}
use Rattle.bounded.specs.Bounded.{any, index}
use Rattle.definitions.specs.Refusals.{Refusal, ◌when◌, first, accepted}
use Rattle.definitions.specs.Plan.{plan_bytes, season}

abbrev pub plans : List ℕ → ℕ
plans file = length file / plan_bytes

abbrev pub plan_at : List ℕ → ℕ → List ℕ
plan_at file k = take plan_bytes (drop (k * plan_bytes) file)

abbrev pub of_season : List ℕ → (y k : ℕ) → Bool
of_season file y k = eqb (season (plan_at file k)) y

abbrev pub first_plan : List ℕ → ℕ → ℕ
first_plan file y = index (plans file) (of_season file y)

unfoldable pub find_rows : List ℕ → ℕ → List Refusal
find_rows file y =
    (11 when not (eqb (length file % plan_bytes) 0))
    ∷ (12 when not (any (plans file) (of_season file y)))
    ∷ []

unfoldable pub find_number : List ℕ → ℕ → ℕ
find_number file y = first (find_rows file y)

unfoldable pub find_offset : List ℕ → ℕ → ℕ
find_offset file y = accepted (find_number file y) (first_plan file y * plan_bytes) 0

unfoldable pub find_bytes : List ℕ → ℕ → List ℕ
find_bytes file y = accepted (find_number file y) (plan_at file (first_plan file y)) []

-- a block of memory, and an offset in it
abbrev pub address_at : Bor (List ℕ) → ℕ → ℕ × ℕ
address_at x n = (x.ref_ptr.0, n + x.ref_ptr.1)
