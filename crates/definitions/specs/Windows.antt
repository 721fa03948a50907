-- Season windows: which season a date is in, by a window file. Everything is decided from the file and the date alone. A window
-- is 12 bytes, here W: season, first date, last date, two zeros. A file has at most 64 of them, in no set order.
--
--   window_bytes, most_windows    the length of a window, and how many a file may have
--   windows file, window_at file k how many windows the file has, and window k: 12 bytes at k * 12
--   date_at W a                   the date in four bytes from byte a on: a year of two bytes, a month, a day
--   first_day W, last_day W       the window's first and last day; its season is that of its first two bytes, as a plan's
--   has W t                       the window has the day t: both end days belong to it
--   faulty W                      a date is unreal, the last before the first, or a zero is none
--   meet W W'                     by their end days, neither window is over before the other begins; of windows without fault
--                                 it means that some real day lies in both (`SharedDay`)
--   clashing file                 two windows of the file meet
--   season_rows, season_number    refusals 14 to 16; 0 where none applies
--   first_with file t             which window is the first that has the day, counted from 0
--   season_found                  the season of the window that has the day, and 0 on a refusal
--
-- What this file is for: the contract of the call that finds the season of a date is equalities with these.
use Rattle.std.specs.Prelude.{Bool, not, ◌&&◌, ◌||◌, List, [], ◌∷◌, ℕ, ◌+◌, ◌*◌, ◌/◌, ◌%◌, eqb, ltb, length, take, drop}
use Rattle.bounded.specs.Bounded.{at, any, index}
use Rattle.calendar.specs.Dates.{real, earlier, on_or_before}
use Rattle.calendar.specs.Calendar.{date}
use Rattle.calendar.specs.declared.Date.{Date}
use Rattle.definitions.specs.Refusals.{Refusal, ◌when◌, first, accepted}
use Rattle.definitions.specs.Plan.{pair, season, filled}

abbrev pub window_bytes : ℕ
window_bytes = 12

abbrev pub most_windows : ℕ
most_windows = 64

abbrev pub windows : List ℕ → ℕ
windows file = length file / window_bytes

abbrev pub window_at : List ℕ → ℕ → List ℕ
window_at file k = take window_bytes (drop (k * window_bytes) file)

abbrev pub date_at : List ℕ → ℕ → Date
date_at W a = date (pair W a) (at W (a + 2)) (at W (a + 3))

abbrev pub first_day : List ℕ → Date
first_day W = date_at W 2

abbrev pub last_day : List ℕ → Date
last_day W = date_at W 6

abbrev pub has : List ℕ → Date → Bool
has W t = on_or_before (first_day W) t && on_or_before t (last_day W)

abbrev pub faulty : List ℕ → Bool
faulty W = not (real (first_day W)) || (not (real (last_day W)) || (earlier (last_day W) (first_day W) || filled W 10 2))

abbrev pub meet : (W W' : List ℕ) → Bool
meet W W' = on_or_before (first_day W) (last_day W') && on_or_before (first_day W') (last_day W)

abbrev pub clashing : List ℕ → Bool
clashing file = any (windows file) λ k. any k λ j. meet (window_at file j) (window_at file k)

unfoldable pub season_rows : List ℕ → Date → List Refusal
season_rows file t =
    (14 when not (eqb (length file % window_bytes) 0))
    ∷ (14 when ltb most_windows (windows file))
    ∷ (14 when any (windows file) λ k. faulty (window_at file k))
    ∷ (15 when clashing file)
    ∷ (16 when not (real t))
    ∷ (16 when not (any (windows file) λ k. has (window_at file k) t))
    ∷ []

unfoldable pub season_number : List ℕ → Date → ℕ
season_number file t = first (season_rows file t)

abbrev pub first_with : List ℕ → Date → ℕ
first_with file t = index (windows file) λ k. has (window_at file k) t

unfoldable pub season_found : List ℕ → Date → ℕ
season_found file t = accepted (season_number file t) (season (window_at file (first_with file t))) 0
