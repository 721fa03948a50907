-- The cases of season windows, and of what is printed of them, hold of the definitions.
--
--   season_cases_hold    all rows of the call
--   season_texts         what `trayseason` prints
--
-- What this file is for: the definitions say what was worked out by hand; it is one computed comparison. Assumes nothing.
use mathlib.Core.Path.{◌≡◌, refl}
use mathlib.Core.List.{List, [], ◌∷◌, ◌++◌, map}
use Prim.Native.Nat.{ℕ, ◌+◌}
use lib.ListN.{drop, replicate, set}
use Rattle.bounded.specs.Bounded.{at, any, tab, index}
use Rattle.calendar.specs.Dates.{real, earlier}
use Rattle.definitions.specs.Refusals.{first}
use Rattle.definitions.specs.Windows.{season_rows, season_number, season_found}
use Rattle.definitions.specs.Printed.{decimal, spaced, number_line}
use Rattle.definitions.specs.Dated.{dated, asked_date, date_text, season_text}
use Rattle.definitions.specs.Seasons.{shown}
use Rattle.definitions.specs.SeasonCases.{effect, asks, given, belt, season_cases}

pub season_cases_hold : map effect (map asks season_cases) ≡ map given season_cases
unfolding effect any index real earlier first season_rows season_number season_found
season_cases_hold = refl

-- eight digits as a date; 2026-11-15; what is printed by the file of two windows; REFUSED 1 and a digit
abbrev day : List ℕ → List ℕ
day d = shown (at d)

abbrev november : List ℕ
november = day (2 ∷ 0 ∷ 2 ∷ 6 ∷ 1 ∷ 1 ∷ 1 ∷ 5 ∷ [])

abbrev printed : List ℕ → List ℕ
printed w = season_text w belt

abbrev refused : ℕ → List ℕ
refused d = 82 ∷ 69 ∷ 70 ∷ 85 ∷ 83 ∷ 69 ∷ 68 ∷ 32 ∷ 49 ∷ (48 + d) ∷ 10 ∷ []

-- a day of each season; the day after them; days that are not real; filler, one window twice, no window; and arguments that have
-- not the form of a date: none, a byte less, a byte more; in each place a character beside the digits in the ASCII code, before
-- them and after, and for each hyphen another character and a digit; a hyphen and a space for a digit
pub season_texts :
    map printed (november ∷ day (2 ∷ 0 ∷ 2 ∷ 6 ∷ 0 ∷ 6 ∷ 3 ∷ 0 ∷ []) ∷ day (2 ∷ 0 ∷ 2 ∷ 7 ∷ 0 ∷ 7 ∷ 0 ∷ 1 ∷ []) ∷ [])
    ++ map printed (day (2 ∷ 0 ∷ 2 ∷ 6 ∷ 0 ∷ 2 ∷ 3 ∷ 0 ∷ []) ∷ day (replicate 8 9) ∷ day (replicate 8 0) ∷ [])
    ++ map (season_text november) (set belt 23 1 ∷ (belt ++ belt) ∷ [] ∷ [])
    ++ map printed ([] ∷ drop 1 november ∷ (november ++ 48 ∷ []) ∷ [])
    ++ map (λ i. printed (set november i 47)) (tab 10 λ i. i) ++ map (λ i. printed (set november i 58)) (tab 10 λ i. i)
    ++ map printed (set november 4 48 ∷ set november 7 48 ∷ set november 8 45 ∷ set november 5 32 ∷ [])
    ≡ (51 ∷ 48 ∷ 10 ∷ []) ∷ (50 ∷ 57 ∷ 10 ∷ []) ∷ refused 6
    ∷ refused 6 ∷ refused 6 ∷ refused 6
    ∷ refused 4 ∷ refused 5 ∷ refused 6
    ∷ replicate 27 []
unfolding effect any tab index real earlier first season_rows season_number season_found
    decimal spaced number_line dated asked_date date_text season_text
season_texts = refl
