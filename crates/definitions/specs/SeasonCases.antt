-- Cases of request 7: window files, dates asked for, and what is given.
--
--   window y f l                 the bytes of a window: season, first day, last day, two zeros
--   file asked t ⟹ (n, y)        the call gives the number n and the season y
--   asks, given                  the file and the date of a row, and what it says is given
--   effect                       what the definitions say is given
--   belt                         a file of two windows, which is also that of the program's cases
--   season_cases                 the rows
--
-- What this file is for: the definitions of windows are held to these rows, all at once (proofs/SeasonCases.antt).
use Rattle.std.specs.Prelude.{List, [], ◌∷◌, ◌++◌, ℕ, zero, suc, ◌+◌, ◌*◌, ◌/◌, ◌%◌, drop, set}
use Rattle.calendar.specs.Calendar.{date}
use Rattle.calendar.specs.declared.Date.{Date}
use Rattle.definitions.specs.Windows.{season_number, season_found}

infix 20 ◌asked◌⟹◌
pub data Case : Type 0 where
  ◌asked◌⟹◌ : (file : List ℕ) (t : Date) (given : ℕ × ℕ) → Case

abbrev pub asks : Case → List ℕ × Date
asks (file asked t ⟹ g) = (file, t)

abbrev pub given : Case → ℕ × ℕ
given (file asked t ⟹ g) = g

unfoldable pub effect : List ℕ × Date → ℕ × ℕ
effect (file, t) = (season_number file t, season_found file t)

-- a number in two bytes, a date in four, a window in twelve
abbrev two : ℕ → List ℕ
two n = n / 256 ∷ n % 256 ∷ []

abbrev four : Date → List ℕ
four t = two t.year ++ t.month ∷ t.day ∷ []

abbrev pub window : (y : ℕ) (f l : Date) → List ℕ
window y f l = two y ++ four f ++ four l ++ 0 ∷ 0 ∷ []

-- the seasons 30 and 29, from July to June, the later one first
abbrev pub belt : List ℕ
belt = window 30 (date 2026 7 1) (date 2027 6 30) ++ window 29 (date 2025 7 1) (date 2026 6 30)

-- one day, and the days from the n-th of June 2026 to its m-th
abbrev day : ℕ → Date → List ℕ
day y t = window y t t

abbrev june : (y n m : ℕ) → List ℕ
june y n m = window y (date 2026 6 n) (date 2026 6 m)

-- n windows, of a year each, every third year from 1900 on; their seasons are 0, 1, 2, ..
abbrev years : ℕ → List ℕ
years zero = []
years (suc n) = years n ++ window n (date (1900 + 3 * n) 1 1) (date (1900 + 3 * n) 12 31)

-- In order: end days, New Year, the days about a window, and 30 June beside 1 July; one day; 29 February in four years, in the
-- file and asked for; days that are in no month and months that are in no year; the first and the last day that there is, and
-- the years about them; numbers that a byte or two do not hold; a last date before its first, by a day, by a month with a later
-- day, by a year with a later month; two windows that share a day at either end, with one season too, one window twice, one
-- inside another, and the first and the last of three; filler; broken files, none, 64 windows and 65; seasons 0, 268 and 65535;
-- 14 before 15 before 16
abbrev pub season_cases : List Case
season_cases =
    (belt asked date 2026 11 15 ⟹ (0, 30))
    ∷ (belt asked date 2026 7 1 ⟹ (0, 30))
    ∷ (belt asked date 2027 6 30 ⟹ (0, 30))
    ∷ (belt asked date 2026 12 31 ⟹ (0, 30))
    ∷ (belt asked date 2027 1 1 ⟹ (0, 30))
    ∷ (belt asked date 2026 6 30 ⟹ (0, 29))
    ∷ (belt asked date 2025 7 1 ⟹ (0, 29))
    ∷ (belt asked date 2025 6 30 ⟹ (16, 0))
    ∷ (belt asked date 2027 7 1 ⟹ (16, 0))
    ∷ (day 7 (date 2026 6 15) asked date 2026 6 15 ⟹ (0, 7))
    ∷ (day 7 (date 2026 6 15) asked date 2026 6 14 ⟹ (16, 0))
    ∷ (day 7 (date 2026 6 15) asked date 2026 6 16 ⟹ (16, 0))
    ∷ (day 7 (date 2000 2 29) asked date 2000 2 29 ⟹ (0, 7))
    ∷ (day 7 (date 2096 2 29) asked date 2096 2 29 ⟹ (0, 7))
    ∷ (day 7 (date 2100 2 29) asked date 2100 2 29 ⟹ (14, 0))
    ∷ (day 7 (date 1900 2 29) asked date 1900 2 29 ⟹ (14, 0))
    ∷ (window 7 (date 2099 1 1) (date 2101 1 1) asked date 2100 2 29 ⟹ (16, 0))
    ∷ (window 7 (date 1900 1 1) (date 1901 1 1) asked date 1900 2 29 ⟹ (16, 0))
    ∷ (window 7 (date 2026 1 1) (date 2026 4 31) asked date 2026 1 1 ⟹ (14, 0))
    ∷ (window 7 (date 2026 4 0) (date 2026 4 30) asked date 2026 4 1 ⟹ (14, 0))
    ∷ (window 7 (date 2026 0 1) (date 2026 4 30) asked date 2026 4 1 ⟹ (14, 0))
    ∷ (window 7 (date 2026 4 1) (date 2026 13 1) asked date 2026 4 1 ⟹ (14, 0))
    ∷ (belt asked date 2026 4 31 ⟹ (16, 0))
    ∷ (belt asked date 2026 4 0 ⟹ (16, 0))
    ∷ (belt asked date 2027 0 1 ⟹ (16, 0))
    ∷ (belt asked date 2026 13 1 ⟹ (16, 0))
    ∷ (window 7 (date 1900 1 1) (date 2199 12 31) asked date 1900 1 1 ⟹ (0, 7))
    ∷ (window 7 (date 1900 1 1) (date 2199 12 31) asked date 2199 12 31 ⟹ (0, 7))
    ∷ (window 7 (date 1900 1 1) (date 2199 12 31) asked date 1899 12 31 ⟹ (16, 0))
    ∷ (window 7 (date 1900 1 1) (date 2199 12 31) asked date 2200 1 1 ⟹ (16, 0))
    ∷ (window 7 (date 1899 12 31) (date 2199 12 31) asked date 1900 1 1 ⟹ (14, 0))
    ∷ (window 7 (date 1900 1 1) (date 2200 1 1) asked date 1900 1 1 ⟹ (14, 0))
    ∷ (belt asked date 67562 11 15 ⟹ (16, 0))
    ∷ (belt asked date 2026 267 15 ⟹ (16, 0))
    ∷ (belt asked date 2026 11 271 ⟹ (16, 0))
    ∷ (belt asked date 2026 65547 15 ⟹ (16, 0))
    ∷ (belt asked date 4294967295 4294967295 4294967295 ⟹ (16, 0))
    ∷ (june 7 15 14 asked date 2026 6 14 ⟹ (14, 0))
    ∷ (window 7 (date 2026 6 14) (date 2026 5 15) asked date 2026 6 14 ⟹ (14, 0))
    ∷ (window 7 (date 2026 6 14) (date 2025 7 15) asked date 2026 6 14 ⟹ (14, 0))
    ∷ (june 7 1 15 ++ june 8 15 30 asked date 2026 6 1 ⟹ (15, 0))
    ∷ (june 8 15 30 ++ june 7 1 15 asked date 2026 6 1 ⟹ (15, 0))
    ∷ (june 7 1 15 ++ june 7 15 30 asked date 2026 6 1 ⟹ (15, 0))
    ∷ (june 7 1 15 ++ june 8 16 30 asked date 2026 6 16 ⟹ (0, 8))
    ∷ (june 7 1 15 ++ june 7 1 15 asked date 2026 6 1 ⟹ (15, 0))
    ∷ (june 7 1 30 ++ june 8 10 20 asked date 2026 6 1 ⟹ (15, 0))
    ∷ (june 8 10 20 ++ june 7 1 30 asked date 2026 6 1 ⟹ (15, 0))
    ∷ (june 7 1 15 ++ june 8 20 30 ++ june 9 15 19 asked date 2026 6 20 ⟹ (15, 0))
    ∷ (june 7 1 15 ++ june 8 20 30 ++ june 9 16 19 asked date 2026 6 19 ⟹ (0, 9))
    ∷ (set (june 7 1 15) 10 1 asked date 2026 6 1 ⟹ (14, 0))
    ∷ (set (june 7 1 15) 11 255 asked date 2026 6 1 ⟹ (14, 0))
    ∷ (set belt 23 1 asked date 2026 11 15 ⟹ (14, 0))
    ∷ ([] asked date 2026 6 1 ⟹ (16, 0))
    ∷ ([] asked date 2026 6 31 ⟹ (16, 0))
    ∷ (drop 1 (june 7 1 15) asked date 2026 6 1 ⟹ (14, 0))
    ∷ (june 7 1 15 ++ 0 ∷ [] asked date 2026 6 1 ⟹ (14, 0))
    ∷ (years 64 asked date 2089 12 31 ⟹ (0, 63))
    ∷ (years 65 asked date 1900 1 1 ⟹ (14, 0))
    ∷ (june 0 1 15 asked date 2026 6 1 ⟹ (0, 0))
    ∷ (june 268 1 15 asked date 2026 6 1 ⟹ (0, 268))
    ∷ (june 65535 1 15 asked date 2026 6 1 ⟹ (0, 65535))
    ∷ (june 7 1 15 ++ june 8 15 31 asked date 2026 6 31 ⟹ (14, 0))
    ∷ (june 7 1 15 ++ june 8 15 30 asked date 2026 6 31 ⟹ (15, 0))
    ∷ []
