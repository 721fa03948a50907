-- The calendar's laws, as statements.
--
--   date y m d         the date of these numbers
--   IsReal t           year, month and day are within their bounds; a date is real exactly where they are
--   days_of y          how many real dates the year has
--   YearDays y         they are 366 where 4 divides the year, and 400 does if 100 does; else 365
--   first_date, last_date  1 January 1900 and 31 December 2199
--   following t        the day after: of the month, or the first of the next month, or 1 January of the next year
--   InOrder            of two real dates that differ just one is the earlier, and what is earlier than an earlier one is earlier;
--                      none is earlier than the first date or later than the last
--   IsNext t n         n is a real date, later than t, and no real date lies between them
--
-- What this file is for: that real dates and their order are the calendar's. The theorems are in proofs/Calendar.antt.
use Rattle.std.specs.Prelude.{◌≡◌, ◌≢◌, ◌⊎◌, true, false, cond, ℕ, ◌+◌, ◌%◌, ◌≤◌, ltb}
use Rattle.bounded.specs.Bounded.{sum}
use Rattle.calendar.specs.Dates.{days_in, real, earlier, on_or_before}
use Rattle.calendar.specs.declared.Date.{Date}

abbrev pub date : (y m d : ℕ) → Date
date y m d = record { year = y; month = m; day = d }

pub record IsReal (t : Date) : Type 0 where
  pub from : 1900 ≤ t.year
  pub to : t.year ≤ 2199
  pub january : 1 ≤ t.month
  pub december : t.month ≤ 12
  pub first : 1 ≤ t.day
  pub last : t.day ≤ days_in t.year t.month
  pub most : t.day ≤ 31

-- a real date has a month below 13 and a day below 32, by `IsReal`
abbrev pub days_of : ℕ → ℕ
days_of y = sum 13 λ m. sum 32 λ d. cond (real (date y m d)) 1 0

pub record YearDays (y : ℕ) : Type 0 where
  pub common : y % 4 ≢ 0 → days_of y ≡ 365
  pub fourth : y % 4 ≡ 0 → y % 100 ≢ 0 → days_of y ≡ 366
  pub hundredth : y % 100 ≡ 0 → y % 400 ≢ 0 → days_of y ≡ 365
  pub four_hundredth : y % 400 ≡ 0 → days_of y ≡ 366

abbrev pub first_date : Date
first_date = date 1900 1 1

abbrev pub last_date : Date
last_date = date 2199 12 31

abbrev pub following : Date → Date
following t =
    cond (ltb t.day (days_in t.year t.month)) (date t.year t.month (t.day + 1))
    (cond (ltb t.month 12) (date t.year (t.month + 1) 1) (date (t.year + 1) 1 1))

pub record InOrder : Type 0 where
  pub never : (t : Date) → earlier t t ≡ false
  pub through : (t u v : Date) → real t ≡ true → real u ≡ true → real v ≡ true → earlier t u ≡ true → earlier u v ≡ true →
      earlier t v ≡ true
  pub either : (t u : Date) → real t ≡ true → real u ≡ true → (earlier t u ≡ true) ⊎ ((t ≡ u) ⊎ (earlier u t ≡ true))
  pub first : (t : Date) → real t ≡ true → on_or_before first_date t ≡ true
  pub last : (t : Date) → real t ≡ true → on_or_before t last_date ≡ true

pub record IsNext (t n : Date) : Type 0 where
  pub there : real n ≡ true
  pub later : earlier t n ≡ true
  pub none : (u : Date) → real u ≡ true → earlier t u ≡ true → on_or_before n u ≡ true
