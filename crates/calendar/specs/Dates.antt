-- Dates of the Gregorian calendar. A date is a year, a month and a day, any numbers; the days are those from 1 January 1900 to 31
-- December 2199.
--
--   leap y             the year has a 29 February: 4 divides it, and 400 does where 100 does
--   months b           how many days the months have, from January to December, in a leap year or in another
--   short m            one of the months of 30 days
--   days_in y m        how many days month m of the year has: none, where there is no such month
--   real t             the date is one of the calendar, and its year is 1900 to 2199
--   earlier t u        by year; in one year by month; in one month by day
--   on_or_before t u   t is not later than u
--   key t              a number by which real dates can be compared
--
-- What this file is for: which dates there are and in which order, for any numbers.
use Rattle.std.specs.Prelude.{Bool, not, cond, ◌&&◌, ◌||◌, List, [], ◌∷◌, ℕ, ◌+◌, ◌*◌, ◌%◌, eqb, ltb, leb}
use Rattle.bounded.specs.Bounded.{at}
use Rattle.calendar.specs.declared.Date.{Date}

abbrev pub leap : ℕ → Bool
leap y = eqb (y % 4) 0 && (not (eqb (y % 100) 0) || eqb (y % 400) 0)

abbrev pub months : Bool → List ℕ
months b = 31 ∷ cond b 29 28 ∷ 31 ∷ 30 ∷ 31 ∷ 30 ∷ 31 ∷ 31 ∷ 30 ∷ 31 ∷ 30 ∷ 31 ∷ []

-- April, June, September, November
abbrev pub short : ℕ → Bool
short m = eqb m 4 || (eqb m 6 || (eqb m 9 || eqb m 11))

abbrev pub days_in : (y m : ℕ) → ℕ
days_in y m = at (0 ∷ months (leap y)) m

unfoldable pub real : Date → Bool
real t = (leb 1900 t.year && leb t.year 2199) && (leb 1 t.day && leb t.day (days_in t.year t.month))

unfoldable pub earlier : Date → Date → Bool
earlier t u =
    ltb t.year u.year
    || (eqb t.year u.year && (ltb t.month u.month || (eqb t.month u.month && ltb t.day u.day)))

abbrev pub on_or_before : Date → Date → Bool
on_or_before t u = not (earlier u t)

abbrev pub key : Date → ℕ
key t = (t.year * 16 + t.month) * 32 + t.day
