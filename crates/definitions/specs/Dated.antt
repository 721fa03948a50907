-- What the program `trayseason` takes from its argument, and what it prints for it and for a window file on its standard input.
--
--   is_digit b           the byte is one of the digits 0 to 9, in ASCII
--   digits_from w a n    the n bytes from byte a on are digits
--   number_from w a n    the number that they are
--   dated w              the argument has the form of a date: ten bytes, four digits, '-', two digits, '-', two digits
--   asked_date w         the date that they are, which need not be real
--   season_line y        the digits of the season y
--   date_text t file     the season of a date, or REFUSED and the number
--   season_text w input  what is printed: the season or REFUSED, and nothing where the argument has not the form of a date
--
-- What this file is for: the one answer of `trayseason` is `season_text` of its argument and of all that came in.
use Rattle.std.specs.Prelude.{Bool, true, cond, ◌&&◌, List, [], ◌∷◌, ◌++◌, ℕ, zero, suc, ◌+◌, ◌*◌, ◌-◌, eqb, leb, length}
use Rattle.bounded.specs.Bounded.{at}
use Rattle.calendar.specs.Calendar.{date}
use Rattle.calendar.specs.declared.Date.{Date}
use Rattle.definitions.specs.Refusals.{accepted}
use Rattle.definitions.specs.Windows.{season_number, season_found}
use Rattle.definitions.specs.Printed.{digit, minus, newline, decimal, refused_line}

abbrev pub is_digit : ℕ → Bool
is_digit b = leb (digit 0) b && leb b (digit 9)

abbrev pub digits_from : List ℕ → (a n : ℕ) → Bool
digits_from w a zero = true
digits_from w a (suc n) = digits_from w a n && is_digit (at w (a + n))

abbrev pub number_from : List ℕ → (a n : ℕ) → ℕ
number_from w a zero = 0
number_from w a (suc n) = number_from w a n * 10 + (at w (a + n) - digit 0)

unfoldable pub dated : List ℕ → Bool
dated w =
    eqb (length w) 10
    && (digits_from w 0 4 && ((eqb (at w 4) minus && digits_from w 5 2) && (eqb (at w 7) minus && digits_from w 8 2)))

unfoldable pub asked_date : List ℕ → Date
asked_date w = date (number_from w 0 4) (number_from w 5 2) (number_from w 8 2)

abbrev pub season_line : ℕ → List ℕ
season_line y = decimal y ++ newline ∷ []

-- the season of a date by a file, or the refusal
unfoldable pub date_text : (t : Date) (file : List ℕ) → List ℕ
date_text t file = accepted (season_number file t) (season_line (season_found file t)) (refused_line (season_number file t))

unfoldable pub season_text : (w input : List ℕ) → List ℕ
season_text w input = cond (dated w) (date_text (asked_date w) input) []
