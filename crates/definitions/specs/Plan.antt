-- "The season plan": a record of 40 bytes, here P. X takes the row points, and every other coordinate the column points.
--
--   plan_bytes                the length of a plan
--   pair P a                  the number in two bytes from byte a on, the high one first
--   season, modulus, degree   the season, p and d
--   rows, columns             how many points there are each way
--   row_point, column_point   the i-th row point and the j-th column point, counted from 0
--   side P i, point P i j     how many points coordinate i has, and the j-th of them; X is coordinate 0
--   filled P a n              of the n bytes from byte a on, one is not 0
--   unfit p n                 refusals 3 and 13, of n points
--   unrisen P a i             byte i of those from byte a on is not above the one before it
--   wrong_point P a n i       byte i of the sixteen from byte a on, of which the first n are points, is wrong
--   misplaced P a n           refusal 5, of these sixteen
--   plan_rows                 refusals 1 to 5 and 13, in the table's order
--   check_number              what checking a plan returns; a plan is sound where it is 0
--
-- What this file is for: which plans are sound, and which number an unsound one gets.
use Rattle.std.specs.Prelude.{Bool, false, not, ◌||◌, cond, List, [], ◌∷◌, ℕ, zero, suc, ◌+◌, ◌*◌, min, eqb, ltb, leb, length}
use Rattle.bounded.specs.Bounded.{at, any}
use Rattle.field.specs.Prime.{is_prime}
use Rattle.definitions.specs.Refusals.{Refusal, ◌when◌, first}

abbrev pub plan_bytes : ℕ
plan_bytes = 40

abbrev pub pair : List ℕ → ℕ → ℕ
pair P a = at P a * 256 + at P (a + 1)

abbrev pub season : List ℕ → ℕ
season P = pair P 0

abbrev pub modulus : List ℕ → ℕ
modulus P = at P 2

abbrev pub rows : List ℕ → ℕ
rows P = at P 3

abbrev pub columns : List ℕ → ℕ
columns P = at P 4

abbrev pub degree : List ℕ → ℕ
degree P = at P 5

abbrev pub row_point : List ℕ → ℕ → ℕ
row_point P i = at P (6 + i)

abbrev pub column_point : List ℕ → ℕ → ℕ
column_point P j = at P (22 + j)

abbrev pub side : List ℕ → ℕ → ℕ
side P zero = rows P
side P (suc i) = columns P

abbrev pub point : List ℕ → ℕ → ℕ → ℕ
point P zero = row_point P
point P (suc i) = column_point P

abbrev pub filled : List ℕ → (a n : ℕ) → Bool
filled P a n = any n λ i. ltb 0 (at P (a + i))

-- none, above 16, or more than p
abbrev pub unfit : (p n : ℕ) → Bool
unfit p n = eqb n 0 || (ltb 16 n || ltb p n)

abbrev pub unrisen : List ℕ → (a i : ℕ) → Bool
unrisen P a zero = false
unrisen P a (suc i) = leb (at P (a + suc i)) (at P (a + i))

-- a point is p or more, or not above the one before it; an unused byte is not 0
abbrev pub wrong_point : List ℕ → (a n i : ℕ) → Bool
wrong_point P a n i = cond (ltb i n) (leb (modulus P) (at P (a + i)) || unrisen P a i) (ltb 0 (at P (a + i)))

abbrev pub misplaced : List ℕ → (a n : ℕ) → Bool
misplaced P a n = any 16 (wrong_point P a n)

unfoldable pub plan_rows : List ℕ → List Refusal
plan_rows P =
    (1 when not (eqb (length P) plan_bytes))
    ∷ (1 when filled P 38 2)
    ∷ (2 when not (is_prime (modulus P)))
    ∷ (2 when ltb 251 (modulus P))
    ∷ (3 when unfit (modulus P) (rows P))
    ∷ (13 when unfit (modulus P) (columns P))
    ∷ (4 when leb (min (rows P) (columns P)) (degree P))
    ∷ (5 when misplaced P 6 (rows P))
    ∷ (5 when misplaced P 22 (columns P))
    ∷ []

unfoldable pub check_number : List ℕ → ℕ
check_number P = first (plan_rows P)
