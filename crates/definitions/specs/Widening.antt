-- Widening: plans of document 01's old form, 24 bytes each, become plans of 40 bytes. Such a plan is Q here: season, p, n, d,
-- sixteen points and three zeros; n and the points are given twice, for the rows and for the columns, and the zeros dropped.
--
--   narrow_bytes, most_plans   the length of such a plan, and how many may be given
--   narrow_plan old k          plan k of the bytes old
--   widened Q                  what Q becomes
--   widened_all old            all plans of old, widened, one after another
--   file_rows, widen_rows      refusal 11; and after it 6, for the buffer `wide`
--   widen_number, widen_buffer  what the call returns, and what it leaves in the buffer
--   widen_text                 what the program `planwiden` prints for an input
--   narrow_rows, narrow_number  document 01's refusals 1 to 5 of Q
--   cleared Q                  Q with its bytes 21 to 23 put to 0
--
-- What this file is for: the contracts of the call and the program are equalities with these. No plan is checked: one that is not
-- sound is widened all the same.
use Rattle.std.specs.Prelude.{not, List, [], ◌∷◌, ◌++◌, ℕ, ◌+◌, ◌*◌, ◌/◌, ◌%◌, eqb, ltb, leb, length, take, drop}
use Rattle.bounded.specs.Bounded.{at, tab}
use Rattle.field.specs.Prime.{is_prime}
use Rattle.definitions.specs.Refusals.{Refusal, ◌when◌, first, accepted}
use Rattle.definitions.specs.Plan.{plan_bytes, modulus, filled, unfit, misplaced}
use Rattle.definitions.specs.Calls.{length_row}
use Rattle.definitions.specs.Printed.{refused_line}

abbrev pub narrow_bytes : ℕ
narrow_bytes = 24

abbrev pub most_plans : ℕ
most_plans = 1000

abbrev pub narrow_plan : (old : List ℕ) (k : ℕ) → List ℕ
narrow_plan old k = take narrow_bytes (drop (k * narrow_bytes) old)

abbrev points : List ℕ → List ℕ
points Q = tab 16 λ i. at Q (5 + i)

unfoldable pub widened : List ℕ → List ℕ
widened Q = at Q 0 ∷ at Q 1 ∷ at Q 2 ∷ at Q 3 ∷ at Q 3 ∷ at Q 4 ∷ points Q ++ points Q ++ 0 ∷ 0 ∷ []

-- byte c of all of them is one of plan c / 40
unfoldable pub widened_all : List ℕ → List ℕ
widened_all old =
    tab (length old / narrow_bytes * plan_bytes) λ c. at (widened (narrow_plan old (c / plan_bytes))) (c % plan_bytes)

abbrev pub file_rows : List ℕ → List Refusal
file_rows old =
    (11 when ltb (most_plans * narrow_bytes) (length old)) ∷ (11 when not (eqb (length old % narrow_bytes) 0)) ∷ []

unfoldable pub widen_rows : (old wide : List ℕ) → List Refusal
widen_rows old wide = file_rows old ++ length_row wide (length old / narrow_bytes * plan_bytes) ∷ []

unfoldable pub widen_number : (old wide : List ℕ) → ℕ
widen_number old wide = first (widen_rows old wide)

unfoldable pub widen_buffer : (old wide : List ℕ) → List ℕ
widen_buffer old wide = accepted (widen_number old wide) (widened_all old) wide

unfoldable pub widen_text : List ℕ → List ℕ
widen_text input = accepted (first (file_rows input)) (widened_all input) (refused_line (first (file_rows input)))

unfoldable pub narrow_rows : List ℕ → List Refusal
narrow_rows Q =
    (1 when not (eqb (length Q) narrow_bytes))
    ∷ (1 when filled Q 21 3)
    ∷ (2 when not (is_prime (modulus Q)))
    ∷ (2 when ltb 251 (modulus Q))
    ∷ (3 when unfit (modulus Q) (at Q 3))
    ∷ (4 when leb (at Q 3) (at Q 4))
    ∷ (5 when misplaced Q 5 (at Q 3))
    ∷ []

unfoldable pub narrow_number : List ℕ → ℕ
narrow_number Q = first (narrow_rows Q)

abbrev pub cleared : List ℕ → List ℕ
cleared Q = take 21 Q ++ 0 ∷ 0 ∷ 0 ∷ []
