-- "Several photographs of one tray" (document 02, request 8): a set of them, in 2,353 bytes S that the caller lends.
--
--   bytes 0 to 39       the plan
--   bytes 40 to 48      for each number 0 to 8 whether its photograph is held: 0, it is not; else it is
--   bytes 49 to 2352    for each number 256 symbols, those of its photograph and then 255s; all are 255 where none is held
--
--   set_bytes                       the length of a set's memory
--   set_plan, flag, place           the plan; where the flag of number k is, and where its symbols begin
--   held S k                        photograph k is held
--   blank n                         n symbols of unread cells
--   started, added, withdrawn       the memory after an accepted call; `put` is of the crate `lent`
--   column S c                      the nine symbols of cell c
--   combined_symbols, combined_doubts  the combination: each cell by `symbol_of` and `doubt_of` of the crate `votes`
--   start_memory                    STARTING a set from the plan P; the number is `check_number P`
--   add_number, add_memory          ADDING photograph k, with the symbols s and the doubts u
--   withdraw_number, withdraw_memory  WITHDRAWING photograph k
--   combine_number, combine_symbols, combine_doubts
--                                   COMBINING what is held into the buffers B and D
--   set_number, set_reading, set_record  READING the combination, the record into B
--
-- Any bytes are a set's: nothing is asked of S. A refusal leaves S and the buffers as they were.
-- What this file is for: the contracts of the calls are equalities with these.
use Rattle.std.specs.Prelude.{Bool, not, List, [], ◌∷◌, ◌++◌, ℕ, ◌+◌, ◌*◌, eqb, ltb, take, replicate, set}
use Rattle.bounded.specs.Bounded.{at, tab}
use Rattle.lent.specs.Put.{put}
use Rattle.votes.specs.Votes.{symbol_of, doubt_of}
use Rattle.definitions.specs.declared.Reading.{Reading}
use Rattle.definitions.specs.Refusals.{Refusal, ◌when◌, first, accepted}
use Rattle.definitions.specs.Plan.{plan_bytes, modulus, plan_rows, check_number}
use Rattle.definitions.specs.Code.{oblong, cells}
use Rattle.definitions.specs.Cost.{full, unread}
use Rattle.definitions.specs.Calls.{length_row, strange, misdoubted, read_number, read_reading, read_buffer}

abbrev pub set_bytes : ℕ
set_bytes = 2353

abbrev pub set_plan : List ℕ → List ℕ
set_plan S = take plan_bytes S

abbrev pub flag : ℕ → ℕ
flag k = 40 + k

abbrev pub place : ℕ → ℕ
place k = 49 + k * 256

abbrev pub held : (S : List ℕ) (k : ℕ) → Bool
held S k = not (eqb (at S (flag k)) 0)

unfoldable pub blank : ℕ → List ℕ
blank n = replicate n unread

unfoldable pub none_held : List ℕ
none_held = replicate 9 0

abbrev pub started : List ℕ → List ℕ
started P = P ++ (none_held ++ blank (9 * 256))

abbrev pub added : (S : List ℕ) (k : ℕ) (s : List ℕ) → List ℕ
added S k s = set (put S (place k) s) (flag k) 1

abbrev pub withdrawn : (S : List ℕ) (k : ℕ) → List ℕ
withdrawn S k = set (put S (place k) (blank 256)) (flag k) 0

unfoldable pub column : (S : List ℕ) (c : ℕ) → List ℕ
column S c = tab 9 λ k. at S (place k + c)

unfoldable pub combined_symbols : List ℕ → List ℕ
combined_symbols S = tab (cells oblong (set_plan S)) λ c. symbol_of (column S c) 9

unfoldable pub combined_doubts : List ℕ → List ℕ
combined_doubts S = tab (cells oblong (set_plan S)) λ c. doubt_of (full (set_plan S)) (column S c) 9

-- STARTING: the plan's refusals
unfoldable pub start_memory : (P S : List ℕ) → List ℕ
start_memory P S = accepted (check_number P) (started P) S

-- ADDING: the refusals of the plan in the memory, 6, 17, 7 and 8
abbrev pub add_tests : (p f : ℕ) (S : List ℕ) (k : ℕ) (s u : List ℕ) (n : ℕ) → List Refusal
add_tests p f S k s u n =
    length_row s n ∷ length_row u n
    ∷ (17 when ltb 8 k) ∷ (17 when held S k) ∷ (7 when strange p s n) ∷ (8 when misdoubted f s u n) ∷ []

unfoldable pub add_rows : (S : List ℕ) (k : ℕ) (s u : List ℕ) → List Refusal
add_rows S k s u =
    plan_rows (set_plan S) ++ add_tests (modulus (set_plan S)) (full (set_plan S)) S k s u (cells oblong (set_plan S))

unfoldable pub add_number : (S : List ℕ) (k : ℕ) (s u : List ℕ) → ℕ
add_number S k s u = first (add_rows S k s u)

unfoldable pub add_memory : (S : List ℕ) (k : ℕ) (s u : List ℕ) → List ℕ
add_memory S k s u = accepted (add_number S k s u) (added S k s) S

-- WITHDRAWING: 18. No plan is looked at
abbrev pub withdraw_rows : (S : List ℕ) (k : ℕ) → List Refusal
withdraw_rows S k = (18 when ltb 8 k) ∷ (18 when not (held S k)) ∷ []

unfoldable pub withdraw_number : (S : List ℕ) (k : ℕ) → ℕ
withdraw_number S k = first (withdraw_rows S k)

unfoldable pub withdraw_memory : (S : List ℕ) (k : ℕ) → List ℕ
withdraw_memory S k = accepted (withdraw_number S k) (withdrawn S k) S

-- COMBINING: the refusals of the plan in the memory, and 6
abbrev pub combine_tests : (B D : List ℕ) (n : ℕ) → List Refusal
combine_tests B D n = length_row B n ∷ length_row D n ∷ []

unfoldable pub combine_rows : (S B D : List ℕ) → List Refusal
combine_rows S B D = plan_rows (set_plan S) ++ combine_tests B D (cells oblong (set_plan S))

unfoldable pub combine_number : (S B D : List ℕ) → ℕ
combine_number S B D = first (combine_rows S B D)

unfoldable pub combine_symbols : (S B D : List ℕ) → List ℕ
combine_symbols S B D = accepted (combine_number S B D) (combined_symbols S) B

unfoldable pub combine_doubts : (S B D : List ℕ) → List ℕ
combine_doubts S B D = accepted (combine_number S B D) (combined_doubts S) D

-- READING: as any photograph is read
abbrev pub set_number : (S B : List ℕ) → ℕ
set_number S B = read_number oblong (set_plan S) (combined_symbols S) (combined_doubts S) B

abbrev pub set_reading : (S B : List ℕ) → Reading
set_reading S B = read_reading oblong (set_plan S) (combined_symbols S) (combined_doubts S) B

abbrev pub set_record : (S B : List ℕ) → List ℕ
set_record S B = read_buffer oblong (set_plan S) (combined_symbols S) (combined_doubts S) B
