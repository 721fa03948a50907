-- The cases of document 01, with unread cells counted apart, and further ones hold of the definitions.
--
--   cases_hold                    cases a to l
--   oblong_cases_hold             the cases of oblong marks
--   explain_cases_hold            the cases of explaining
--   age_cases_hold                the cases of doubts in 250ths
--   more_cases_hold               the further cases
--   class_bounds                  the class at each of its bounds
--   index-cases                   the first number that passes a test
--   finder_cases                  what the finder hands back
--   published_case                a published distance
--   never-over-zero               nothing is a multiple of a fraction over 0
--   four-not-first, not_by_columns
--                                 what is not: 4 before 13, and a mark written column by column
--   tray_cases                    case c as `trayread` reads it
--   text-cases, record-cases      what it prints
--   why_texts                     what `traywhy` prints
--   decimal-cases, signed-cases   numbers in print
--   widening_cases                plans of 24 bytes widened, and refused
--   widening_texts                what `planwiden` prints
--
-- What this file is for: the definitions say what the customer worked out by hand; each is one computed comparison. Assumes
-- nothing.
use mathlib.Core.Path.{◌≡◌, refl}
use mathlib.Core.Logic.{inl, inr}
use mathlib.Core.Bool.{true}
use mathlib.Core.List.{List, [], ◌∷◌, ◌++◌, map}
use Prim.Native.Nat.{ℕ, ◌+◌}
use native.Mathlib.Omega.{arith}
use lib.IntN.{pos, negsuc}
use lib.Dec.{leb, lit<}
use lib.ListN.{replicate, take, drop, set}
use Rattle.bounded.specs.Bounded.{at, tab, index}
use Rattle.definitions.specs.Cost.{class}
use Rattle.definitions.specs.Photograph.{sure}
use Rattle.definitions.specs.Finder.{find_rows, find_number, find_offset, find_bytes}
use Rattle.definitions.specs.Published.{◌over◌, ◌is◌times◌, distance, weighted}
use Rattle.definitions.specs.Tray.{tray_reading, tray_record}
use Rattle.definitions.specs.Why.{why_reason, why_other, why_reading}
use Rattle.definitions.specs.Printed.{decimal, signed, spaced, costs, read_line, record_line, answer_line, number_line}
use Rattle.definitions.specs.Printed.{answer_text, tray_text, why_text}
use Rattle.definitions.specs.Widening.{widened, widened_all, widen_rows, widen_number, widen_buffer, widen_text}
use Rattle.definitions.specs.Cases.{effect, only, call, expected, cases, oblong_cases, explain_cases, age_cases, more_cases}
use Rattle.definitions.specs.Refusals.{◌when◌, table, Earliest}
use Rattle.definitions.specs.Code.{oblong}
use Rattle.definitions.specs.Demands.{Written}
use Rattle.polynomial.specs.Record.{value_xy}
use Rattle.definitions.specs.Cases.{gives, plan_wide, plan_tall, mark_wide, mark_tall, record₁}
use Rattle.definitions.specs.Cases.{plan_a, mark₁, photo_c, photo_d, hidden, doubted, doubts, nines, season30}

pub cases_hold : map effect (map call cases) ≡ map expected cases
unfolding effect
cases_hold = refl

pub oblong_cases_hold : map effect (map call oblong_cases) ≡ map expected oblong_cases
unfolding effect
oblong_cases_hold = refl

pub explain_cases_hold : map effect (map call explain_cases) ≡ map expected explain_cases
unfolding effect
explain_cases_hold = refl

pub age_cases_hold : map effect (map call age_cases) ≡ map expected age_cases
unfolding effect
age_cases_hold = refl

pub more_cases_hold : map effect (map call more_cases) ≡ map expected more_cases
unfolding effect
more_cases_hold = refl

pub class_bounds : map class (0 ∷ 1 ∷ 3 ∷ 4 ∷ 15 ∷ 16 ∷ 256 ∷ []) ≡ 0 ∷ 1 ∷ 1 ∷ 2 ∷ 2 ∷ 3 ∷ 3 ∷ []
class_bounds = refl

-- the first number from 3 on, below 0, 3, 4 and 9
pub index-cases : map (λ n. index n (leb 3)) (0 ∷ 3 ∷ 4 ∷ 9 ∷ []) ≡ 0 ∷ 3 ∷ 3 ∷ 3 ∷ []
unfolding index
index-cases = refl

-- the number, the offset and the bytes
abbrev found : List ℕ → ℕ → ℕ × ℕ × List ℕ
found file y = (find_number file y, find_offset file y, find_bytes file y)

-- plans of the seasons 268, 12 with p 9, 12, 268 with d 0, 13
abbrev plan_file : List ℕ
plan_file = set plan_a 0 1 ++ set plan_a 2 9 ++ plan_a ++ set (set plan_a 0 1) 5 0 ++ set plan_a 1 13

-- of several the first, sound or not; at the start of the file and at its end; seasons that stand nowhere, inside plans, and
-- across them; one plan alone; the last of eleven; a plan of 255s, and one of zeros; an empty file; a byte too many, a byte too
-- few, and half a plan
pub finder_cases :
    map (found plan_file) (12 ∷ 268 ∷ 13 ∷ 269 ∷ 516 ∷ 0 ∷ [])
    ++ found plan_a 12 ∷ found (plan_file ++ plan_file ++ set plan_a 1 14) 14
    ∷ found (plan_a ++ replicate 40 255) 65535 ∷ found (plan_a ++ plan_a ++ replicate 40 0) 0
    ∷ found [] 12 ∷ found (plan_file ++ 0 ∷ []) 12 ∷ found (drop 1 plan_file) 12 ∷ found (drop 20 plan_a) 12 ∷ []
    ≡ (0, 40, set plan_a 2 9) ∷ (0, 0, set plan_a 0 1) ∷ (0, 160, set plan_a 1 13) ∷ (12, 0, []) ∷ (12, 0, []) ∷ (12, 0, [])
    ∷ (0, 0, plan_a) ∷ (0, 400, set plan_a 1 14) ∷ (0, 40, replicate 40 255) ∷ (0, 80, replicate 40 0)
    ∷ (12, 0, []) ∷ (11, 0, []) ∷ (11, 0, []) ∷ (11, 0, []) ∷ []
unfolding effect index find_number find_rows find_offset find_bytes
finder_cases = refl

-- a wrong cell without doubt, and a right one with the doubt 50: 1 and a quarter
pub published_case : distance 2 (weighted 100 (at (7 ∷ 8 ∷ [])) (at (0 ∷ 50 ∷ []))) (at (6 ∷ 8 ∷ [])) ≡ 50000 over 40000
published_case = refl

-- nothing is a multiple of a fraction over 0
pub never-over-zero : (D k a : ℕ) → ¬ (D is k times (a over 0))
never-over-zero D k a h = omega (arith, h.0)

-- 4 is not the first in the table's order where 13 applies too
pub four-not-first : ¬ (Earliest table ((4 when true) ∷ (13 when true) ∷ []) 4)
unfolding index
four-not-first e = omega (arith, e.before 13 (inr (inl (refl, refl))))

-- and the mark of the record, written column by column, is not what is written
pub not_by_columns : ¬ (Written oblong plan_wide record₁ (4 ∷ 6 ∷ 1 ∷ 3 ∷ 0 ∷ 2 ∷ []))
unfolding value_xy
not_by_columns w = omega (arith, w.1 0 1 (lit< tt) (lit< tt))

-- an oblong mark each way, and a square's number of bytes after an oblong's plan
pub tray_cases :
    map tray_reading (
    (plan_a ++ photo_c ++ sure 9) ∷ (plan_a ++ mark₁) ∷ (plan_a ++ photo_c ++ sure 10) ∷ drop 1 plan_a
    ∷ (plan_wide ++ mark_wide ++ sure 6) ∷ (plan_tall ++ mark_tall ++ sure 6) ∷ (plan_wide ++ sure 8) ∷ []
    )
    ≡ gives 400 200 2 0 1 ∷ only 6 ∷ only 6 ∷ only 1 ∷ gives 0 300 0 0 0 ∷ gives 0 300 0 0 0 ∷ only 6 ∷ []
unfolding effect tray_reading
tray_cases = refl

-- RECORD 3 1 2; READ, the season's digits and other characters, and that; REFUSED and a number's digits
abbrev line₁ : List ℕ
line₁ = 82 ∷ 69 ∷ 67 ∷ 79 ∷ 82 ∷ 68 ∷ 32 ∷ 51 ∷ 32 ∷ 49 ∷ 32 ∷ 50 ∷ 10 ∷ []

abbrev reading : (season others : List ℕ) → List ℕ
reading season others = 82 ∷ 69 ∷ 65 ∷ 68 ∷ 32 ∷ season ++ others ++ 10 ∷ line₁

-- 2 0 1 400 200; 2 0 1 1000 500; 0 5 0 500 100; 0 5 0 1250 250; 0 0 0 0 300
abbrev case_c : List ℕ
case_c = 32 ∷ 50 ∷ 32 ∷ 48 ∷ 32 ∷ 49 ∷ 32 ∷ 52 ∷ 48 ∷ 48 ∷ 32 ∷ 50 ∷ 48 ∷ 48 ∷ []

abbrev finer_c : List ℕ
finer_c = 32 ∷ 50 ∷ 32 ∷ 48 ∷ 32 ∷ 49 ∷ 32 ∷ 49 ∷ 48 ∷ 48 ∷ 48 ∷ 32 ∷ 53 ∷ 48 ∷ 48 ∷ []

abbrev case_f : List ℕ
case_f = 32 ∷ 48 ∷ 32 ∷ 53 ∷ 32 ∷ 48 ∷ 32 ∷ 53 ∷ 48 ∷ 48 ∷ 32 ∷ 49 ∷ 48 ∷ 48 ∷ []

abbrev finer_f : List ℕ
finer_f = 32 ∷ 48 ∷ 32 ∷ 53 ∷ 32 ∷ 48 ∷ 32 ∷ 49 ∷ 50 ∷ 53 ∷ 48 ∷ 32 ∷ 50 ∷ 53 ∷ 48 ∷ []

abbrev oblong_clean : List ℕ
oblong_clean = 32 ∷ 48 ∷ 32 ∷ 48 ∷ 32 ∷ 48 ∷ 32 ∷ 48 ∷ 32 ∷ 51 ∷ 48 ∷ 48 ∷ []

abbrev refusal : List ℕ → List ℕ
refusal number = 82 ∷ 69 ∷ 70 ∷ 85 ∷ 83 ∷ 69 ∷ 68 ∷ 32 ∷ number ++ 10 ∷ []

-- case c, in season 12 and in season 268; case f, and in season 30; case d; a byte less than case c and a byte more; a plan a
-- byte short; no columns; nothing; an oblong mark each way
pub text-cases :
    map tray_text (
    (plan_a ++ photo_c ++ sure 9) ∷ (set plan_a 0 1 ++ photo_c ++ sure 9) ∷ (plan_a ++ hidden 5 ++ doubts 5)
    ∷ (season30 plan_a ++ hidden 5 ++ doubted 250 5)
    ∷ (plan_a ++ photo_d ++ sure 9) ∷ (plan_a ++ photo_c ++ sure 8) ∷ (plan_a ++ photo_c ++ sure 10) ∷ drop 1 plan_a
    ∷ (set plan_wide 4 0 ++ mark_wide) ∷ [] ∷ (plan_wide ++ mark_wide ++ sure 6) ∷ (plan_tall ++ mark_tall ++ sure 6) ∷ []
    )
    ≡ reading (49 ∷ 50 ∷ []) case_c ∷ reading (50 ∷ 54 ∷ 56 ∷ []) finer_c ∷ reading (49 ∷ 50 ∷ []) case_f
    ∷ reading (51 ∷ 48 ∷ []) finer_f
    ∷ refusal (49 ∷ 48 ∷ []) ∷ refusal (54 ∷ []) ∷ refusal (54 ∷ []) ∷ refusal (49 ∷ [])
    ∷ refusal (49 ∷ 51 ∷ []) ∷ refusal (49 ∷ []) ∷ reading (49 ∷ 50 ∷ []) oblong_clean ∷ reading (49 ∷ 50 ∷ []) oblong_clean ∷ []
unfolding effect tray_reading tray_record decimal signed spaced costs read_line record_line number_line answer_text tray_text
text-cases = refl

-- ANSWER and further digits; OTHER and a digit, and RECORD 3 1 2; NONE and a number's digits
abbrev answer : List ℕ → List ℕ
answer costs = 65 ∷ 78 ∷ 83 ∷ 87 ∷ 69 ∷ 82 ∷ 32 ∷ costs ++ 10 ∷ []

abbrev other : ℕ → List ℕ
other place = 79 ∷ 84 ∷ 72 ∷ 69 ∷ 82 ∷ 32 ∷ place ∷ 10 ∷ line₁

abbrev none : List ℕ → List ℕ
none excess = 78 ∷ 79 ∷ 78 ∷ 69 ∷ 32 ∷ excess ++ 10 ∷ []

-- of plan A, a record and a photograph without doubts
abbrev asked : (F s : List ℕ) → List ℕ
asked F s = plan_a ++ F ++ s ++ sure 9

-- case c with 3 1 2 expected, with 2 2 2 and with 0 0 0; case d with 3 1 2, which costs the radius, and with 2 2 2; in season 30
-- case c with 3 1 2, and case d with 2 2 2; case c a byte short, a byte too long, and without the record; symbols, doubts and
-- coefficients that are too large, in their order; an oblong mark each way, the second with 3 0 2 expected; no columns; a plan a
-- byte short; nothing
pub why_texts :
    map why_text (
    asked record₁ photo_c ∷ asked (2 ∷ 2 ∷ 2 ∷ []) photo_c ∷ asked (0 ∷ 0 ∷ 0 ∷ []) photo_c
    ∷ asked record₁ photo_d ∷ asked (2 ∷ 2 ∷ 2 ∷ []) photo_d
    ∷ season30 (asked record₁ photo_c) ∷ season30 (asked (2 ∷ 2 ∷ 2 ∷ []) photo_d)
    ∷ (plan_a ++ record₁ ++ photo_c ++ sure 8) ∷ (plan_a ++ record₁ ++ photo_c ++ sure 10) ∷ (plan_a ++ photo_c ++ sure 9)
    ∷ (plan_a ++ nines 3 ++ nines 9 ++ nines 8 ++ 101 ∷ []) ∷ (plan_a ++ nines 3 ++ mark₁ ++ sure 8 ++ 101 ∷ [])
    ∷ asked (3 ∷ 1 ∷ 7 ∷ []) mark₁
    ∷ (plan_wide ++ record₁ ++ mark_wide ++ sure 6) ∷ (plan_tall ++ (3 ∷ 0 ∷ 2 ∷ []) ++ mark_tall ++ sure 6)
    ∷ (set plan_wide 4 0 ++ record₁) ∷ drop 1 plan_a ∷ [] ∷ []
    )
    ≡ answer (52 ∷ 48 ∷ 48 ∷ 32 ∷ 50 ∷ 48 ∷ 48 ∷ []) ∷ other 51 ∷ other 48
    ∷ none (48 ∷ []) ∷ none (49 ∷ 50 ∷ 48 ∷ 48 ∷ [])
    ∷ answer (49 ∷ 48 ∷ 48 ∷ 48 ∷ 32 ∷ 53 ∷ 48 ∷ 48 ∷ []) ∷ none (51 ∷ 48 ∷ 48 ∷ 48 ∷ [])
    ∷ refusal (54 ∷ []) ∷ refusal (54 ∷ []) ∷ refusal (54 ∷ [])
    ∷ refusal (55 ∷ []) ∷ refusal (56 ∷ [])
    ∷ refusal (57 ∷ [])
    ∷ answer (48 ∷ 32 ∷ 51 ∷ 48 ∷ 48 ∷ []) ∷ other 50
    ∷ refusal (49 ∷ 51 ∷ []) ∷ refusal (49 ∷ []) ∷ refusal (49 ∷ []) ∷ []
unfolding effect why_reason why_other why_reading decimal signed spaced costs answer_line record_line number_line why_text
why_texts = refl

-- six coefficients, and one
pub record-cases : map record_line ((1 ∷ 0 ∷ 0 ∷ 2 ∷ 3 ∷ 40 ∷ []) ∷ (9 ∷ []) ∷ [])
    ≡ (82 ∷ 69 ∷ 67 ∷ 79 ∷ 82 ∷ 68 ∷ 32 ∷ 49 ∷ 32 ∷ 48 ∷ 32 ∷ 48 ∷ 32 ∷ 50 ∷ 32 ∷ 51 ∷ 32 ∷ 52 ∷ 48 ∷ 10 ∷ [])
    ∷ (82 ∷ 69 ∷ 67 ∷ 79 ∷ 82 ∷ 68 ∷ 32 ∷ 57 ∷ 10 ∷ []) ∷ []
unfolding decimal spaced record_line
record-cases = refl

-- 0, 9, 10, 65535, 4294967295
pub decimal-cases : map decimal (0 ∷ 9 ∷ 10 ∷ 65535 ∷ 4294967295 ∷ [])
    ≡ (48 ∷ []) ∷ (57 ∷ []) ∷ (49 ∷ 48 ∷ []) ∷ (54 ∷ 53 ∷ 53 ∷ 51 ∷ 53 ∷ [])
    ∷ (52 ∷ 50 ∷ 57 ∷ 52 ∷ 57 ∷ 54 ∷ 55 ∷ 50 ∷ 57 ∷ 53 ∷ []) ∷ []
unfolding decimal
decimal-cases = refl

-- 0, 25600, -1, -49600, 64000, -124000
pub signed-cases : map signed (pos 0 ∷ pos 25600 ∷ negsuc 0 ∷ negsuc 49599 ∷ pos 64000 ∷ negsuc 123999 ∷ [])
    ≡ (48 ∷ []) ∷ (50 ∷ 53 ∷ 54 ∷ 48 ∷ 48 ∷ []) ∷ (45 ∷ 49 ∷ []) ∷ (45 ∷ 52 ∷ 57 ∷ 54 ∷ 48 ∷ 48 ∷ [])
    ∷ (54 ∷ 52 ∷ 48 ∷ 48 ∷ 48 ∷ []) ∷ (45 ∷ 49 ∷ 50 ∷ 52 ∷ 48 ∷ 48 ∷ 48 ∷ []) ∷ []
unfolding decimal signed
signed-cases = refl

-- a plan of 24 bytes, of season 12; and the number and the bytes, with a buffer of n bytes
abbrev narrow : (p n d : ℕ) (x : List ℕ) → List ℕ
narrow p n d x = 0 ∷ 12 ∷ p ∷ n ∷ d ∷ take 19 (x ++ replicate 19 0)

abbrev narrow_a : List ℕ
narrow_a = narrow 7 3 1 (1 ∷ 2 ∷ 4 ∷ [])

abbrev widens : List ℕ → ℕ → ℕ × List ℕ
widens old n = (widen_number old (nines n), widen_buffer old (nines n))

-- a plan by itself; one whose bytes all differ, which is not sound; two in order, the first with p 9; bytes 21 to 23 not 0; none;
-- a byte too many and a byte too few, whatever the buffer; the buffer a byte too long, a byte too short, and one for no plan
pub widening_cases :
    widens narrow_a 40 ∷ widens (tab 24 (λ i. 100 + i)) 40 ∷ widens (set narrow_a 2 9 ++ narrow_a) 80
    ∷ widens (take 21 narrow_a ++ 1 ∷ 2 ∷ 3 ∷ []) 40 ∷ widens [] 0
    ∷ widens (narrow_a ++ 0 ∷ []) 40 ∷ widens (drop 1 narrow_a) 0 ∷ widens (drop 1 narrow_a) 40
    ∷ widens narrow_a 41 ∷ widens narrow_a 39 ∷ widens [] 1 ∷ []
    ≡ (0, plan_a) ∷ (0, 100 ∷ 101 ∷ 102 ∷ 103 ∷ 103 ∷ 104 ∷ tab 16 (λ i. 105 + i) ++ tab 16 (λ i. 105 + i) ++ 0 ∷ 0 ∷ [])
    ∷ (0, set plan_a 2 9 ++ plan_a) ∷ (0, plan_a) ∷ (0, [])
    ∷ (11, nines 40) ∷ (11, []) ∷ (11, nines 40) ∷ (6, nines 41) ∷ (6, nines 39) ∷ (6, nines 1) ∷ []
unfolding effect widened widened_all widen_rows widen_number widen_buffer
widening_cases = refl

-- three plans; none; a byte too many
pub widening_texts : map widen_text ((narrow_a ++ set narrow_a 2 9 ++ set narrow_a 2 8) ∷ [] ∷ (narrow_a ++ 0 ∷ []) ∷ [])
    ≡ (plan_a ++ set plan_a 2 9 ++ set plan_a 2 8) ∷ [] ∷ refusal (49 ∷ 49 ∷ []) ∷ []
unfolding effect decimal spaced number_line widened widened_all widen_text
widening_texts = refl
