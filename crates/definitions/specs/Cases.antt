-- Cases a to l of the table "Edges" of document 01, with plans of 40 bytes and unread cells counted apart as document 02 asks, as
-- rows of one list; the cases of oblong marks as those of another, those of explaining, those of doubts in 250ths, and further
-- ones.
--
--   call ⟹ reading leaving bytes       a call, what it returns, and what its last buffer then holds
--   call ⟹ explanation beside bytes    the same of explaining
--   effect                              the same by the definitions
--
-- What this file is for: the definitions are held against the document's own examples; proofs/Cases.antt computes both sides.
use Rattle.std.specs.Prelude.{List, [], ◌∷◌, ◌++◌, ℕ, pos, neg_ℤ, replicate, take, drop, set}
use Rattle.bounded.specs.Bounded.{any, tab, index}
use Rattle.field.specs.Prime.{is_prime}
use Rattle.definitions.specs.declared.Reading.{Reading}
use Rattle.definitions.specs.declared.Explanation.{Explanation}
use Rattle.definitions.specs.Refusals.{first}
use Rattle.definitions.specs.Plan.{check_number, plan_rows}
use Rattle.definitions.specs.Code.{Code, strip, oblong, mark}
use Rattle.polynomial.specs.Layout.{value}
use Rattle.definitions.specs.Cost.{full, margin}
use Rattle.definitions.specs.Photograph.{sure}
use Rattle.definitions.specs.Search.{search, first_of}
use Rattle.definitions.specs.Calls.{photo_rows, reading_of, write_rows, write_number, write_buffer}
use Rattle.definitions.specs.Calls.{measure_rows, measure_number, measure_reading}
use Rattle.definitions.specs.Calls.{within, nearest, read_rows, read_number, read_reading, read_buffer}
use Rattle.definitions.specs.Explaining.{explain_rows, explain_number, explain_reason, explain_buffer, values_of}

pub data Call : Type 0 where
  check : (P : List ℕ) → Call
  write : (C : Code) (P F B : List ℕ) → Call
  measure : (C : Code) (P s u F : List ℕ) → Call
  read : (C : Code) (P s u B : List ℕ) → Call
  explain : (C : Code) (P s u F B : List ℕ) → Call

infix 10 ◌leaving◌
infix 10 ◌beside◌
pub data Effect : Type 0 where
  ◌leaving◌ : Reading → List ℕ → Effect
  ◌beside◌ : Explanation → List ℕ → Effect

infix 5 ◌⟹◌
pub data Case : Type 0 where
  ◌⟹◌ : Call → Effect → Case

-- a number with zeros beside it, written out
abbrev pub only : ℕ → Reading
only k = record { number = k; cost = 0; margin = pos 0; changed = 0; unread = 0; class = 0 }

-- whoever unfolds this computes with all that it names
unfoldable pub effect : Call → Effect
unfolding any tab first is_prime check_number plan_rows value mark full margin search first_of photo_rows reading_of
    write_rows write_number write_buffer measure_rows measure_number measure_reading
    within nearest read_rows read_number read_reading read_buffer
    index explain_rows explain_number explain_reason explain_buffer
effect (check P) = only (check_number P) leaving []
effect (write C P F B) = only (write_number C P F B) leaving write_buffer C P F B
effect (measure C P s u F) = measure_reading C P s u F leaving F
effect (read C P s u B) = read_reading C P s u B leaving read_buffer C P s u B
effect (explain C P s u F B) = values_of (explain_reason C P s u F B) beside explain_buffer C P s u F B

abbrev pub call : Case → Call
call (c ⟹ o) = c

abbrev pub expected : Case → Effect
expected (c ⟹ o) = o

-- D, margin, changed, unread and class of a record
abbrev pub gives : ℕ → ℕ → ℕ → ℕ → ℕ → Reading
gives D z n m k = record { number = 0; cost = D; margin = pos z; changed = n; unread = m; class = k }

-- number, reason, place and excess
abbrev tells : ℕ → ℕ → ℕ → ℕ → Explanation
tells k r c e = record { number = k; reason = r; place = c; excess = e }

-- sixteen bytes that begin with the points x
abbrev sixteen : List ℕ → List ℕ
sixteen x = take 16 (x ++ replicate 16 0)

-- a cost above the radius: D, by how much, changed and class
abbrev far : ℕ → ℕ → ℕ → ℕ → Reading
far D z n k = record { number = 0; cost = D; margin = neg_ℤ (pos z); changed = n; unread = 0; class = k }

-- a plan of season 12 with a rows and b columns of the points x and y; and one of n points x each way
abbrev plan : (p a b d : ℕ) (x y : List ℕ) → List ℕ
plan p a b d x y = 0 ∷ 12 ∷ p ∷ a ∷ b ∷ d ∷ sixteen x ++ sixteen y ++ 0 ∷ 0 ∷ []

abbrev alike : (p n d : ℕ) (x : List ℕ) → List ℕ
alike p n d x = plan p n n d x x

abbrev pub plan_a : List ℕ
plan_a = alike 7 3 1 (1 ∷ 2 ∷ 4 ∷ [])

abbrev plan_h : List ℕ
plan_h = alike 2 1 0 (0 ∷ [])

abbrev plan_j : List ℕ
plan_j = alike 2 2 1 (0 ∷ 1 ∷ [])

-- two rows and three columns, and three rows and two columns
abbrev pub plan_wide : List ℕ
plan_wide = plan 7 2 3 1 (1 ∷ 3 ∷ []) (0 ∷ 2 ∷ 5 ∷ [])

abbrev pub plan_tall : List ℕ
plan_tall = plan 7 3 2 1 (0 ∷ 2 ∷ 5 ∷ []) (1 ∷ 3 ∷ [])

-- 3 + X + 2Y, its mark, and the photographs of cases c and d
abbrev pub record₁ : List ℕ
record₁ = 3 ∷ 1 ∷ 2 ∷ []

abbrev pub mark₁ : List ℕ
mark₁ = 6 ∷ 1 ∷ 5 ∷ 0 ∷ 2 ∷ 6 ∷ 2 ∷ 4 ∷ 1 ∷ []

abbrev pub photo_c : List ℕ
photo_c = 0 ∷ 1 ∷ 5 ∷ 0 ∷ 2 ∷ 6 ∷ 2 ∷ 4 ∷ 0 ∷ []

abbrev pub photo_d : List ℕ
photo_d = 0 ∷ 0 ∷ 0 ∷ drop 3 mark₁

-- the mark with its first k cells unread, and its doubts; a buffer of 9s, so that "unchanged" is seen
abbrev pub hidden : ℕ → List ℕ
hidden k = replicate k 255 ++ drop k mark₁

abbrev pub doubted : (f k : ℕ) → List ℕ
doubted f k = replicate k f ++ drop k (sure 9)

abbrev pub doubts : ℕ → List ℕ
doubts = doubted 100

abbrev pub nines : ℕ → List ℕ
nines n = replicate n 9

-- a plan of another season: its two bytes
abbrev pub in_season : (high low : ℕ) → List ℕ → List ℕ
in_season high low P = high ∷ low ∷ drop 2 P

-- plans of season 29, the last with doubts in 100ths, and of season 30, the first with 250ths
abbrev season29 : List ℕ → List ℕ
season29 = in_season 0 29

abbrev pub season30 : List ℕ → List ℕ
season30 = in_season 0 30

-- the mark of 2 2 2 in four cells where it differs from that of 3 1 2, each in doubt 100, and the mark of 3 1 2 in the others
abbrev photo_both : List ℕ
photo_both = 6 ∷ 1 ∷ 5 ∷ 1 ∷ 3 ∷ 0 ∷ 5 ∷ 4 ∷ 1 ∷ []

abbrev doubts_both : List ℕ
doubts_both = sure 3 ++ replicate 4 100 ++ sure 2

-- the marks of the same record by the oblong plans
abbrev pub mark_wide : List ℕ
mark_wide = 4 ∷ 1 ∷ 0 ∷ 6 ∷ 3 ∷ 2 ∷ []

abbrev pub mark_tall : List ℕ
mark_tall = 5 ∷ 2 ∷ 0 ∷ 4 ∷ 3 ∷ 0 ∷ []

abbrev pub cases : List Case
cases =
    (write oblong plan_a record₁ (nines 9) ⟹ only 0 leaving mark₁)  -- a
    ∷ (read oblong plan_a mark₁ (sure 9) (nines 3) ⟹ gives 0 600 0 0 0 leaving record₁)  -- b
    ∷ (read oblong plan_a photo_c (sure 9) (nines 3) ⟹ gives 400 200 2 0 1 leaving record₁)  -- c
    ∷ (read oblong plan_a photo_d (sure 9) (nines 3) ⟹ only 10 leaving nines 3)  -- d
    ∷ (read oblong plan_a photo_d (1 ∷ 1 ∷ 1 ∷ sure 6) (nines 3) ⟹ gives 597 3 3 0 1 leaving record₁)  -- e
    ∷ (read oblong plan_a (hidden 5) (doubts 5) (nines 3) ⟹ gives 500 100 0 5 0 leaving record₁)  -- f
    ∷ (read oblong plan_a (hidden 6) (doubts 6) (nines 3) ⟹ only 10 leaving nines 3)  -- g
    ∷ (read oblong plan_h (1 ∷ []) (99 ∷ []) (nines 1) ⟹ gives 99 1 0 0 0 leaving 1 ∷ [])  -- h
    ∷ (read oblong plan_h (1 ∷ []) (100 ∷ []) (nines 1) ⟹ only 10 leaving nines 1)  -- i
    ∷ (read oblong plan_j (1 ∷ sure 3) (sure 4) (nines 3) ⟹ only 10 leaving nines 3)  -- j
    ∷ (measure oblong plan_j (1 ∷ sure 3) (sure 4) (0 ∷ 0 ∷ 0 ∷ []) ⟹ gives 200 0 1 0 1 leaving 0 ∷ 0 ∷ 0 ∷ [])
    ∷ (measure oblong plan_j (1 ∷ sure 3) (sure 4) (1 ∷ 1 ∷ 0 ∷ []) ⟹ gives 200 0 1 0 1 leaving 1 ∷ 1 ∷ 0 ∷ [])
    ∷ (measure oblong plan_a photo_d (sure 9) record₁ ⟹ gives 600 0 3 0 1 leaving record₁)  -- k
    ∷ (check (alike 9 3 1 (1 ∷ 2 ∷ 4 ∷ [])) ⟹ only 2 leaving [])  -- l
    ∷ (check (alike 7 3 3 (1 ∷ 2 ∷ 4 ∷ [])) ⟹ only 4 leaving [])
    ∷ (check (alike 7 3 1 (1 ∷ 1 ∷ 4 ∷ [])) ⟹ only 5 leaving [])
    ∷ []

-- oblong marks, with other points each way: written and read; wrong cells, one short of the radius and on it; a record measured;
-- a strip, over the row points; degrees up to the smaller side, which is below the larger; columns that are none, 17, more than
-- p; the order 3, 13, 4; points of the columns that are p, not rising, and unused; both point sets wrong; strips by a plan whose
-- columns are unsound; bytes in the unused places of the rows of a wide plan and of the columns of a tall one, and in
-- the last place of the rows; sixteen rows of one cell, and one row of sixteen; a strip of degree 2; rows alone that are none,
-- 17, more than p; 4 before 5, and 13 before 5 in the rows; no plan at all; byte 38 before p; 13 from writing, measuring and
-- reading a mark; a symbol too few
abbrev pub oblong_cases : List Case
oblong_cases =
    (write oblong plan_wide record₁ (nines 6) ⟹ only 0 leaving mark_wide)
    ∷ (write oblong plan_tall record₁ (nines 6) ⟹ only 0 leaving mark_tall)
    ∷ (read oblong plan_wide mark_wide (sure 6) (nines 3) ⟹ gives 0 300 0 0 0 leaving record₁)
    ∷ (read oblong plan_tall mark_tall (sure 6) (nines 3) ⟹ gives 0 300 0 0 0 leaving record₁)
    ∷ (read oblong plan_wide (set mark_wide 5 4) (99 ∷ sure 5) (nines 3) ⟹ gives 299 1 1 0 1 leaving record₁)
    ∷ (read oblong plan_wide (set mark_wide 5 4) (100 ∷ sure 5) (nines 3) ⟹ only 10 leaving nines 3)
    ∷ (read oblong plan_tall (set mark_tall 1 4) (set (sure 6) 4 99) (nines 3) ⟹ gives 299 1 1 0 1 leaving record₁)
    ∷ (read oblong plan_tall (set mark_tall 1 4) (set (sure 6) 4 100) (nines 3) ⟹ only 10 leaving nines 3)
    ∷ (measure oblong plan_tall mark_wide (sure 6) record₁ ⟹ far 800 500 4 2 leaving record₁)
    ∷ (write strip plan_wide (3 ∷ 1 ∷ []) (nines 2) ⟹ only 0 leaving 4 ∷ 6 ∷ [])
    ∷ (read strip plan_tall (3 ∷ 5 ∷ 255 ∷ []) (0 ∷ 0 ∷ 100 ∷ []) (nines 2) ⟹ gives 100 100 0 1 0 leaving 3 ∷ 1 ∷ [])
    ∷ (check (set plan_wide 5 2) ⟹ only 4 leaving [])
    ∷ (check (set plan_tall 5 2) ⟹ only 4 leaving [])
    ∷ (check (plan 7 3 4 2 (0 ∷ 1 ∷ 2 ∷ []) (0 ∷ 1 ∷ 2 ∷ 3 ∷ [])) ⟹ only 0 leaving [])
    ∷ (check (set plan_wide 4 0) ⟹ only 13 leaving [])
    ∷ (check (plan 19 1 17 0 (0 ∷ []) (1 ∷ 2 ∷ 4 ∷ [])) ⟹ only 13 leaving [])
    ∷ (check (plan 2 2 3 1 (0 ∷ 1 ∷ []) (0 ∷ 1 ∷ [])) ⟹ only 13 leaving [])
    ∷ (check (set (set plan_wide 4 0) 5 2) ⟹ only 13 leaving [])
    ∷ (check (set (set plan_wide 3 0) 4 0) ⟹ only 3 leaving [])
    ∷ (check (set plan_wide 24 7) ⟹ only 5 leaving [])
    ∷ (check (set plan_wide 23 0) ⟹ only 5 leaving [])
    ∷ (check (set plan_wide 25 1) ⟹ only 5 leaving [])
    ∷ (check (set plan_wide 37 1) ⟹ only 5 leaving [])
    ∷ (check (set (set plan_wide 6 7) 22 7) ⟹ only 5 leaving [])
    ∷ (write strip (set plan_wide 4 0) (3 ∷ 1 ∷ []) (nines 2) ⟹ only 13 leaving nines 2)
    ∷ (read strip (set plan_tall 22 4) (3 ∷ 5 ∷ 1 ∷ []) (sure 3) (nines 2) ⟹ only 5 leaving nines 2)
    ∷ (check (set plan_wide 8 5) ⟹ only 5 leaving [])
    ∷ (check (set plan_tall 24 5) ⟹ only 5 leaving [])
    ∷ (check (set plan_tall 21 1) ⟹ only 5 leaving [])
    ∷ (check (plan 17 16 1 0 (tab 16 λ i. i) (0 ∷ [])) ⟹ only 0 leaving [])
    ∷ (check (plan 17 1 16 0 (16 ∷ []) (tab 16 λ i. i)) ⟹ only 0 leaving [])
    ∷ (write strip (alike 5 3 2 (0 ∷ 1 ∷ 2 ∷ [])) (1 ∷ 2 ∷ 3 ∷ []) (nines 3) ⟹ only 0 leaving 1 ∷ 1 ∷ 2 ∷ [])
    ∷ (check (set plan_wide 3 0) ⟹ only 3 leaving [])
    ∷ (check (plan 19 17 1 0 (1 ∷ 2 ∷ 4 ∷ []) (0 ∷ [])) ⟹ only 3 leaving [])
    ∷ (check (plan 2 3 2 1 (0 ∷ 1 ∷ []) (0 ∷ 1 ∷ [])) ⟹ only 3 leaving [])
    ∷ (check (set (set plan_wide 5 2) 6 7) ⟹ only 4 leaving [])
    ∷ (check (set (set plan_wide 4 0) 6 7) ⟹ only 13 leaving [])
    ∷ (check [] ⟹ only 1 leaving [])
    ∷ (check (set (set plan_wide 2 9) 38 1) ⟹ only 1 leaving [])
    ∷ (write oblong (set plan_wide 4 0) record₁ (nines 6) ⟹ only 13 leaving nines 6)
    ∷ (measure oblong (set plan_wide 4 0) mark_wide (sure 6) record₁ ⟹ only 13 leaving record₁)
    ∷ (read oblong (set plan_wide 4 0) mark_wide (sure 6) (nines 3) ⟹ only 13 leaving nines 3)
    ∷ (read oblong plan_wide (drop 1 mark_wide) (sure 6) (nines 3) ⟹ only 6 leaving nines 3)
    ∷ []

-- explaining: case c, its record expected, and records whose marks first differ from it in the second row, in the second column,
-- and in the first cell; case d, which has no answer, its record on the radius, and a far one; cases e, g, h and i, and of h the
-- other record, whose mark has one cell; strips, one of which differs from the answer in the last cell alone; oblong marks each
-- way; 6 for each buffer, before 7; 7 before 8, 8 before 9, and 9; each number of the plan, 13 for strips and marks, before all
abbrev pub explain_cases : List Case
explain_cases =
    (explain oblong plan_a photo_c (sure 9) record₁ (nines 3) ⟹ tells 0 1 0 0 beside nines 3)
    ∷ (explain oblong plan_a photo_c (sure 9) (2 ∷ 2 ∷ 2 ∷ []) (nines 3) ⟹ tells 0 2 3 0 beside record₁)
    ∷ (explain oblong plan_a photo_c (sure 9) (1 ∷ 1 ∷ 4 ∷ []) (nines 3) ⟹ tells 0 2 1 0 beside record₁)
    ∷ (explain oblong plan_a photo_c (sure 9) (0 ∷ 0 ∷ 0 ∷ []) (nines 3) ⟹ tells 0 2 0 0 beside record₁)
    ∷ (explain oblong plan_a photo_d (sure 9) record₁ (nines 3) ⟹ tells 0 3 0 0 beside nines 3)
    ∷ (explain oblong plan_a photo_d (sure 9) (1 ∷ 0 ∷ 0 ∷ []) (nines 3) ⟹ tells 0 3 0 1000 beside nines 3)
    ∷ (explain oblong plan_a photo_d (1 ∷ 1 ∷ 1 ∷ sure 6) record₁ (nines 3) ⟹ tells 0 1 0 0 beside nines 3)  -- e
    ∷ (explain oblong plan_a (hidden 6) (doubts 6) record₁ (nines 3) ⟹ tells 0 3 0 0 beside nines 3)  -- g
    ∷ (explain oblong plan_h (1 ∷ []) (99 ∷ []) (1 ∷ []) (nines 1) ⟹ tells 0 1 0 0 beside nines 1)  -- h
    ∷ (explain oblong plan_h (1 ∷ []) (99 ∷ []) (0 ∷ []) (nines 1) ⟹ tells 0 2 0 0 beside 1 ∷ [])
    ∷ (explain oblong plan_h (1 ∷ []) (100 ∷ []) (1 ∷ []) (nines 1) ⟹ tells 0 3 0 0 beside nines 1)  -- i
    ∷ (explain strip plan_a (4 ∷ 5 ∷ 255 ∷ []) (0 ∷ 0 ∷ 100 ∷ []) (3 ∷ 1 ∷ []) (nines 2) ⟹ tells 0 1 0 0 beside nines 2)
    ∷ (explain strip plan_a (4 ∷ 5 ∷ 1 ∷ []) (sure 3) (0 ∷ 0 ∷ []) (nines 2) ⟹ tells 0 3 0 400 beside nines 2)
    ∷ (explain strip (alike 5 3 2 (0 ∷ 1 ∷ 2 ∷ [])) (1 ∷ 1 ∷ 2 ∷ []) (sure 3) (1 ∷ 1 ∷ 4 ∷ []) (nines 3)
    ⟹ tells 0 2 2 0 beside 1 ∷ 2 ∷ 3 ∷ [])
    ∷ (explain oblong plan_wide mark_wide (sure 6) (2 ∷ 2 ∷ 2 ∷ []) (nines 3) ⟹ tells 0 2 3 0 beside record₁)
    ∷ (explain oblong plan_tall mark_tall (sure 6) (3 ∷ 2 ∷ 2 ∷ []) (nines 3) ⟹ tells 0 2 2 0 beside record₁)
    ∷ (explain oblong plan_a (7 ∷ drop 1 mark₁) (sure 9) record₁ (nines 4) ⟹ tells 6 0 0 0 beside nines 4)
    ∷ (explain oblong plan_a (7 ∷ drop 1 mark₁) (sure 9) (3 ∷ 1 ∷ []) (nines 3) ⟹ tells 6 0 0 0 beside nines 3)
    ∷ (explain oblong plan_a (7 ∷ drop 2 mark₁) (sure 9) record₁ (nines 3) ⟹ tells 6 0 0 0 beside nines 3)
    ∷ (explain oblong plan_a (7 ∷ drop 1 mark₁) (sure 8) record₁ (nines 3) ⟹ tells 6 0 0 0 beside nines 3)
    ∷ (explain oblong plan_a (7 ∷ drop 1 mark₁) (101 ∷ sure 8) record₁ (nines 3) ⟹ tells 7 0 0 0 beside nines 3)
    ∷ (explain oblong plan_a mark₁ (101 ∷ sure 8) (3 ∷ 1 ∷ 7 ∷ []) (nines 3) ⟹ tells 8 0 0 0 beside nines 3)
    ∷ (explain oblong plan_a mark₁ (sure 9) (3 ∷ 1 ∷ 7 ∷ []) (nines 3) ⟹ tells 9 0 0 0 beside nines 3)
    ∷ (explain strip (set plan_wide 4 0) [] [] [] (nines 3) ⟹ tells 13 0 0 0 beside nines 3)
    ∷ (explain oblong (set plan_wide 4 0) [] [] [] (nines 3) ⟹ tells 13 0 0 0 beside nines 3)
    ∷ (explain oblong [] mark₁ (sure 9) record₁ (nines 3) ⟹ tells 1 0 0 0 beside nines 3)
    ∷ (explain oblong (set plan_a 2 9) mark₁ (sure 9) record₁ (nines 3) ⟹ tells 2 0 0 0 beside nines 3)
    ∷ (explain oblong (set plan_a 3 0) mark₁ (sure 9) record₁ (nines 3) ⟹ tells 3 0 0 0 beside nines 3)
    ∷ (explain oblong (set plan_a 5 3) mark₁ (sure 9) record₁ (nines 3) ⟹ tells 4 0 0 0 beside nines 3)
    ∷ (explain oblong (set plan_a 6 2) mark₁ (sure 9) record₁ (nines 3) ⟹ tells 5 0 0 0 beside nines 3)
    ∷ []

-- cases e to i in season 30, doubts in 250ths. In seasons 29 and 30 the same bytes: the records of cases c and f, the doubts of
-- whose unread cells are 100; a right mark with six doubts of 100, and one of one cell with one; a photograph that is read as one
-- record in season 29 and as another in season 30; doubts of 101, of 250 and of 251; an unread cell with the doubt 250; three
-- wrong cells. An unread cell with the doubt 249 and 251. Case h in the seasons 65535, 256, whose low byte is 0, and 7680, whose
-- high byte is 30. Oblong marks one under the radius and on it. Strips read and measured, an unread cell's doubt in each scale.
-- Explaining: cases h and i, and strips with a far record, another record, and a doubt of 251
abbrev pub age_cases : List Case
age_cases =
    (read oblong (season30 plan_a) photo_d (1 ∷ 1 ∷ 1 ∷ sure 6) (nines 3) ⟹ gives 1497 3 3 0 1 leaving record₁)  -- e
    ∷ (read oblong (season30 plan_a) (hidden 5) (doubted 250 5) (nines 3) ⟹ gives 1250 250 0 5 0 leaving record₁)  -- f
    ∷ (read oblong (season30 plan_a) (hidden 6) (doubted 250 6) (nines 3) ⟹ only 10 leaving nines 3)  -- g
    ∷ (read oblong (season30 plan_h) (1 ∷ []) (249 ∷ []) (nines 1) ⟹ gives 249 1 0 0 0 leaving 1 ∷ [])  -- h
    ∷ (read oblong (season30 plan_h) (1 ∷ []) (250 ∷ []) (nines 1) ⟹ only 10 leaving nines 1)  -- i
    ∷ (measure oblong (season29 plan_a) photo_c (sure 9) record₁ ⟹ gives 400 200 2 0 1 leaving record₁)
    ∷ (measure oblong (season30 plan_a) photo_c (sure 9) record₁ ⟹ gives 1000 500 2 0 1 leaving record₁)
    ∷ (measure oblong (season29 plan_a) (hidden 5) (doubts 5) record₁ ⟹ gives 500 100 0 5 0 leaving record₁)
    ∷ (measure oblong (season30 plan_a) (hidden 5) (doubts 5) record₁ ⟹ only 8 leaving record₁)
    ∷ (measure oblong (season29 plan_a) mark₁ (doubts 6) record₁ ⟹ gives 600 0 0 0 0 leaving record₁)
    ∷ (measure oblong (season30 plan_a) mark₁ (doubts 6) record₁ ⟹ gives 600 900 0 0 0 leaving record₁)
    ∷ (read oblong (season29 plan_h) (1 ∷ []) (100 ∷ []) (nines 1) ⟹ only 10 leaving nines 1)
    ∷ (read oblong (season30 plan_h) (1 ∷ []) (100 ∷ []) (nines 1) ⟹ gives 100 150 0 0 0 leaving 1 ∷ [])
    ∷ (read oblong (season29 plan_a) photo_both doubts_both (nines 3) ⟹ gives 400 200 4 0 2 leaving record₁)
    ∷ (read oblong (season30 plan_a) photo_both doubts_both (nines 3) ⟹ gives 1400 100 2 0 1 leaving 2 ∷ 2 ∷ 2 ∷ [])
    ∷ (measure oblong (season29 plan_a) mark₁ (doubted 101 1) record₁ ⟹ only 8 leaving record₁)
    ∷ (measure oblong (season30 plan_a) mark₁ (doubted 101 1) record₁ ⟹ gives 101 1399 0 0 0 leaving record₁)
    ∷ (measure oblong (season29 plan_a) mark₁ (doubted 250 1) record₁ ⟹ only 8 leaving record₁)
    ∷ (measure oblong (season30 plan_a) mark₁ (doubted 250 1) record₁ ⟹ gives 250 1250 0 0 0 leaving record₁)
    ∷ (read oblong (season29 plan_a) mark₁ (doubted 251 1) (nines 3) ⟹ only 8 leaving nines 3)
    ∷ (read oblong (season30 plan_a) mark₁ (doubted 251 1) (nines 3) ⟹ only 8 leaving nines 3)
    ∷ (measure oblong (season29 plan_a) (hidden 1) (doubted 250 1) record₁ ⟹ only 8 leaving record₁)
    ∷ (measure oblong (season30 plan_a) (hidden 1) (doubted 250 1) record₁ ⟹ gives 250 1250 0 1 0 leaving record₁)
    ∷ (measure oblong (season29 plan_a) photo_d (sure 9) record₁ ⟹ gives 600 0 3 0 1 leaving record₁)
    ∷ (measure oblong (season30 plan_a) photo_d (sure 9) record₁ ⟹ gives 1500 0 3 0 1 leaving record₁)
    ∷ (read oblong (season30 plan_a) (hidden 1) (doubted 249 1) (nines 3) ⟹ only 8 leaving nines 3)
    ∷ (read oblong (season30 plan_a) (hidden 1) (doubted 251 1) (nines 3) ⟹ only 8 leaving nines 3)
    ∷ (read oblong (in_season 255 255 plan_h) (1 ∷ []) (249 ∷ []) (nines 1) ⟹ gives 249 1 0 0 0 leaving 1 ∷ [])
    ∷ (read oblong (in_season 1 0 plan_h) (1 ∷ []) (249 ∷ []) (nines 1) ⟹ gives 249 1 0 0 0 leaving 1 ∷ [])
    ∷ (read oblong (in_season 30 0 plan_h) (1 ∷ []) (249 ∷ []) (nines 1) ⟹ gives 249 1 0 0 0 leaving 1 ∷ [])
    ∷ (read oblong (season30 plan_wide) (set mark_wide 5 4) (249 ∷ sure 5) (nines 3) ⟹ gives 749 1 1 0 1 leaving record₁)
    ∷ (read oblong (season30 plan_tall) (set mark_tall 1 4) (set (sure 6) 4 250) (nines 3) ⟹ only 10 leaving nines 3)
    ∷ (read strip (season30 plan_a) (4 ∷ 5 ∷ 255 ∷ []) (0 ∷ 0 ∷ 250 ∷ []) (nines 2) ⟹ gives 250 250 0 1 0 leaving 3 ∷ 1 ∷ [])
    ∷ (read strip (season30 plan_a) (4 ∷ 5 ∷ 255 ∷ []) (0 ∷ 0 ∷ 100 ∷ []) (nines 2) ⟹ only 8 leaving nines 2)
    ∷ (measure strip (season30 plan_a) (4 ∷ 5 ∷ 1 ∷ []) (sure 3) (3 ∷ 1 ∷ []) ⟹ gives 500 0 1 0 1 leaving 3 ∷ 1 ∷ [])
    ∷ (explain oblong (season30 plan_h) (1 ∷ []) (249 ∷ []) (1 ∷ []) (nines 1) ⟹ tells 0 1 0 0 beside nines 1)  -- h
    ∷ (explain oblong (season30 plan_h) (1 ∷ []) (250 ∷ []) (1 ∷ []) (nines 1) ⟹ tells 0 3 0 0 beside nines 1)  -- i
    ∷ (explain strip (season30 plan_a) (4 ∷ 5 ∷ 1 ∷ []) (sure 3) (0 ∷ 0 ∷ []) (nines 2) ⟹ tells 0 3 0 1000 beside nines 2)
    ∷ (explain strip (season30 plan_a) (4 ∷ 5 ∷ 255 ∷ []) (0 ∷ 0 ∷ 250 ∷ []) (2 ∷ 2 ∷ []) (nines 2)
    ⟹ tells 0 2 1 0 beside 3 ∷ 1 ∷ [])
    ∷ (explain strip (season30 plan_a) (4 ∷ 5 ∷ 0 ∷ []) (251 ∷ 0 ∷ 0 ∷ []) (3 ∷ 1 ∷ []) (nines 2) ⟹ tells 8 0 0 0 beside nines 2)
    ∷ []

-- not of the table: a strip written and read, a plan with several faults at once, records of total degree 2, and of 3; each
-- of the bytes 38 and 39 filled; symbol and doubt wrong at once, doubt and coefficient wrong at once; an unread cell in doubt 99;
-- p 1; sides of 0, 17 and above p; a point that is p, and an unused point byte that is not 0; a wrong cell and an unread one in a
-- mark and in a strip, read and measured; an unread cell where the record's value is 0; the example of docs/SPECIFICATION.md;
-- read cells in doubt 100, wrong and right; an unread first cell of a strip beside a wrong one in doubt 100; an unread last cell;
-- an unread cell in doubt 101; four wrong cells and seventeen unread; an unread cell and a coefficient that is too large
abbrev pub more_cases : List Case
more_cases =
    (write strip plan_a (3 ∷ 1 ∷ []) (nines 3) ⟹ only 0 leaving 4 ∷ 5 ∷ 0 ∷ [])
    ∷ (read strip plan_a (4 ∷ 5 ∷ 255 ∷ []) (0 ∷ 0 ∷ 100 ∷ []) (nines 2) ⟹ gives 100 100 0 1 0 leaving 3 ∷ 1 ∷ [])
    ∷ (check (alike 9 0 3 (1 ∷ 1 ∷ 4 ∷ [])) ⟹ only 2 leaving [])
    ∷ (write oblong plan_a (3 ∷ 1 ∷ 7 ∷ []) (nines 8) ⟹ only 6 leaving nines 8)
    ∷ (write oblong plan_a (3 ∷ 1 ∷ 7 ∷ []) (nines 9) ⟹ only 9 leaving nines 9)
    ∷ (write oblong (alike 5 3 2 (0 ∷ 1 ∷ 2 ∷ [])) (1 ∷ 0 ∷ 0 ∷ 2 ∷ 3 ∷ 4 ∷ []) (nines 9)
    ⟹ only 0 leaving 1 ∷ 0 ∷ 2 ∷ 3 ∷ 0 ∷ 0 ∷ 4 ∷ 4 ∷ 2 ∷ [])
    ∷ (write oblong (alike 11 4 3 (1 ∷ 2 ∷ 3 ∷ 5 ∷ [])) (7 ∷ 1 ∷ 10 ∷ 2 ∷ 5 ∷ 3 ∷ 4 ∷ 9 ∷ 8 ∷ 6 ∷ []) (nines 16)
    ⟹ only 0 leaving 0 ∷ 0 ∷ 6 ∷ 4 ∷ 9 ∷ 10 ∷ 0 ∷ 3 ∷ 0 ∷ 9 ∷ 1 ∷ 1 ∷ 2 ∷ 4 ∷ 10 ∷ 2 ∷ [])
    ∷ (check (set plan_a 38 1) ⟹ only 1 leaving [])
    ∷ (check (set plan_a 39 1) ⟹ only 1 leaving [])
    ∷ (read oblong plan_a (7 ∷ drop 1 mark₁) (101 ∷ sure 8) (nines 3) ⟹ only 7 leaving nines 3)
    ∷ (measure oblong plan_a mark₁ (101 ∷ sure 8) (3 ∷ 1 ∷ 7 ∷ []) ⟹ only 8 leaving 3 ∷ 1 ∷ 7 ∷ [])
    ∷ (read oblong plan_a (hidden 1) (99 ∷ sure 8) (nines 3) ⟹ only 8 leaving nines 3)
    ∷ (check (alike 1 1 0 (0 ∷ [])) ⟹ only 2 leaving [])
    ∷ (check (alike 7 0 0 []) ⟹ only 3 leaving [])
    ∷ (check (alike 19 17 1 (1 ∷ 2 ∷ 4 ∷ [])) ⟹ only 3 leaving [])
    ∷ (check (alike 2 3 1 (0 ∷ 1 ∷ [])) ⟹ only 3 leaving [])
    ∷ (check (alike 7 3 1 (1 ∷ 2 ∷ 7 ∷ [])) ⟹ only 5 leaving [])
    ∷ (check (set plan_a 9 1) ⟹ only 5 leaving [])
    ∷ (read oblong plan_a (0 ∷ 255 ∷ drop 2 mark₁) (0 ∷ 100 ∷ sure 7) (nines 3) ⟹ gives 300 300 1 1 1 leaving record₁)
    ∷ (measure oblong plan_a (0 ∷ 255 ∷ drop 2 mark₁) (0 ∷ 100 ∷ sure 7) record₁ ⟹ gives 300 300 1 1 1 leaving record₁)
    ∷ (read strip (set plan_a 5 0) (5 ∷ 255 ∷ 4 ∷ []) (0 ∷ 100 ∷ 1 ∷ []) (nines 1) ⟹ gives 299 1 1 1 1 leaving 5 ∷ [])
    ∷ (measure strip (set plan_a 5 0) (5 ∷ 255 ∷ 4 ∷ []) (0 ∷ 100 ∷ 1 ∷ []) (5 ∷ []) ⟹ gives 299 1 1 1 1 leaving 5 ∷ [])
    ∷ (read oblong plan_a (set mark₁ 3 255) (set (sure 9) 3 100) (nines 3) ⟹ gives 100 500 0 1 0 leaving record₁)
    ∷ (read oblong plan_a (6 ∷ 1 ∷ 3 ∷ 0 ∷ 255 ∷ 6 ∷ 2 ∷ 0 ∷ 1 ∷ []) (0 ∷ 20 ∷ 0 ∷ 0 ∷ 100 ∷ 0 ∷ 0 ∷ 90 ∷ 5 ∷ []) (nines 3)
    ⟹ gives 435 165 2 1 1 leaving record₁)
    ∷ (read oblong plan_a (0 ∷ drop 1 mark₁) (100 ∷ 100 ∷ sure 7) (nines 3) ⟹ gives 200 400 1 0 1 leaving record₁)
    ∷ (measure strip plan_a (255 ∷ 5 ∷ 1 ∷ []) (100 ∷ 0 ∷ 100 ∷ []) (3 ∷ 1 ∷ []) ⟹ gives 200 0 1 1 1 leaving 3 ∷ 1 ∷ [])
    ∷ (read oblong plan_a (set mark₁ 8 255) (set (sure 9) 8 100) (nines 3) ⟹ gives 100 500 0 1 0 leaving record₁)
    ∷ (read oblong plan_a (hidden 1) (101 ∷ sure 8) (nines 3) ⟹ only 8 leaving nines 3)
    ∷ (measure oblong (alike 7 5 0 (0 ∷ 1 ∷ 2 ∷ 3 ∷ 4 ∷ [])) (replicate 17 255 ++ replicate 4 4 ++ replicate 4 5)
    (replicate 17 100 ++ sure 8) (5 ∷ []) ⟹ gives 2500 0 4 17 2 leaving 5 ∷ [])
    ∷ (measure oblong plan_a (hidden 1) (doubts 1) (3 ∷ 1 ∷ 7 ∷ []) ⟹ only 9 leaving 3 ∷ 1 ∷ 7 ∷ [])
    ∷ []
