-- What each call returns, and what it leaves in the buffer lent for its result. A call is given a plan P and, of these, symbols
-- s, doubts u, a record F, a buffer B. Everything is decided from these bytes alone; a refusal leaves B as it was.
--
--   write_number, write_buffer   WRITING the mark of the record F into B
--   measure_number, measure_reading  MEASURING the record F against a photograph
--   read_number, read_reading, read_buffer  READING a photograph, the record into B
--
-- What this file is for: the contracts of the calls are equalities with these.
-- Checking is `check_number` of Plan, finding is Finder, widening is Widening, explaining is Explaining.
use Rattle.std.specs.Prelude.{Bool, true, false, not, ◌&&◌, ◌||◌, List, [], ◌∷◌, ◌++◌, ℕ, eqb, ltb, leb, pos, length}
use Rattle.std.proofs.Math.Option.{Option, some, none}
use Rattle.bounded.specs.Bounded.{at, any}
use Rattle.definitions.specs.declared.Reading.{Reading}
use Rattle.definitions.specs.Refusals.{Refusal, ◌when◌, first, accepted}
use Rattle.definitions.specs.Plan.{modulus, plan_rows}
use Rattle.definitions.specs.Code.{Code, size, cells, value, mark}
use Rattle.definitions.specs.Cost.{full, unread, changed, unread_cells, radius, margin, class}
use Rattle.distance.specs.Cost.{cost}
use Rattle.definitions.specs.Search.{search}

-- refusal 6: the buffer B has not the length n
abbrev pub length_row : List ℕ → ℕ → Refusal
length_row B n = 6 when not (eqb (length B) n)

-- refusal 7, of n symbols: one is p or more and not 255
abbrev pub strange : (p : ℕ) (s : List ℕ) (n : ℕ) → Bool
strange p s n = any n λ c. leb p (at s c) && not (eqb (at s c) unread)

-- refusal 8, of n doubts, for the full doubt f: one is above f, or an unread cell's is not f
abbrev pub misdoubted : (f : ℕ) (s u : List ℕ) (n : ℕ) → Bool
misdoubted f s u n = any n λ c. ltb f (at u c) || (eqb (at s c) unread && not (eqb (at u c) f))

-- refusal 9, of n coefficients: one is p or more
abbrev pub overflowing : (p : ℕ) (F : List ℕ) (n : ℕ) → Bool
overflowing p F n = any n λ k. leb p (at F k)

abbrev pub record_row : Code → (P F : List ℕ) → Refusal
record_row C P F = 9 when overflowing (modulus P) F (size C P)

-- refusals 6 to 8, for a photograph of n cells and a record, or the buffer for one, of k numbers
abbrev pub photo_tests : (p f : ℕ) (s u F : List ℕ) (n k : ℕ) → List Refusal
photo_tests p f s u F n k =
    length_row s n
    ∷ length_row u n
    ∷ length_row F k
    ∷ (7 when strange p s n)
    ∷ (8 when misdoubted f s u n)
    ∷ []

unfoldable pub photo_rows : Code → (P s u F : List ℕ) → List Refusal
photo_rows C P s u F = plan_rows P ++ photo_tests (modulus P) (full P) s u F (cells C P) (size C P)

-- the cost D of a record, its changed count, the unread count, and whether the record is within the radius
abbrev pub cost_of : Code → (P s u F : List ℕ) → ℕ
cost_of C P s u F = cost (full P) (cells C P) (at s) (at u) (value C P F)

abbrev pub changed_of : Code → (P s F : List ℕ) → ℕ
changed_of C P s F = changed (cells C P) (at s) (value C P F)

abbrev pub unread_of : Code → (P s : List ℕ) → ℕ
unread_of C P s = unread_cells (cells C P) (at s)

unfoldable pub within : Code → (P s u F : List ℕ) → Bool
within C P s u F = ltb (cost_of C P s u F) (radius C P)

-- a refusal: the number and zeros; and what is said of a record
abbrev pub refused : ℕ → Reading
refused k = record { number = k; cost = 0; margin = pos 0; changed = 0; unread = 0; class = 0 }

unfoldable pub reading_of : Code → (P s u F : List ℕ) → Reading
reading_of C P s u F = record {
  number = 0;
  cost = cost_of C P s u F;
  margin = margin (radius C P) (cost_of C P s u F);
  changed = changed_of C P s F;
  unread = unread_of C P s;
  class = class (changed_of C P s F);
}

-- WRITING: the plan's refusals, 6 and 9
abbrev pub write_tests : (p : ℕ) (F B : List ℕ) (n k : ℕ) → List Refusal
write_tests p F B n k = length_row F k ∷ length_row B n ∷ (9 when overflowing p F k) ∷ []

unfoldable pub write_rows : Code → (P F B : List ℕ) → List Refusal
write_rows C P F B = plan_rows P ++ write_tests (modulus P) F B (cells C P) (size C P)

unfoldable pub write_number : Code → (P F B : List ℕ) → ℕ
write_number C P F B = first (write_rows C P F B)

unfoldable pub write_buffer : Code → (P F B : List ℕ) → List ℕ
write_buffer C P F B = accepted (write_number C P F B) (mark C P F) B

-- MEASURING: the plan's refusals, and 6 to 9
unfoldable pub measure_rows : Code → (P s u F : List ℕ) → List Refusal
measure_rows C P s u F = photo_rows C P s u F ++ record_row C P F ∷ []

unfoldable pub measure_number : Code → (P s u F : List ℕ) → ℕ
measure_number C P s u F = first (measure_rows C P s u F)

unfoldable pub measure_reading : Code → (P s u F : List ℕ) → Reading
measure_reading C P s u F = accepted (measure_number C P s u F) (reading_of C P s u F) (refused (measure_number C P s u F))

-- READING: the plan's refusals, 6 to 8 and 10. The record is the first of all records of the plan, in dictionary order, within
-- the radius
unfoldable pub nearest : Code → (P s u : List ℕ) → Option (List ℕ)
nearest C P s u = search (modulus P) (size C P) (within C P s u)

abbrev pub missing : Option (List ℕ) → Bool
missing none = true
missing (some F) = false

abbrev pub the : Option (List ℕ) → List ℕ
the none = []
the (some F) = F

unfoldable pub read_rows : Code → (P s u B : List ℕ) → List Refusal
read_rows C P s u B = photo_rows C P s u B ++ (10 when missing (nearest C P s u)) ∷ []

unfoldable pub read_number : Code → (P s u B : List ℕ) → ℕ
read_number C P s u B = first (read_rows C P s u B)

unfoldable pub read_reading : Code → (P s u B : List ℕ) → Reading
read_reading C P s u B = accepted (read_number C P s u B) (reading_of C P s u (the (nearest C P s u)))
    (refused (read_number C P s u B))

unfoldable pub read_buffer : Code → (P s u B : List ℕ) → List ℕ
read_buffer C P s u B = accepted (read_number C P s u B) (the (nearest C P s u)) B
