-- The customer's demands, for strips and for marks of any two sides, and what the documents say of every plan, cell, margin and
-- number.
--
--   sound-exactly, checked_exactly       "The season plan": which plans are sound, and which number any other gets
--   plan-first                           and gets it in every call
--   written-exactly, taken-exactly       "What is returned": 6 to 9, by what is wrong with the other arguments
--   shapes                               how many cells and coefficients there are
--   demand_1                             demand 1: what a refusal gives and leaves
--   writes, demand_2_written, demand_2   demand 2: that every record is written, what is written, and that it is read back
--   demand_2_cost, demand_2_cost-read    demand 2: costs and margins, of measuring and of reading
--   demand_3                             demand 3
--   in_scale                             refusal 8 and demands 2 and 3, the cost of a cell and the limits, by the full doubt
--   before_30, from_30                   document 02, request 6: the same in the numbers of the old seasons, and of the new
--   margins_before_30, margins_from_30   "Photographed mark and cost": the margins of marks, in each
--   lowest-given, measures               "What is returned"
--   explains, explains_exactly           document 02, request 5: when a record is explained, and what refuses it
--   explained, handed                    that the reason given is the true one, and what C is handed of it
--   found-exactly, first_found           document 02, request 2: when a plan of a season is found, and which
--   season-exactly, one-window, season-given
--                                        document 02, request 7: the season of a date
--   date-taken, season_printed           what `trayseason` takes its argument for, and what it prints
--   shared_exactly                       what it means that two windows meet by their end days
--   real-exactly, year_days, dates_in_order, next-day
--                                        the calendar
--   masked_reads, unmasked_reads         document 02, request 9: the reading of a masked photograph, and of an unmasked one
--   masks_exactly, masked-cells          which number masking and unmasking give, and what they leave in each cell
--   mask_undone, masked-mark             that each undoes the other, and what a masked mark is
--   set-memory                           document 02, request 8: what a set holds after any calls, and its memory
--   set_fresh, set_photograph            that its combination is the one made afresh, and a photograph of the plan
--   combined-cell, set_starts_unread     what stands in a cell of it, and that at first all are unread
--   set_adds_exactly, set_withdraws_exactly
--                                        which number adding and withdrawing give
--   set_combines, set_reads              what combining and reading give
--   groups_fill                          document 02, request 4: where the coefficients of a record stand
--   tray_parts, tray_refused             what `trayread` takes of its input, and when it refuses it
--   why_parts, why_refused               the same of `traywhy`
--   prints_exactly                       when `planwiden` refuses its input
--   widens_exactly, widened-keeps, widened_in_order
--                                        document 02, request 3: when plans are widened, what one becomes, and all of a file
--
-- What this file is for: the customer's sentences as theorems over the definitions that the calls' contracts repeat. The names in
-- the statements are of `definitions/specs`. Assumes nothing.
use mathlib.Core.Path.{◌≡◌, refl, sym, ap, ◌∙◌}
use mathlib.Core.Logic.{◌↔◌, ◌≢◌}
use mathlib.Core.Bool.{true}
use mathlib.Core.List.{List, [], ◌∷◌}
use Prim.Native.Nat.{ℕ, suc, ◌+◌, ◌*◌, ◌≤◌, ◌<◌}
use native.Mathlib.Omega.{arith}
use native.Mathlib.Numerals.{add-one}
use lib.ListN.{length}
use Rattle.bounded.specs.Bounded.{at, index}
use Rattle.calendar.specs.Dates.{real}
use Rattle.calendar.specs.Calendar.{IsReal, YearDays, last_date, following, InOrder, IsNext}
use Rattle.calendar.specs.declared.Date.{Date}
use Rattle.calendar.proofs.Calendar as calendar
use Rattle.definitions.specs.Plan.{plan_bytes, season, rows, columns, degree, plan_rows, check_number}
use Rattle.definitions.specs.Code.{Code, oblong, size, cells, value, mark, IsRecord}
use Rattle.definitions.specs.Cost.{full}
use Rattle.definitions.specs.Calls.{photo_rows, reading_of, write_rows, write_number, write_buffer}
use Rattle.definitions.specs.Calls.{measure_rows, measure_number, measure_reading}
use Rattle.definitions.specs.Calls.{read_rows, read_number, read_reading, read_buffer}
use Rattle.definitions.specs.Masking.{on, off, mask_rows, mask_number, mask_buffer}
use Rattle.definitions.specs.Masks.{Added, plus, MaskedReads, MaskExactly, Masked, Undone}
use Rattle.votes.specs.Majority.{Majority}
use Rattle.definitions.specs.Sets.{set_plan, combined_symbols, combined_doubts, start_memory, add_rows, add_number}
use Rattle.definitions.specs.Sets.{withdraw_rows, withdraw_number, combine_rows, combine_number}
use Rattle.definitions.specs.Histories.{Holding, empty, Call, run, kept, shown, fresh_symbols, fresh_doubts, Holds, StartsUnread}
use Rattle.definitions.specs.Histories.{AddsExactly, WithdrawsExactly, Combines, SetReads}
use Rattle.definitions.specs.Explaining.{explain_rows, explain_number, explain_reason, explain_buffer, values_of}
use Rattle.definitions.specs.Finder.{find_rows, find_number}
use Rattle.definitions.specs.Windows.{meet, season_number}
use Rattle.definitions.specs.Seasons.{Window, IsWindow, HasDay, SharedDay, SeasonExactly, OneWindow}
use Rattle.definitions.specs.Seasons.{DateTaken, SeasonPrinted}
use Rattle.definitions.specs.Sound.{Sound}
use Rattle.definitions.specs.Photograph.{SymbolsFit, DoubtsFit, Photograph, sure}
use Rattle.polynomial.specs.Record.{start}
use Rattle.definitions.specs.Widening.{narrow_bytes, widen_rows, widen_number}
use Rattle.definitions.specs.Accepted.{Writing, Expecting}
use Rattle.definitions.specs.Demands.{CheckedExactly, PlanFirst, WrittenExactly, TakenExactly, ExplainsExactly, Explained, Handed}
use Rattle.definitions.specs.Demands.{RefusalsKeep, Shapes, Written, RoundTrip, Weighed, Nearest}
use Rattle.definitions.specs.Demands.{InScale, MarkMargins, LowestGiven, Measures, FoundExactly, FirstOfSeason}
use Rattle.definitions.specs.Demands.{GroupsFill, places, TrayParts, TrayRefused, WhyParts, WhyRefused}
use Rattle.definitions.specs.Demands.{WidensExactly, PrintsExactly}
use Rattle.definitions.specs.Demands.{Widened, WidenedInOrder}
use Rattle.definitions.specs.Refusals.{table}
use Rattle.definitions.proofs.Refusals.{first_earliest, first_absent}
use Rattle.definitions.proofs.Finder as finder
use Rattle.definitions.proofs.Widening as widening
use Rattle.definitions.proofs.Windows as windows
use Rattle.definitions.proofs.Dated as dates
use Rattle.definitions.proofs.Tray as tray
use Rattle.definitions.proofs.Why as why
use Rattle.definitions.proofs.Sound as plans
use Rattle.definitions.proofs.Accepted as accepted
use Rattle.definitions.proofs.Plan.{strip_size_lem, mark_size_lem}
use Rattle.definitions.proofs.Sound.{sound, checked}
use Rattle.definitions.proofs.Demands.{nearest-one}
use Rattle.definitions.proofs.Accepted.{accepted_writing, accepted_measuring, accepted-reading, accepted_explaining}
use Rattle.definitions.proofs.Accepted.{measuring_accepted}
use Rattle.definitions.proofs.Sets as sets
use Rattle.definitions.proofs.Masking as masking
use Rattle.definitions.proofs.Masked as masked
use Rattle.definitions.proofs.Explained as reasons
use Rattle.definitions.proofs.Written.{mark-written}
use Rattle.definitions.proofs.Own.{own_photo, own_reading, own_read}
use Rattle.definitions.proofs.Published.{photo_weighed}
use Rattle.definitions.proofs.Full.{full-before, full_from}
use Rattle.definitions.proofs.Margin.{margins_in, lowest-before, highest-before, lowest-from, highest-from}
use Rattle.distance.proofs.Cost.{cell_full}
use Rattle.polynomial.proofs.Record.{value-places, start-next, start-below, start-apart, placed}
use Rattle.polynomial.proofs.Known.{value-mark-is}
use Rattle.windows.proofs.Seasons as seasons
use Rattle.sets.proofs.Histories as histories
use Rattle.sets.proofs.Fresh as fresh
use Rattle.traymark.proofs.Answer.{write_keeps, write_fills, measure-refuses, measure-gives, read_keeps, read-gives}
use Rattle.traymark.proofs.Answer.{explain-keeps}

-- A plan is sound, all its bytes as in the table, exactly when checking it gives 0.
pub sound-exactly : (P : List ℕ) → Sound P ↔ (check_number P ≡ 0)
sound-exactly P = (checked P, sound P)

-- Checking gives the number of the first row of the table that the plan breaks, in the table's order, 13 between 3 and 4.
pub checked_exactly : (P : List ℕ) → CheckedExactly P
checked_exactly = plans.checked_exactly

-- A plan that is refused has its own number in every call, whatever else is wrong; strips look at the whole plan too.
pub plan-first : (P : List ℕ) → PlanFirst P
plan-first = accepted.plan-first

-- Under a sound plan writing gives 6 where a length is wrong, else 9 where a coefficient is p or more.
pub written-exactly : (C : Code) (P F B : List ℕ) → Sound P → WrittenExactly C P F B
written-exactly C P F B S = accepted.written-exactly C P (checked P S) F B

-- And measuring and reading give 6 where a length is wrong, else 7 where a symbol is, else 8 where a doubt is; then measuring 9
-- where a coefficient is p or more. When reading gives 10 is demand 3.
pub taken-exactly : (C : Code) (P s u F : List ℕ) → Sound P → TakenExactly C P s u F
taken-exactly C P s u F S = accepted.taken-exactly C P (checked P S) s u F

-- A strip is over the row points, with d + 1 coefficients. A mark has rows times columns cells and K coefficients.
pub shapes : (P : List ℕ) → Shapes P
shapes P = record {
  strip_cells = refl;
  strip_size = strip_size_lem P;
  mark_cells = refl;
  mark_size = mark_size_lem P ∙ omega arith;
}

-- Demand 1: a refused call gives its number and zeros, or an empty part, and leaves the buffer that was lent for its result as it
-- was.
pub demand_1 : RefusalsKeep
demand_1 = record {
  write = λ C P F B n. sym (write_keeps C P F B refl n);
  measure = λ C P s u F n. sym (measure-refuses C P s u F refl n);
  read = read_keeps;
  mask = λ W C P F s n. sym (masking.mask-keeps C P F s W refl n);
  explain = explain-keeps;
  find = finder.nowhere;
  widen = widening.widen-refused;
  season = windows.no-season;
  set_start = sets.start-keeps;
  set_add = sets.add-keeps;
  set_withdraw = sets.withdraw-keeps;
  set_combine = sets.combine-keeps;
  set_read = λ S B. read_keeps oblong (set_plan S) (combined_symbols S) (combined_doubts S) B;
}

-- Demand 3. For every sound plan and every photograph in buffers of the right lengths, whatever the points, symbols and doubts:
-- where a record costs under the limit, every other record of the plan costs the limit or more; the reading is the one under the
-- limit with its cost; it is refusal 10 exactly when no record costs under the limit.
pub demand_3 : (C : Code) (P s u B : List ℕ) → Photograph C P s u → length B ≡ size C P → Nearest C P s u B
demand_3 = nearest-one

-- Every record of a sound plan is written into a buffer of the right length.
pub writes : (C : Code) (P F B : List ℕ) → Writing C P F B → write_number C P F B ≡ 0
writes = accepted.writing_accepted

-- Demand 2, writing: for every plan, record and buffer that the writer accepts, each cell of the buffer afterwards has the value,
-- modulo p, of the record's polynomial at its row and column points; for a strip, at its row point.
pub demand_2_written : (C : Code) (P F B : List ℕ) → write_number C P F B ≡ 0 → Written C P F (write_buffer C P F B)
demand_2_written C P F B e = rw (← write_fills C P F B refl e) (mark-written C P F)

-- Demand 2, reading what was written: for every plan, record and buffer that the writer accepts, reading what it wrote with all
-- doubts 0 gives the same record at cost 0, with no cell changed or unread; so does measuring it.
pub demand_2 : (C : Code) (P F B B' : List ℕ) → write_number C P F B ≡ 0 → length B' ≡ size C P → RoundTrip C P F B B'
demand_2 C P F B B' e l =
    let w = accepted_writing C P F B e in
    let photo = own_photo P w.sound C F in
    let n = measuring_accepted C P (mark C P F) (sure (cells C P)) F photo w.given in
    let m = sym (measure-gives C P (mark C P F) (sure (cells C P)) F refl n) ∙ own_reading P w.sound C F in
    let t = own_read P w.sound C F B' w.given (demand_3 C P (mark C P F) (sure (cells C P)) B' photo l) in
    record {
      reading = rw (← write_fills C P F B refl e) t.0;
      buffer = rw (← write_fills C P F B refl e) t.1;
      measured = rw (← write_fills C P F B refl e) m;
    }

-- Demand 2, costs: what measuring and reading accept costs twice the full doubt times the published distance, and its margin is
-- the limit less the cost.
pub demand_2_cost : (C : Code) (P s u F : List ℕ) → measure_number C P s u F ≡ 0 →
    Weighed (full P) (2 * full P) C P s u F (measure_reading C P s u F)
demand_2_cost C P s u F e =
    rw (← measure-gives C P s u F refl e) (photo_weighed C P s u F (accepted_measuring C P s u F e).0)

pub demand_2_cost-read : (C : Code) (P s u B : List ℕ) → read_number C P s u B ≡ 0 →
    Weighed (full P) (2 * full P) C P s u (read_buffer C P s u B) (read_reading C P s u B)
demand_2_cost-read C P s u B e =
    rw (read-gives C P s u B e) (photo_weighed C P s u (read_buffer C P s u B) (accepted-reading C P s u B e))

-- Demands 2 and 3 for every sound plan, by the full doubt of its season: which doubts are refused with 8, what a cell costs, how
-- far the limits are; what is written is read back, what is measured and read costs twice the full doubt times the published
-- distance, and the reading is the one record under the limit, or 10.
pub in_scale : (P : List ℕ) → Sound P → InScale (full P) (2 * full P) P
in_scale P S = record {
  eight = λ C s u F. (taken-exactly C P s u F S).eight;
  taken = λ C s u F (a, (b, l)) f h. measuring_accepted C P s u F (photo a b f h);
  cost = λ C s u F. refl;
  unread = λ C s u F h c l e. rw ((h c l).1 e) (cell_full (full P) (at s c) (value C P F c));
  strip_limit = omega arith;
  mark_limit = omega arith;
  written = λ C F B B'. demand_2 C P F B B';
  measured = λ C s u F. demand_2_cost C P s u F;
  read = λ C s u B. demand_2_cost-read C P s u B;
  nearest = λ C s u B (a, (b, l)) f h. demand_3 C P s u B (photo a b f h) l;
}
  where
    photo : {C : Code} {s u : List ℕ} → length s ≡ cells C P → length u ≡ cells C P → SymbolsFit C P s →
        DoubtsFit (full P) C P s u → Photograph C P s u
    photo a b f h = record { sound = S; symbols = a; doubts = b; symbol = f; doubt = h }

-- The same in the customer's numbers. For seasons before 30 a doubt is 0 to 100, a wrong cell costs 200 less its doubt, the
-- limits have 100, and costs are 200 times the published distance.
pub before_30 : (P : List ℕ) → Sound P → season P < 30 → InScale 100 200 P
before_30 P S l = rw (full-before P l) at (in_scale P S)

-- For season 30 and later ones a doubt is 0 to 250, a wrong cell costs 500 less its doubt, the limits have 250, and costs are 500
-- times the published distance.
pub from_30 : (P : List ℕ) → Sound P → 30 ≤ season P → InScale 250 500 P
from_30 P S l = rw (full_from P l) at (in_scale P S)

-- Every margin of a mark is from -49,600 to 25,600 in seasons before 30, from -124,000 to 64,000 in later ones, and all four ends
-- are reached.
pub margins_before_30 : MarkMargins (λ y. y < 30) 49600 25600
margins_before_30 = margins_in (λ y. y < 30) 100 full-before lowest-before highest-before

pub margins_from_30 : MarkMargins (λ y. 30 ≤ y) 124000 64000
margins_from_30 = margins_in (λ y. 30 ≤ y) 250 full_from lowest-from highest-from

-- The number that a call gives is the first in the table's order of those that apply and concern the call, 13 standing between 3
-- and 4. In widening 11 comes before 6.
pub lowest-given : LowestGiven
unfolding check_number write_number measure_number read_number mask_number explain_number find_number widen_number
    add_number withdraw_number combine_number
    plan_rows photo_rows write_rows measure_rows read_rows mask_rows explain_rows find_rows widen_rows add_rows combine_rows index
lowest-given = record {
  check = λ P. first_earliest table (plan_rows P) tt refl;
  write = λ C P F B. first_earliest table (write_rows C P F B) tt refl;
  measure = λ C P s u F. first_earliest table (measure_rows C P s u F) tt refl;
  read = λ C P s u B. first_earliest table (read_rows C P s u B) tt refl;
  mask = λ C P F s. first_earliest table (mask_rows C P F s) tt refl;
  explain = λ C P s u F B. first_earliest table (explain_rows C P s u F B) tt refl;
  find = λ file y. first_earliest table (find_rows file y) tt refl;
  widen = λ old wide. first_earliest (11 ∷ 6 ∷ []) (widen_rows old wide) tt refl;
  season = windows.season_earliest;
  set_add = λ S k s u. first_earliest table (add_rows S k s u) tt refl;
  set_withdraw = λ S k. first_earliest table (withdraw_rows S k) tt refl;
  set_combine = λ S B D. first_earliest table (combine_rows S B D) tt refl;
}

-- Measuring never gives 10: a record of the plan is measured against every photograph, a margin of 0 or below returned as such.
pub measures : (C : Code) (P s u F : List ℕ) → Measures C P s u F
unfolding measure_number measure_rows photo_rows plan_rows reading_of
measures C P s u F = record {
  never = first_absent 10 (measure_rows C P s u F) (λ e. omega arith) refl;
  each = measuring_accepted C P s u F;
  cost = λ z. ap (λ r. r.cost) (sym (measure-gives C P s u F refl z));
}

-- Explaining is accepted for every photograph and every record of its plan, with room for another.
pub explains : (C : Code) (P s u F B : List ℕ) → Expecting C P s u F B → explain_number C P s u F B ≡ 0
explains = accepted.explaining_accepted

-- Under a sound plan it gives 6 where any of its four buffers has not its length, else what measuring the expected record gives:
-- 7, 8 and 9 by `taken-exactly`.
pub explains_exactly : (C : Code) (P s u F B : List ℕ) → Sound P → ExplainsExactly C P s u F B
explains_exactly C P s u F B S = accepted.explains_exactly C P s u F B (checked P S)

-- The reason given is the true one. Of every accepted call exactly one of the three is told: 1 exactly when the expected record
-- costs under the limit; 2 exactly when some other record does, and then the buffer holds that one, and its mark and the expected
-- one's are equal before the place and differ at it; 3 exactly when no record does, and then the excess is what the expected
-- record costs beyond the limit.
pub explained : (C : Code) (P s u F B : List ℕ) → explain_number C P s u F B ≡ 0 →
    Explained C P s u F B (values_of (explain_reason C P s u F B)) (explain_buffer C P s u F B)
explained C P s u F B e = reasons.explained C P s u F B (accepted_explaining C P s u F B e)

-- C is handed the number of a refusal with zeros, or the reason 1, 2 or 3 with its place or excess and else zeros.
pub handed : Handed
handed = record { refused = λ k. refl; answer = refl; other = λ c. refl; nothing = λ e. refl }

-- The finder gives 11 where the length of the file is no multiple of 40, else 0 where some plan of the file has the season, sound
-- or not, else 12.
pub found-exactly : (file : List ℕ) (season : ℕ) → FoundExactly file season
found-exactly = finder.find-exactly

-- Where it gives 0, what it hands back, as a part or as an offset, is a whole plan of the file, it has the season, and no plan
-- before it in the file has.
pub first_found : (file : List ℕ) (season : ℕ) → find_number file season ≡ 0 → FirstOfSeason file season
first_found = finder.first_of-season

-- The season of a date is decided by the window file and the date alone: 14 where the file is not readable, else 15 where two
-- windows share a day, else 16 where the date is unreal or in no window, else 0 and the season of a window that has the day.
pub season-exactly : (file : List ℕ) (t : Date) → SeasonExactly file t
season-exactly = seasons.season-exactly

-- Where 14 and 15 don't apply and the date is real and in a window, exactly one window has it, and its season is returned.
pub one-window : (file : List ℕ) (t : Date) → season_number file t ≢ 14 → season_number file t ≢ 15 → real t ≡ true →
    (k : ℕ) (W : List ℕ) → Window file k W → HasDay W t → OneWindow file t
one-window = seasons.one-window

-- And wherever a season is returned, the date is real, and the season is that of the one window that has it.
pub season-given : (file : List ℕ) (t : Date) → season_number file t ≡ 0 → (real t ≡ true) × OneWindow file t
season-given = seasons.season-given

-- Two windows without fault meet by their end days exactly when some real day lies in both.
pub shared_exactly : (W W' : List ℕ) → IsWindow W → IsWindow W' → (meet W W' ≡ true) ↔ SharedDay W W'
shared_exactly = seasons.shared_exactly

-- `trayseason` takes an argument in the form of a date for the numbers that it shows.
pub date-taken : DateTaken
date-taken = dates.date-taken

-- It prints the season, or REFUSED and the number of the call, and nothing where its argument has not that form.
pub season_printed : (w input : List ℕ) → SeasonPrinted w input
season_printed = dates.season_printed

-- The calendar: a date is real exactly when its year is 1900 to 2199, its month 1 to 12, and its day one of the month's.
pub real-exactly : (t : Date) → (real t ≡ true) ↔ IsReal t
real-exactly = calendar.real-exactly

-- A year from 1900 to 2199 has 366 real dates where 4 divides it, if 400 does where 100 does, and else 365.
pub year_days : (y : ℕ) → 1900 ≤ y → y ≤ 2199 → YearDays y
year_days = calendar.year_days

-- Of two real dates that differ just one is the earlier, and none is before 1 January 1900 or after 31 December 2199.
pub dates_in_order : InOrder
dates_in_order = calendar.in_order

-- Every real date but the last has a next one: it is later, and no real date lies between.
pub next-day : (t : Date) → real t ≡ true → t ≢ last_date → IsNext t (following t)
next-day = calendar.next-day

-- Request 9. For every sound plan and every photograph s, u in buffers of the right lengths, whatever the points, symbols and
-- doubts, and every record Q: if the mark of Q is added modulo p to all read cells, doubts and unread cells unchanged, which
-- gives s', the reading is the former record plus Q, coefficient by coefficient modulo p, with the same cost, margin, changed and
-- unread count and class; 10 stays 10; and no other number can arise.
pub masked_reads : (C : Code) (P Q s s' u B B' : List ℕ) → Photograph C P s u → IsRecord C P Q → Added C P Q s s' →
    length B ≡ size C P → length B' ≡ size C P → MaskedReads C P Q s s' u B B'
masked_reads C P Q s s' u B B' photo given added = masked.masked_reads photo.sound C photo given added B B'

-- So the station unmasks the symbols t of a photograph and reads them: the record is that of t less Q, with the same cost,
-- margin, changed and unread count and class; and it is 10 exactly when reading t is.
pub unmasked_reads : (C : Code) (P Q t u B B' : List ℕ) → Photograph C P t u → IsRecord C P Q → length B ≡ size C P →
    length B' ≡ size C P → MaskedReads C P Q (mask_buffer off C P Q t) t u B B'
unmasked_reads = masked.unmasked_reads

-- Under a sound plan masking and unmasking give 6 where a length is wrong, else 7 where a symbol is, else 9 where Q is no record,
-- else 0.
pub masks_exactly : (C : Code) (P Q s : List ℕ) → Sound P → MaskExactly C P Q s
masks_exactly C P Q s S = accepted.masks_exactly C P Q s (checked P S)

-- An accepted masking leaves the symbols with the mark of Q added, and an accepted unmasking those to which it has to be added
-- for the symbols that were there.
pub masked-cells : (C : Code) (P Q s : List ℕ) → mask_number C P Q s ≡ 0 → Masked C P Q s
masked-cells = masked.masked-cells

-- Unmasking what was masked gives the bytes back, and so does masking what was unmasked, whatever the bytes are.
pub mask_undone : (C : Code) (P Q s : List ℕ) → Undone C P Q s
mask_undone = masking.mask_undone

-- The mark of F with the mark of Q put on it is the mark of F plus Q.
pub masked-mark : (C : Code) (P F Q : List ℕ) → Sound P → IsRecord C P Q →
    mask_buffer on C P Q (mark C P F) ≡ mark C P (plus C P F Q)
masked-mark C P F Q S = masked.masked-mark S C F Q

-- Request 8. After a start from a sound plan, on any bytes, and any calls since, whatever their arguments, the set holds the
-- photographs that arrived by accepted calls and were not withdrawn by such since, or since a later accepted start: its memory is
-- that of what it holds, byte by byte, so nothing else is kept.
pub set-memory : (P S : List ℕ) → Sound P → (h : List Call) →
    Holds (kept h (start_memory P S) (empty P)) (run h (start_memory P S))
set-memory = histories.holds-from

-- So over any history of calls from a start, after each arrival and withdrawal, the combination is the one made afresh from the
-- photographs held then.
pub set_fresh : (P S : List ℕ) → Sound P → (h : List Call) →
    (combined_symbols (run h (start_memory P S)) ≡ fresh_symbols (kept h (start_memory P S) (empty P)))
    × (combined_doubts (run h (start_memory P S)) ≡ fresh_doubts (kept h (start_memory P S) (empty P)))
set_fresh P S sound h = let holds = set-memory P S sound h in (fresh.fresh_symbols_lem holds, fresh.fresh_doubts_lem holds)

-- Of a set S that holds H, that combination is a photograph of the plan, so that refusals 1 to 8 never meet it.
pub set_photograph : {H : Holding} {S : List ℕ} → Holds H S → Photograph oblong H.plan (fresh_symbols H) (fresh_doubts H)
set_photograph = fresh.fresh_photograph

-- Each of its cells has the symbol with most votes, the smallest where several tie, and the doubt that the document gives it, by
-- the full doubt of the season; it is unread at the full doubt where no photograph held has read it.
pub combined-cell : (H : Holding) (c : ℕ) → c < cells oblong H.plan →
    Majority (full H.plan) (shown H c) 9 (at (fresh_symbols H) c) (at (fresh_doubts H) c)
combined-cell = fresh.fresh_cell

-- With none held all cells are unread, at the full doubt.
pub set_starts_unread : (P : List ℕ) → StartsUnread P
set_starts_unread = fresh.starts_unread

-- Adding gives 6 where a length is wrong, else 17 where the number is above 8 or held, else 7 where a symbol is wrong, else 8
-- where a doubt is, in the season's scale, else 0; of accepted doubts none is used.
pub set_adds_exactly : {H : Holding} {S : List ℕ} → Holds H S → (k : ℕ) (s u : List ℕ) → AddsExactly H S k s u
set_adds_exactly = histories.adds_exactly

-- Withdrawing gives 18 where the number is not held, so for every number above 8, else 0; the number can be used again.
pub set_withdraws_exactly : {H : Holding} {S : List ℕ} → Holds H S → (k : ℕ) → WithdrawsExactly H S k
set_withdraws_exactly = histories.withdraws_exactly

-- Combining gives 6 where a buffer has not its length, else 0, and the buffers then have the combination made afresh.
pub set_combines : {H : Holding} {S : List ℕ} → Holds H S → (B D : List ℕ) → Combines H S B D
set_combines = fresh.combines

-- Reading reads the combination made afresh, and demand 3 holds of that reading; its number is 6, 10 or 0.
pub set_reads : {H : Holding} {S : List ℕ} → Holds H S → (B : List ℕ) → SetReads H S B
set_reads = fresh.set_reads

-- The groups of degrees 0 to d fill the K = (d + 1)(d + 2)/2 places of a record one after another, with no gap and no overlap.
pub groups_fill : (d : ℕ) → GroupsFill d
groups_fill d = record {
  first = refl;
  next = λ k. omega (arith, start-next k);
  within = λ k j h l. rw (← length-is) (start-below k (d + 1) j (omega arith) h);
  covered = λ m l.
      let h : m < start (suc d) = rw (← length-is, add-one d) at l in
      let (i, t, s, e) = placed d m h in
      (i + t, t, omega arith, s, e);
  apart = start-apart;
  holds = λ p F z. value-mark-is p d F z ∙ value-places p d F (z 0) (z 1);
}
  where
    length-is : start (d + 1) ≡ places d
    length-is = omega arith

-- `trayread` takes a plan, the symbols of its mark and what follows for what they are.
pub tray_parts : (P s u : List ℕ) → length P ≡ plan_bytes → length s ≡ rows P * columns P → TrayParts P s u
tray_parts = tray.tray_parts

-- It prints 1 for fewer than 40 bytes, an unsound plan's own number whatever follows, and 6 for another count of bytes after a
-- sound plan.
pub tray_refused : (input : List ℕ) → TrayRefused input
tray_refused = tray.tray_refused

-- `traywhy` takes a plan, as many coefficients as its record has, the symbols of its mark and what follows for what they are.
pub why_parts : (P F s u : List ℕ) → length P ≡ plan_bytes → length F ≡ places (degree P) → length s ≡ rows P * columns P →
    WhyParts P F s u
why_parts P F s u e f = why.why_parts P F s u e (f ∙ sym (shapes P).mark_size)

-- It refuses as `trayread` does, with the record's coefficients in the count of bytes.
pub why_refused : (input : List ℕ) → WhyRefused input
why_refused = why.why_refused

-- `planwiden` prints REFUSED 11 for more than 1,000 plans or a broken one, else the plans.
pub prints_exactly : (input : List ℕ) → PrintsExactly input
prints_exactly = widening.prints_exactly

-- Widening gives 11 for more than 1,000 plans or a broken one, else 6 where the buffer has not 40 bytes for each plan, else 0,
-- and then the plans are in the buffer.
pub widens_exactly : (old wide : List ℕ) → WidensExactly old wide
widens_exactly = widening.widens_exactly

-- A plan of 24 bytes, whatever they are, becomes a plan of the same season, modulus and degree, with its points each way. Where
-- it was sound it stays sound; where it was not it keeps its number, but that its bytes 21 to 23 no longer count.
pub widened-keeps : (Q : List ℕ) → length Q ≡ narrow_bytes → Widened Q
widened-keeps = widening.widened-plan

-- All plans of a file are widened in order.
pub widened_in_order : (old : List ℕ) → WidenedInOrder old
widened_in_order = widening.widened_in_order
