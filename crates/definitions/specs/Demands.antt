-- The customer's demands, and what documents 01 and 02 say of every answer and record, as statements over the definitions. The
-- crate `traymark` proves them.
--
--   RefusalsKeep            demand 1: a refused call gives its number and zeros or an empty part, and leaves the buffer lent for
--                           its result, or the memory lent for a set
--   CheckedExactly P        which number checking gives: that of the first row of the table that the plan P breaks; `Whole` is
--                           its length and its last two bytes, `IsModulus` says which p may be
--   PlanFirst P             a plan that is refused has its own number in every call, for strips and marks, whatever else is wrong
--   WrittenExactly C P F B  under a sound plan writing gives 6 where a length is wrong, else 9 where F is no record of the plan
--   TakenExactly C P s u F  under a sound plan measuring and reading give 6 where a length is wrong, else 7 where a symbol is
--                           (`SymbolsFit`), else 8 where a doubt is (`DoubtsFit`); else measuring gives 9 where F is no record
--   Shapes P                a strip has a cell for each row point and d + 1 coefficients, a mark rows times columns cells and
--                           K = (d + 1)(d + 2)/2 coefficients
--   Written C P F b         demand 2: in b each cell has the value, modulo p, of the polynomial of F at its row and column
--                           points, or of a strip at its row point
--   RoundTrip C P F B B'    demand 2: reading what was written of F into B, with all doubts 0, gives F into B' at cost 0, with
--                           the whole limit as the margin; so does measuring
--   Weighed f k C P s u F r demand 2: the reading r of the record F has as its cost k times the published distance, a doubt over
--                           f being an uncertainty, and as its margin the limit less the cost
--   Nearest C P s u B       demand 3: at most one record of the plan costs under the limit, the reading is that one with its
--                           cost, and it is 10 exactly when there is none. The limit is the radius
--   InScale f k P           refusal 8 and demands 2 and 3 under the plan P, in the numbers of its season: f is the full doubt,
--                           and k what a wrong cell costs that is in no doubt. Costs and limits are spelled out
--   MarkMargins Y low high  under plans of the seasons Y a mark's margin is from -low to high, and both ends are reached
--   LowestGiven             the number that is given is the first in the table's order of the rows of the call whose test holds;
--                           in widening 11 stands before 6: the plans are looked at before the buffer for them. What the tests
--                           of the rows mean is in the statements that end in Exactly
--   Measures C P s u F      measuring never gives 10: every record of a photograph's plan is measured, whatever its margin, and
--                           the cost it is given is its cost
--   ExplainsExactly C P s u F B
--                           under a sound plan explaining gives 6 where any of its four buffers has not its length, else the
--                           number of measuring the expected record F
--   Handed                  what C is handed of each case of the enum: a refusal's number with zeros, or the reason 1, 2 or 3
--                           with its place or excess
--   Explained C P s u F B told b
--                           request 5: of a photograph and an expected record F, with B lent, one of three reasons is told, and b
--                           is then in the buffer. It is 1 exactly when F costs under the limit; 2 exactly when some other
--                           record does, and then b is that one, its mark and that of F being equal before the place and
--                           differing at it (`Shown`); 3 exactly when no record does, and then the excess is what F costs
--                           beyond the limit. What a case does not give is 0, and only with 2 is the buffer written
--   FoundExactly file y     the finder gives 11 where the file's length is no multiple of 40, else 0 where some plan of the file
--                           has the season y, else 12
--   FirstOfSeason file y    what it finds is a whole plan of the file, with the season y, and no plan before it has that season
--   GroupsFill d            the groups of degrees 0 to d fill the K = (d + 1)(d + 2)/2 places of a record one after another,
--                           with no gap and no overlap
--   TrayParts P s u         what `trayread` takes for plan, symbols and doubts of the input P, s, u, a plan and as many symbols
--                           as its mark has cells
--   TrayRefused input       `trayread` prints 1 for fewer than 40 bytes, else an unsound plan's own number, whatever follows,
--                           else 6 for another count of bytes than 40 and two for each cell
--   WhyParts P F s u        what `traywhy` takes for plan, expected record, symbols and doubts of the input P, F, s, u, a plan,
--                           as many coefficients as its record has, and as many symbols as its mark has cells
--   WhyRefused input        `traywhy` prints 1 for fewer than 40 bytes, else an unsound plan's own number, whatever follows, else
--                           6 for another count of bytes than 40, K, and two for each cell
--   WidensExactly old wide  widening gives 11 where the bytes old are more than 1,000 plans or no whole number of them, else 6
--                           where the buffer has not 40 bytes for each, else 0, with the plans in the buffer
--   PrintsExactly input     `planwiden` prints REFUSED 11 in just these cases, else the plans
--   Widened Q               the plan Q of 24 bytes, widened, has its season, modulus and degree, and its points each way; its
--                           check gives what document 01's check gave Q with bytes 21 to 23 put to 0
--   WidenedInOrder old      plan k of all that are widened is plan k of the bytes old, widened
--
-- Signed numbers are those of std: pos n is n, neg_ℤ (pos n) is -n, ≤ℤ their order.
-- What this file is for: the sentences that a user relies on, each as one statement whose parts are named.
use Rattle.std.specs.Prelude.{◌≡◌, true, false, cond, List, [], ◌∷◌, ◌++◌, ◌≢◌, ◌↔◌, ◌⊎◌, eqb, length, take, drop}
use Rattle.std.specs.Prelude.{ℕ, ◌+◌, ◌*◌, ◌-◌, ◌/◌, ◌%◌, ◌^◌, ◌≤◌, ◌<◌, min, max, ℤ, pos, neg_ℤ, ◌-ℤ◌, ◌≤ℤ◌}
use Rattle.bounded.specs.Bounded.{at, sum}
use Rattle.field.specs.Prime.{Prime}
use Rattle.calendar.specs.declared.Date.{Date}
use Rattle.definitions.specs.Sound.{IsSide, PointsFrom}
use Rattle.definitions.specs.declared.Reading.{Reading}
use Rattle.definitions.specs.declared.Reason.TheVariants.{Refused, Answer, Other, Nothing}
use Rattle.definitions.specs.declared.Explanation.{Explanation}
use Rattle.definitions.specs.Refusals.{table, Earliest}
use Rattle.definitions.specs.Plan.{plan_bytes, season, modulus, rows, columns, degree, row_point, column_point}
use Rattle.definitions.specs.Plan.{filled, plan_rows, check_number}
use Rattle.definitions.specs.Code.{Code, strip, oblong, size, cells, value, mark, IsRecord}
use Rattle.polynomial.specs.Layout.{value as value_at}
use Rattle.polynomial.specs.Record.{start, value_x, value_xy}
use Rattle.definitions.specs.Cost.{full, radius}
use Rattle.definitions.specs.Published.{Fraction, ◌over◌, FromZeroToOne, ◌is◌times◌, distance, weighted}
use Rattle.definitions.specs.Calls as calls
use Rattle.definitions.specs.Calls.{cost_of, reading_of, write_rows, write_number, write_buffer}
use Rattle.definitions.specs.Calls.{measure_rows, measure_number, measure_reading}
use Rattle.definitions.specs.Calls.{read_rows, read_number, read_reading, read_buffer}
use Rattle.definitions.specs.Masking.{Way, mask_rows, mask_number, mask_buffer}
use Rattle.definitions.specs.Sets.{set_plan, start_memory, add_rows, add_number, add_memory}
use Rattle.definitions.specs.Sets.{withdraw_rows, withdraw_number, withdraw_memory}
use Rattle.definitions.specs.Sets.{combine_rows, combine_number, combine_symbols, combine_doubts}
use Rattle.definitions.specs.Sets.{set_number, set_reading, set_record}
use Rattle.definitions.specs.Explaining.{explain_rows, explain_number, explain_reason, explain_buffer, values_of}
use Rattle.definitions.specs.Finder.{find_rows, find_number, find_offset, find_bytes}
use Rattle.definitions.specs.Photograph.{SymbolsFit, DoubtsFit, Photograph, sure}
use Rattle.definitions.specs.Widening.{widened, widened_all, widen_rows, widen_number, widen_buffer}
use Rattle.definitions.specs.Widening.{widen_text, narrow_number, cleared}
use Rattle.definitions.specs.Windows.{season_rows, season_number, season_found}
use Rattle.definitions.specs.Tray.{plan_of, symbols_of, doubts_of}
use Rattle.definitions.specs.Why.{expected_of, shown_symbols, shown_doubts}
use Rattle.definitions.specs.Printed.{refused_line, tray_text, why_text}

pub record RefusalsKeep : Type 0 where
  pub write : (C : Code) (P F B : List ℕ) → write_number C P F B ≢ 0 → write_buffer C P F B ≡ B
  pub measure : (C : Code) (P s u F : List ℕ) → measure_number C P s u F ≢ 0 →
      measure_reading C P s u F ≡ calls.refused (measure_number C P s u F)
  pub read : (C : Code) (P s u B : List ℕ) → read_number C P s u B ≢ 0 →
      (read_reading C P s u B ≡ calls.refused (read_number C P s u B)) × (read_buffer C P s u B ≡ B)
  pub mask : (W : Way) (C : Code) (P F s : List ℕ) → mask_number C P F s ≢ 0 → mask_buffer W C P F s ≡ s
  pub explain : (C : Code) (P s u F B : List ℕ) → explain_number C P s u F B ≢ 0 →
      (explain_reason C P s u F B ≡ Refused (explain_number C P s u F B)) × (explain_buffer C P s u F B ≡ B)
  pub find : (file : List ℕ) (y : ℕ) → find_number file y ≢ 0 → (find_offset file y ≡ 0) × (find_bytes file y ≡ [])
  pub widen : (old wide : List ℕ) → widen_number old wide ≢ 0 → widen_buffer old wide ≡ wide
  pub season : (file : List ℕ) (t : Date) → season_number file t ≢ 0 → season_found file t ≡ 0
  -- of sets no byte of the memory is changed, whatever the bytes are
  pub set_start : (P S : List ℕ) → check_number P ≢ 0 → start_memory P S ≡ S
  pub set_add : (S : List ℕ) (k : ℕ) (s u : List ℕ) → add_number S k s u ≢ 0 → add_memory S k s u ≡ S
  pub set_withdraw : (S : List ℕ) (k : ℕ) → withdraw_number S k ≢ 0 → withdraw_memory S k ≡ S
  pub set_combine : (S B D : List ℕ) → combine_number S B D ≢ 0 → (combine_symbols S B D ≡ B) × (combine_doubts S B D ≡ D)
  pub set_read : (S B : List ℕ) → set_number S B ≢ 0 → (set_reading S B ≡ calls.refused (set_number S B)) × (set_record S B ≡ B)

abbrev pub Whole : List ℕ → Type 0
Whole P = (length P ≡ 40) × ((at P 38 ≡ 0) × (at P 39 ≡ 0))

abbrev pub IsModulus : ℕ → Type 0
IsModulus p = Prime p × (p ≤ 251)

-- each where no row before it is broken
pub record CheckedExactly (P : List ℕ) : Type 0 where
  pub one : ¬ (Whole P) → check_number P ≡ 1
  pub two : Whole P → ¬ (IsModulus (modulus P)) → check_number P ≡ 2
  pub three : Whole P → IsModulus (modulus P) → ¬ (IsSide (modulus P) (rows P)) → check_number P ≡ 3
  pub thirteen : Whole P → IsModulus (modulus P) → IsSide (modulus P) (rows P) → ¬ (IsSide (modulus P) (columns P)) →
      check_number P ≡ 13
  pub four : Whole P → IsModulus (modulus P) → IsSide (modulus P) (rows P) → IsSide (modulus P) (columns P) →
      min (rows P) (columns P) ≤ degree P → check_number P ≡ 4
  pub five : Whole P → IsModulus (modulus P) → IsSide (modulus P) (rows P) → IsSide (modulus P) (columns P) →
      degree P < min (rows P) (columns P) → ¬ (PointsFrom P 6 (rows P) × PointsFrom P 22 (columns P)) → check_number P ≡ 5

pub record PlanFirst (P : List ℕ) : Type 0 where
  pub write : (C : Code) (F B : List ℕ) → check_number P ≢ 0 → write_number C P F B ≡ check_number P
  pub measure : (C : Code) (s u F : List ℕ) → check_number P ≢ 0 → measure_number C P s u F ≡ check_number P
  pub read : (C : Code) (s u B : List ℕ) → check_number P ≢ 0 → read_number C P s u B ≡ check_number P
  pub mask : (C : Code) (F s : List ℕ) → check_number P ≢ 0 → mask_number C P F s ≡ check_number P
  pub explain : (C : Code) (s u F B : List ℕ) → check_number P ≢ 0 → explain_number C P s u F B ≡ check_number P
  -- so where it is the plan in the memory of a set
  pub set_add : (S : List ℕ) (k : ℕ) (s u : List ℕ) → set_plan S ≡ P → check_number P ≢ 0 → add_number S k s u ≡ check_number P
  pub set_combine : (S B D : List ℕ) → set_plan S ≡ P → check_number P ≢ 0 → combine_number S B D ≡ check_number P
  pub set_read : (S B : List ℕ) → set_plan S ≡ P → check_number P ≢ 0 → set_number S B ≡ check_number P

abbrev pub LengthsFit : Code → (P s u F : List ℕ) → Type 0
LengthsFit C P s u F = (length s ≡ cells C P) × ((length u ≡ cells C P) × (length F ≡ size C P))

-- under a sound plan; each where no row before it is broken
pub record WrittenExactly (C : Code) (P F B : List ℕ) : Type 0 where
  pub six : ¬ ((length F ≡ size C P) × (length B ≡ cells C P)) → write_number C P F B ≡ 6
  pub nine : length F ≡ size C P → length B ≡ cells C P → ¬ (IsRecord C P F) → write_number C P F B ≡ 9

pub record TakenExactly (C : Code) (P s u F : List ℕ) : Type 0 where
  pub six : ¬ (LengthsFit C P s u F) → (measure_number C P s u F ≡ 6) × (read_number C P s u F ≡ 6)
  pub seven : LengthsFit C P s u F → ¬ (SymbolsFit C P s) → (measure_number C P s u F ≡ 7) × (read_number C P s u F ≡ 7)
  pub eight : LengthsFit C P s u F → SymbolsFit C P s → ¬ (DoubtsFit (full P) C P s u) →
      (measure_number C P s u F ≡ 8) × (read_number C P s u F ≡ 8)
  pub nine : Photograph C P s u → length F ≡ size C P → ¬ (IsRecord C P F) → measure_number C P s u F ≡ 9

-- K, the number of a record's places
abbrev pub places : ℕ → ℕ
places d = (d + 1) * (d + 2) / 2

pub record Shapes (P : List ℕ) : Type 0 where
  pub strip_cells : cells strip P ≡ rows P
  pub strip_size : size strip P ≡ degree P + 1
  pub mark_cells : cells oblong P ≡ rows P * columns P
  pub mark_size : size oblong P ≡ places (degree P)

abbrev pub Written : Code → (P F b : List ℕ) → Type 0
Written strip P F b = (length b ≡ rows P) × ((i : ℕ) → i < rows P → at b i ≡ value_x (modulus P) (degree P) F (row_point P i))
Written oblong P F b = (length b ≡ rows P * columns P) × ((i j : ℕ) → i < rows P → j < columns P →
    at b (i * columns P + j) ≡ value_xy (modulus P) (degree P) F (row_point P i) (column_point P j))

-- what is said of a record whose mark was read as it was written
abbrev pub clean : Code → List ℕ → Reading
clean C P = record { number = 0; cost = 0; margin = pos (radius C P); changed = 0; unread = 0; class = 0 }

pub record RoundTrip (C : Code) (P F B B' : List ℕ) : Type 0 where
  pub reading : read_reading C P (write_buffer C P F B) (sure (cells C P)) B' ≡ clean C P
  pub buffer : read_buffer C P (write_buffer C P F B) (sure (cells C P)) B' ≡ F
  pub measured : measure_reading C P (write_buffer C P F B) (sure (cells C P)) F ≡ clean C P

-- the published distance of a photograph from the mark of the record F
abbrev pub published : (f : ℕ) → Code → (P s u F : List ℕ) → Fraction
published f C P s u F = distance (cells C P) (weighted f (at s) (at u)) (value C P F)

pub record Weighed (f k : ℕ) (C : Code) (P s u F : List ℕ) (r : Reading) : Type 0 where
  -- each doubt over f is from 0 to 1, as the published distance asks of an uncertainty
  pub uncertain : (c : ℕ) → c < cells C P → FromZeroToOne (at u c over f)
  pub cost : r.cost is k times published f C P s u F
  pub margin : r.margin ≡ pos (radius C P) -ℤ pos r.cost

pub record Nearest (C : Code) (P s u B : List ℕ) : Type 0 where
  -- where a record costs under the limit, every other record of the plan costs the limit or more
  pub alone : (F G : List ℕ) → IsRecord C P F → IsRecord C P G → F ≢ G →
      cost_of C P s u F < radius C P → radius C P ≤ cost_of C P s u G
  -- the reader returns the one under the limit, with its cost
  pub returned : (F : List ℕ) → IsRecord C P F → cost_of C P s u F < radius C P →
      (read_reading C P s u B ≡ reading_of C P s u F) × (read_buffer C P s u B ≡ F)
  -- it refuses with 10 exactly when no record costs under the limit
  pub exactly : (read_number C P s u B ≡ 10) ↔ ((F : List ℕ) → IsRecord C P F → radius C P ≤ cost_of C P s u F)
  -- and then the lent buffer is as it was
  pub refuses : ((F : List ℕ) → IsRecord C P F → radius C P ≤ cost_of C P s u F) →
      (read_reading C P s u B ≡ calls.refused 10) × (read_buffer C P s u B ≡ B)

-- what a cell with the symbol s and the doubt u costs a record with the value v, in the customer's words
abbrev pub cell_cost : (k s u v : ℕ) → ℕ
cell_cost k s u v = cond (eqb s v) u (k - u)

pub record InScale (f k : ℕ) (P : List ℕ) : Type 0 where
  -- a doubt is 0 to f, and exactly f where the cell is unread; else the number is 8
  pub eight : (C : Code) (s u F : List ℕ) → LengthsFit C P s u F → SymbolsFit C P s → ¬ (DoubtsFit f C P s u) →
      (measure_number C P s u F ≡ 8) × (read_number C P s u F ≡ 8)
  -- and where they fit, every record of the plan is measured
  pub taken : (C : Code) (s u F : List ℕ) → LengthsFit C P s u F → SymbolsFit C P s → DoubtsFit f C P s u → IsRecord C P F →
      measure_number C P s u F ≡ 0
  -- a cell costs its doubt where its symbol is the record's value, else k less its doubt; and an unread one f
  pub cost : (C : Code) (s u F : List ℕ) → cost_of C P s u F ≡ sum (cells C P) λ c. cell_cost k (at s c) (at u c) (value C P F c)
  pub unread : (C : Code) (s u F : List ℕ) → DoubtsFit f C P s u → (c : ℕ) → c < cells C P → at s c ≡ 255 →
      cell_cost k (at s c) (at u c) (value C P F c) ≡ f
  -- the limits
  pub strip_limit : radius strip P ≡ f * (rows P - degree P)
  pub mark_limit : radius oblong P ≡ f * (max (rows P) (columns P) * (min (rows P) (columns P) - degree P))
  -- demand 2: a mark that was written is read back; costs are k times the published distance
  pub written : (C : Code) (F B B' : List ℕ) → write_number C P F B ≡ 0 → length B' ≡ size C P → RoundTrip C P F B B'
  pub measured : (C : Code) (s u F : List ℕ) → measure_number C P s u F ≡ 0 → Weighed f k C P s u F (measure_reading C P s u F)
  pub read : (C : Code) (s u B : List ℕ) → read_number C P s u B ≡ 0 →
      Weighed f k C P s u (read_buffer C P s u B) (read_reading C P s u B)
  -- demand 3, for every photograph in buffers of the right lengths
  pub nearest : (C : Code) (s u B : List ℕ) → LengthsFit C P s u B → SymbolsFit C P s → DoubtsFit f C P s u → Nearest C P s u B

abbrev pub InRange : (low high : ℕ) → ℤ → Type 0
InRange low high z = (neg_ℤ (pos low) ≤ℤ z) × (z ≤ℤ pos high)

-- some record, measured against some mark under a plan of the seasons Y, has the margin z
pub record Reached (Y : ℕ → Type 0) (z : ℤ) : Type 0 where
  pub P : List ℕ
  pub in_seasons : Y (season P)
  pub s : List ℕ
  pub u : List ℕ
  pub F : List ℕ
  pub accepted : measure_number oblong P s u F ≡ 0
  pub margin : (measure_reading oblong P s u F).margin ≡ z

pub record MarkMargins (Y : ℕ → Type 0) (low high : ℕ) : Type 0 where
  pub measured : (P s u F : List ℕ) → Y (season P) → InRange low high (measure_reading oblong P s u F).margin
  pub read : (P s u B : List ℕ) → Y (season P) → InRange low high (read_reading oblong P s u B).margin
  pub lowest : Reached Y (neg_ℤ (pos low))
  pub highest : Reached Y (pos high)

pub record LowestGiven : Type 0 where
  pub check : (P : List ℕ) → Earliest table (plan_rows P) (check_number P)
  pub write : (C : Code) (P F B : List ℕ) → Earliest table (write_rows C P F B) (write_number C P F B)
  pub measure : (C : Code) (P s u F : List ℕ) → Earliest table (measure_rows C P s u F) (measure_number C P s u F)
  pub read : (C : Code) (P s u B : List ℕ) → Earliest table (read_rows C P s u B) (read_number C P s u B)
  pub mask : (C : Code) (P F s : List ℕ) → Earliest table (mask_rows C P F s) (mask_number C P F s)
  pub explain : (C : Code) (P s u F B : List ℕ) → Earliest table (explain_rows C P s u F B) (explain_number C P s u F B)
  pub find : (file : List ℕ) (season : ℕ) → Earliest table (find_rows file season) (find_number file season)
  pub widen : (old wide : List ℕ) → Earliest (11 ∷ 6 ∷ []) (widen_rows old wide) (widen_number old wide)
  pub season : (file : List ℕ) (t : Date) → Earliest table (season_rows file t) (season_number file t)
  pub set_add : (S : List ℕ) (k : ℕ) (s u : List ℕ) → Earliest table (add_rows S k s u) (add_number S k s u)
  pub set_withdraw : (S : List ℕ) (k : ℕ) → Earliest table (withdraw_rows S k) (withdraw_number S k)
  pub set_combine : (S B D : List ℕ) → Earliest table (combine_rows S B D) (combine_number S B D)

pub record Measures (C : Code) (P s u F : List ℕ) : Type 0 where
  pub never : measure_number C P s u F ≢ 10
  pub each : Photograph C P s u → IsRecord C P F → measure_number C P s u F ≡ 0
  pub cost : measure_number C P s u F ≡ 0 → (measure_reading C P s u F).cost ≡ cost_of C P s u F

pub record ExplainsExactly (C : Code) (P s u F B : List ℕ) : Type 0 where
  pub six : ¬ (LengthsFit C P s u F × (length B ≡ size C P)) → explain_number C P s u F B ≡ 6
  pub measured : length B ≡ size C P → explain_number C P s u F B ≡ measure_number C P s u F

pub record Handed : Type 0 where
  pub refused : (k : ℕ) → values_of (Refused k) ≡ record { number = k; reason = 0; place = 0; excess = 0 }
  pub answer : values_of Answer ≡ record { number = 0; reason = 1; place = 0; excess = 0 }
  pub other : (c : ℕ) → values_of (Other c) ≡ record { number = 0; reason = 2; place = c; excess = 0 }
  pub nothing : (e : ℕ) → values_of (Nothing e) ≡ record { number = 0; reason = 3; place = 0; excess = e }

-- the record b is another than F and costs under the limit; the place is the lowest at which their marks differ
pub record Shown (C : Code) (P s u F b : List ℕ) (place : ℕ) : Type 0 where
  pub given : IsRecord C P b
  pub other : F ≢ b
  pub near : cost_of C P s u b < radius C P
  pub inside : place < cells C P
  pub before : (c : ℕ) → c < place → at (mark C P F) c ≡ at (mark C P b) c
  pub differs : at (mark C P F) place ≢ at (mark C P b) place

pub record Explained (C : Code) (P s u F B : List ℕ) (told : Explanation) (b : List ℕ) : Type 0 where
  pub number : told.number ≡ 0
  pub one : (told.reason ≡ 1) ⊎ ((told.reason ≡ 2) ⊎ (told.reason ≡ 3))
  -- it is the answer: the expected record costs under the limit
  pub answer : (told.reason ≡ 1) ↔ (cost_of C P s u F < radius C P)
  pub answered : told.reason ≡ 1 → (told.place ≡ 0) × (told.excess ≡ 0) × (b ≡ B)
  -- another record is
  pub other : (told.reason ≡ 2) ↔ ((G : List ℕ) × IsRecord C P G × (F ≢ G) × (cost_of C P s u G < radius C P))
  pub shown : told.reason ≡ 2 → Shown C P s u F b told.place × (told.excess ≡ 0)
  -- no record is
  pub nothing : (told.reason ≡ 3) ↔ ((G : List ℕ) → IsRecord C P G → radius C P ≤ cost_of C P s u G)
  pub beyond : told.reason ≡ 3 → (cost_of C P s u F ≡ radius C P + told.excess) × (told.place ≡ 0) × (b ≡ B)

-- a plan of the file begins at k * 40, and its season is in the first two bytes there
pub record FoundExactly (file : List ℕ) (y : ℕ) : Type 0 where
  pub broken : length file % 40 ≢ 0 → find_number file y ≡ 11
  pub found : length file % 40 ≡ 0 → (k : ℕ) → k * 40 < length file → season (drop (k * 40) file) ≡ y → find_number file y ≡ 0
  pub absent : length file % 40 ≡ 0 → ((k : ℕ) → k * 40 < length file → season (drop (k * 40) file) ≢ y) →
      find_number file y ≡ 12

pub record FirstOfSeason (file : List ℕ) (y : ℕ) : Type 0 where
  -- it is plan k, whole
  pub k : ℕ
  pub offset : find_offset file y ≡ k * 40
  pub inside : k * 40 + 40 ≤ length file
  pub bytes : find_bytes file y ≡ take 40 (drop (k * 40) file)
  -- which has the season, and no plan before it has
  pub same : season (find_bytes file y) ≡ y
  pub before : (i : ℕ) → i < k → season (drop (i * 40) file) ≢ y

-- the group of degree k has the k + 1 places from start k on; that the calls ask K bytes of a record is `mark_size` of Shapes
pub record GroupsFill (d : ℕ) : Type 0 where
  -- the first group begins at the first place, and each other one where the group before it ends
  pub first : start 0 ≡ 0
  pub next : (k : ℕ) → start (k + 1) ≡ start k + (k + 1)
  -- the groups of degrees 0 to d lie within the K places
  pub within : (k j : ℕ) → j ≤ k → k ≤ d → start k + j < places d
  -- with no gap: each of the K places is in one of them
  pub covered : (m : ℕ) → m < places d → (k j : ℕ) × (j ≤ k) × (k ≤ d) × (m ≡ start k + j)
  -- and no overlap: no place is in two groups
  pub apart : (k j l i : ℕ) → j ≤ k → i ≤ l → start k + j ≡ start l + i → (k ≡ l) × (j ≡ i)
  -- within a group by rising power of Y: what stands at start k + j goes with X^(k - j) Y^j
  pub holds : (p : ℕ) (F : List ℕ) (z : ℕ → ℕ) →
      value_at 1 p d F z ≡ sum (d + 1) (λ k. sum (k + 1) λ j. at F (start k + j) * (z 0 ^ (k - j) * z 1 ^ j)) % p

pub record TrayParts (P s u : List ℕ) : Type 0 where
  pub plan : plan_of (P ++ (s ++ u)) ≡ P
  pub symbols : symbols_of plan_bytes (P ++ (s ++ u)) ≡ s
  pub doubts : doubts_of plan_bytes (P ++ (s ++ u)) ≡ u

pub record TrayRefused (input : List ℕ) : Type 0 where
  pub short : length input < 40 → tray_text input ≡ refused_line 1
  pub unsound : check_number (plan_of input) ≢ 0 → tray_text input ≡ refused_line (check_number (plan_of input))
  pub count : check_number (plan_of input) ≡ 0 → length input ≢ 40 + 2 * (rows (plan_of input) * columns (plan_of input)) →
      tray_text input ≡ refused_line 6

pub record WhyParts (P F s u : List ℕ) : Type 0 where
  pub plan : plan_of (P ++ (F ++ (s ++ u))) ≡ P
  pub expected : expected_of (P ++ (F ++ (s ++ u))) ≡ F
  pub symbols : shown_symbols (P ++ (F ++ (s ++ u))) ≡ s
  pub doubts : shown_doubts (P ++ (F ++ (s ++ u))) ≡ u

pub record WhyRefused (input : List ℕ) : Type 0 where
  pub short : length input < 40 → why_text input ≡ refused_line 1
  pub unsound : check_number (plan_of input) ≢ 0 → why_text input ≡ refused_line (check_number (plan_of input))
  pub count : check_number (plan_of input) ≡ 0 →
      length input ≢ 40 + places (degree (plan_of input)) + 2 * (rows (plan_of input) * columns (plan_of input)) →
      why_text input ≡ refused_line 6

pub record WidensExactly (old wide : List ℕ) : Type 0 where
  pub many : 1000 * 24 < length old → widen_number old wide ≡ 11
  pub broken : length old % 24 ≢ 0 → widen_number old wide ≡ 11
  pub room : length old ≤ 1000 * 24 → length old % 24 ≡ 0 → length wide ≢ length old / 24 * 40 → widen_number old wide ≡ 6
  pub done : length old ≤ 1000 * 24 → length old % 24 ≡ 0 → length wide ≡ length old / 24 * 40 →
      (widen_number old wide ≡ 0) × (widen_buffer old wide ≡ widened_all old)

pub record PrintsExactly (input : List ℕ) : Type 0 where
  pub many : 1000 * 24 < length input → widen_text input ≡ refused_line 11
  pub broken : length input % 24 ≢ 0 → widen_text input ≡ refused_line 11
  pub done : length input ≤ 1000 * 24 → length input % 24 ≡ 0 → widen_text input ≡ widened_all input

-- Q has 24 bytes, and they may be any
pub record Widened (Q : List ℕ) : Type 0 where
  pub whole : length (widened Q) ≡ plan_bytes
  pub same_season : season (widened Q) ≡ season Q
  pub same_modulus : modulus (widened Q) ≡ modulus Q
  pub tall : rows (widened Q) ≡ at Q 3
  pub wide : columns (widened Q) ≡ at Q 3
  pub same_degree : degree (widened Q) ≡ at Q 4
  pub row_points : (i : ℕ) → i < 16 → row_point (widened Q) i ≡ at Q (5 + i)
  pub column_points : (i : ℕ) → i < 16 → column_point (widened Q) i ≡ at Q (5 + i)
  pub spare : filled (widened Q) 38 2 ≡ false
  -- by document 01 bytes 21 to 23 are 0
  pub dropped : filled Q 21 3 ≡ true → narrow_number Q ≡ 1
  -- a plan that was sound stays sound
  pub kept : narrow_number Q ≡ 0 → check_number (widened Q) ≡ 0
  -- one that was not keeps its number, if its bytes 21 to 23 are 0
  pub refused : filled Q 21 3 ≡ false → check_number (widened Q) ≡ narrow_number Q
  -- and whatever they are, it gets the number that it had with them 0
  pub number : check_number (widened Q) ≡ narrow_number (cleared Q)

pub record WidenedInOrder (old : List ℕ) : Type 0 where
  pub whole : length (widened_all old) ≡ length old / 24 * 40
  pub each : (k : ℕ) → k < length old / 24 → take 40 (drop (k * 40) (widened_all old)) ≡ widened (take 24 (drop (k * 24) old))
