-- Plans of 24 bytes that become plans of 40.
--
--   wide_head, wide_rows, wide-columns, wide-end
--                                 byte c of a widened plan is which byte of the plan, or 0
--   widened-plan                  it says what the plan said, and is sound where the plan was
--   wide_byte, widened-row        byte c of all widened plans, and the 40 bytes of plan k
--   widened_in_order              the plans keep their order
--   widen-at, widens_exactly      a call that stops at row i of its refusals has that row's number; which it is, by the lengths
--   widen-refused, widen-filled   a refused call leaves the buffer, any other fills it
--   print_widened, print_refused  what `planwiden` prints, by the number of a call with a buffer of the right length
--   prints_exactly                when it prints the refusal
--   room-widened                  one byte more than 1,000 plans decides, for any input, what it prints
--
-- What this file is for: the call's number by the row at which it stops, its bytes one by one, and what they say to a user.
-- Assumes nothing.
use mathlib.Core.Path.{◌≡◌, refl, sym, ap, ap₂, ◌∙◌}
use mathlib.Core.Logic.{◌≢◌}
use mathlib.Core.Bool.{Bool, true, false, cond, not, ◌||◌}
use mathlib.Core.List.{List, [], ◌∷◌}
use Prim.Native.Nat.{ℕ, zero, suc, ◌+◌, ◌*◌, ◌-◌, ◌/◌, ◌%◌, ◌≤◌, ◌<◌, min}
use native.Mathlib.Omega.{arith}
use native.Mathlib.Decide.{dec_le}
use native.Mathlib.Nat.{add-sub_cancel}
use lib.Dec.{ltb, leb, lit<}
use lib.ListN.{length, take, length-append, length-take, get_or-append}
use lib.Seq.{get_or-take, get_or-append-add}
use borrow.Author.Tests.{lt-ltb, le-ltb}
use Rattle.bounded.specs.Bounded.{at, any, tab}
use Rattle.bounded.proofs.Any.{any-eq}
use Rattle.bounded.proofs.Sum.{cell_row, cell-column}
use Rattle.bounded.proofs.Tab.{length-tab, tab-at, tab-is}
use Rattle.bounded.proofs.Part.{tab_part}
use Rattle.field.specs.Prime.{is_prime}
use Rattle.definitions.specs.Refusals.{◌when◌, first}
use Rattle.definitions.specs.Plan.{plan_bytes, modulus, row_point, column_point, filled, unfit, unrisen, misplaced}
use Rattle.definitions.specs.Plan.{plan_rows, check_number}
use Rattle.definitions.specs.Printed.{refused_line}
use Rattle.definitions.specs.Room.{HoldsFirst}
use Rattle.definitions.specs.Widening.{narrow_bytes, most_plans, narrow_plan, widened, widened_all, file_rows, widen_rows}
use Rattle.definitions.specs.Widening.{widen_number, widen_buffer, widen_text, narrow_rows, narrow_number, cleared}
use Rattle.definitions.specs.Demands.{WidensExactly, PrintsExactly, Widened, WidenedInOrder}
use Rattle.definitions.proofs.Room.{room_decides}
use Rattle.definitions.proofs.Refusals.{Stops, number_at, first-at, first-clear, otherwise, equal, unequal}

-- byte c of a widened plan
abbrev source : List ℕ → ℕ → ℕ
source Q c = cond (ltb c 4) (at Q c) (cond (ltb c 22) (at Q (c - 1)) (cond (ltb c 38) (at Q (c - 17)) 0))

widened-tab : (Q : List ℕ) → widened Q ≡ tab plan_bytes (source Q)
unfolding widened tab
widened-tab Q = refl

module _ (Q : List ℕ) where
  widened-at : (c : ℕ) → c < plan_bytes → source Q c ≡ at (widened Q) c
  widened-at c l = rw (widened-tab Q) (sym (tab-at plan_bytes (source Q) c l))

  -- season, p and n
  pub wide_head : (c : ℕ) → c < 4 → at Q c ≡ at (widened Q) c
  wide_head c l = rw (← widened-at c (omega arith), lt-ltb c 4 l)

  -- n again, d and the row points
  pub wide_rows : (i c : ℕ) → c ≡ i + 1 → 3 ≤ i → i < 21 → at Q i ≡ at (widened Q) c
  wide_rows i c e k l =
      let a : 4 ≤ i + 1 = omega arith in
      let b : i + 1 < 22 = omega arith in
      rw (e, ← widened-at (i + 1) (omega arith), le-ltb (i + 1) 4 a, lt-ltb (i + 1) 22 b, add-sub_cancel i 1)

  -- the column points
  pub wide-columns : (i c : ℕ) → c ≡ i + 17 → 5 ≤ i → i < 21 → at Q i ≡ at (widened Q) c
  wide-columns i c e k l =
      let a : 4 ≤ i + 17 = omega arith in
      let b : 22 ≤ i + 17 = omega arith in
      let d : i + 17 < 38 = omega arith in
      rw (
        e,
        ← widened-at (i + 17) (omega arith),
        le-ltb (i + 17) 4 a,
        le-ltb (i + 17) 22 b,
        lt-ltb (i + 17) 38 d,
        add-sub_cancel i 17,
      )

  pub wide-end : (c : ℕ) → 38 ≤ c → c < plan_bytes → 0 ≡ at (widened Q) c
  wide-end c k l =
      let a : 4 ≤ c = omega arith in
      let b : 22 ≤ c = omega arith in
      rw (← widened-at c l, le-ltb c 4 a, le-ltb c 22 b, le-ltb c 38 k)

  row_point_lem : (i : ℕ) → i < 16 → row_point (widened Q) i ≡ at Q (5 + i)
  row_point_lem i l = sym (wide_rows (5 + i) (6 + i) (omega arith) (omega arith) (omega arith))

  column_point_lem : (i : ℕ) → i < 16 → column_point (widened Q) i ≡ at Q (5 + i)
  column_point_lem i l = sym (wide-columns (5 + i) (22 + i) (omega arith) (omega arith) (omega arith))

-- the points of two plans, placed alike
points-alike : (P Q : List ℕ) (a b n : ℕ) → modulus P ≡ modulus Q → ((i : ℕ) → i < 16 → at P (a + i) ≡ at Q (b + i)) →
    misplaced P a n ≡ misplaced Q b n
points-alike P Q a b n m h = any-eq 16 λ i k. ap₂ (cond (ltb i n)) (ap₂ ◌||◌ (ap₂ leb m (h i k)) (alike i k)) (ap (ltb 0) (h i k))
  where
    alike : (i : ℕ) → i < 16 → unrisen P a i ≡ unrisen Q b i
    alike zero k = refl
    alike (suc i) k = ap₂ leb (h (suc i) k) (h i (omega arith))

-- what is wrong with a plan that has the same each way: not prime, too large, n unfit, d too large, the points
rows_agree : (t v u d x y z : Bool) → x ≡ z → y ≡ z →
    first ((2 when t) ∷ (2 when v) ∷ (3 when u) ∷ (13 when u) ∷ (4 when d) ∷ (5 when x) ∷ (5 when y) ∷ [])
    ≡ first ((2 when t) ∷ (2 when v) ∷ (3 when u) ∷ (4 when d) ∷ (5 when z) ∷ [])
unfolding first
rows_agree true v u d x y z e f = refl
rows_agree false true u d x y z e f = refl
rows_agree false false true d x y z e f = refl
rows_agree false false false true x y z e f = refl
rows_agree false false false false x y true e f = rw e
rows_agree false false false false x y false e f = rw (e, f)

-- R has the 21 bytes that count of Q, and zeros behind them
module _ (Q R : List ℕ) (e : length R ≡ narrow_bytes) (z : filled R 21 3 ≡ false) (h : (i : ℕ) → i < 21 → at R i ≡ at Q i) where
  same_number : check_number (widened Q) ≡ narrow_number R
  unfolding check_number plan_rows narrow_number narrow_rows widened tab any first
  same_number =
      let p = at Q 2 in
      let n = at Q 3 in
      let m : min n n ≡ n = omega arith in
      rows_agree (not (is_prime p)) (ltb 251 p) (unfit p n) (leb (min n n) (at Q 4)) _ _ (misplaced R 5 n)
      (points-alike (widened Q) R 6 5 n (sym (h 2 (lit< tt))) λ i k. row_point_lem Q i k ∙ sym (h (5 + i) (omega arith)))
      (points-alike (widened Q) R 22 5 n (sym (h 2 (lit< tt))) λ i k. column_point_lem Q i k ∙ sym (h (5 + i) (omega arith)))
      ∙ rw (equal _ _ e, z, h 2 (lit< tt), h 3 (lit< tt), h 4 (lit< tt), m)

module _ (Q : List ℕ) (e : length Q ≡ narrow_bytes) where
  front : length (take 21 Q) ≡ 21
  front = simp length-take (omega arith)

  zero-at : (i : ℕ) → at (cleared Q) (21 + i) ≡ at (0 ∷ 0 ∷ 0 ∷ []) i
  zero-at i = ap (λ n. at (cleared Q) (n + i)) (sym front) ∙ get_or-append-add (take 21 Q) (0 ∷ 0 ∷ 0 ∷ []) i 0

  cleared-number : check_number (widened Q) ≡ narrow_number (cleared Q)
  unfolding any
  cleared-number =
      same_number Q (cleared Q) (simp (length-append, front) (omega arith)) (rw (zero-at 0, zero-at 1, zero-at 2)) λ i l.
      get_or-append (take 21 Q) _ 0 i (omega (arith, front)) ∙ get_or-take 21 Q i 0 l

  pub widened-plan : Widened Q
  unfolding widened tab any narrow_number narrow_rows
  widened-plan = record {
    whole = refl;
    same_season = refl;
    same_modulus = refl;
    tall = refl;
    wide = refl;
    same_degree = refl;
    row_points = row_point_lem Q;
    column_points = column_point_lem Q;
    spare = refl;
    dropped = λ z. sym (first-at (narrow_rows Q) 1 (equal _ _ e, z));
    kept = λ k. same_number Q Q e (first-clear (narrow_rows Q) tt k 1) (λ i l. refl) ∙ k;
    refused = λ z. same_number Q Q e z (λ i l. refl);
    number = cleared-number;
  }

abbrev pub wide_byte : List ℕ → ℕ → ℕ
wide_byte old c = at (widened (narrow_plan old (c / plan_bytes))) (c % plan_bytes)

pub widened-row : (old : List ℕ) (k : ℕ) → widened (narrow_plan old k) ≡ tab plan_bytes λ j. wide_byte old (k * plan_bytes + j)
widened-row old k = tab-is plan_bytes _ _ (ap length (widened-tab (narrow_plan old k)) ∙ length-tab _ _) λ j l.
    sym (ap₂ (λ r c. at (widened (narrow_plan old r)) c) (cell_row plan_bytes k j l) (cell-column plan_bytes k j l))

pub widened_in_order : (old : List ℕ) → WidenedInOrder old
unfolding widened_all
widened_in_order old = record {
  whole = length-tab _ _;
  each = λ k l. tab_part (k * plan_bytes) plan_bytes (length old / narrow_bytes * plan_bytes) (wide_byte old) (omega arith)
      ∙ sym (widened-row old k);
}

module _ (old wide : List ℕ) where
  pub widen-at : (i : ℕ) → Stops (widen_rows old wide) i → number_at (widen_rows old wide) i ≡ widen_number old wide
  unfolding widen_number
  widen-at i h = first-at (widen_rows old wide) i h

  pub widen-filled : 0 ≡ widen_number old wide → widened_all old ≡ widen_buffer old wide
  unfolding widen_buffer
  widen-filled e = rw (← e)

  pub widens_exactly : WidensExactly old wide
  unfolding widen_rows
  widens_exactly = record {
    many = λ h. sym (widen-at 0 (lt-ltb _ _ h));
    broken = λ h. go h (dec_le (length old) (most_plans * narrow_bytes));
    room = λ h e n. sym (widen-at 2 (le-ltb _ _ h, (equal _ _ e, unequal _ _ n)));
    done = λ h e f.
        let z = widen-at 3 (le-ltb _ _ h, (equal _ _ e, (equal _ _ f, tt))) in (sym z, sym (widen-filled z));
  }
    where
      go : length old % 24 ≢ 0 → Dec (length old ≤ most_plans * narrow_bytes) → widen_number old wide ≡ 11
      go h (yes l) = sym (widen-at 1 (le-ltb _ _ l, unequal _ _ h))
      go h (no l) = sym (widen-at 0 (lt-ltb (most_plans * narrow_bytes) (length old) (omega arith)))

  pub widen-refused : widen_number old wide ≢ 0 → widen_buffer old wide ≡ wide
  unfolding widen_buffer
  widen-refused h = otherwise (widen_number old wide) _ _ h

  module _ (e : length wide ≡ length old / narrow_bytes * plan_bytes) where
    file_number : widen_number old wide ≡ first (file_rows old)
    unfolding widen_number widen_rows first
    file_number = rw (equal _ _ e) (go _ _)
      where
        go : (a b : Bool) → first ((11 when a) ∷ (11 when b) ∷ (6 when false) ∷ []) ≡ first ((11 when a) ∷ (11 when b) ∷ [])
        go true b = refl
        go false true = refl
        go false false = refl

    pub print_widened : 0 ≡ widen_number old wide → widened_all old ≡ widen_text old
    unfolding widen_text
    print_widened z = rw (← file_number, ← z)

    pub print_refused : (k : ℕ) → k ≡ widen_number old wide → k ≢ 0 → refused_line k ≡ widen_text old
    unfolding widen_text
    print_refused k z h = rw (← file_number, ← z) (sym (otherwise k _ _ h))

long_text : (input : List ℕ) → most_plans * narrow_bytes < length input → widen_text input ≡ refused_line 11
unfolding widen_text first
long_text input l = rw (lt-ltb _ _ l)

pub room-widened : (input room : List ℕ) (came : ℕ) → most_plans * narrow_bytes < length room → HoldsFirst input room came →
    widen_text (take came room) ≡ widen_text input
room-widened =
    room_decides widen_text 0 (most_plans * narrow_bytes) (omega arith) λ a b _ l m. long_text a l ∙ sym (long_text b m)

pub prints_exactly : (input : List ℕ) → PrintsExactly input
unfolding widen_text first
prints_exactly input = record {
  many = λ h. rw (lt-ltb _ _ h);
  broken = λ h. go h (dec_le (length input) (most_plans * narrow_bytes));
  done = λ h e. rw (le-ltb _ _ h, equal _ _ e);
}
  where
    go : length input % 24 ≢ 0 → Dec (length input ≤ most_plans * narrow_bytes) → widen_text input ≡ refused_line 11
    go h (yes l) = rw (le-ltb _ _ l, unequal _ _ h)
    go h (no l) = rw (lt-ltb (most_plans * narrow_bytes) (length input) (omega arith))
