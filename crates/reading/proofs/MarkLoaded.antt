-- A sound plan's mark that is loaded, decoded and stored.
--
--   record-room     a record has a byte at least, and at most as many as a message has numbers
--   symbol-rows     loaded symbols are rows of residues
--   mark_received   what is loaded is what the mark decoder takes
--   mark-refused    no answer of it is refusal 10
--   mark-under      the cost of an answer is under the radius
--   message-small   the numbers of its message are bytes
--   mark-reading    and the message, stored, is the reading of the one record within the radius; of the cells that differ from
--                   its mark, those that were not read are some
--
-- What this file is for: reading a mark is the reading that document 01 defines. Assumes nothing.
use mathlib.Core.Path.{◌≡◌, refl, sym, ap, ◌∙◌}
use mathlib.Core.Logic.{◌⊎◌, inl}
use mathlib.Core.Bool.{Bool, true, false, cond}
use mathlib.Core.List.{List}
use Prim.Native.Nat.{ℕ, suc, ◌+◌, ◌*◌, ◌-◌, ◌%◌, ◌^◌, ◌≤◌, ◌<◌}
use native.Mathlib.Omega.{arith}
use native.Mathlib.Decide.{dec_lt}
use native.Mathlib.Nat.{mul-le-mul_right, mod-lt}
use lib.Dec.{eqb}
use lib.ListN.{length}
use borrow.Author.Tests.{le-ltb}
use Rattle.std.specs.Prelude.{Option, Some, None, is_some}
use Rattle.bounded.specs.Bounded.{at, tab}
use Rattle.bounded.proofs.Sum.{sum-eq, sum_rows, cell_row, cell-column}
use Rattle.bounded.proofs.Tab.{length-tab, tab-at}
use Rattle.field.proofs.Congruence.{same, ~add, mod_cong, ◌⨾◌}
use Rattle.field.proofs.Row.{row_at, row_of, beyond}
use Rattle.definitions.specs.Plan.{modulus, rows, columns, degree, row_point, column_point, side, point}
use Rattle.definitions.specs.Code.{oblong, size, cells, value}
use Rattle.definitions.specs.Cost.{full, unread, radius}
use Rattle.definitions.specs.Calls.{refused}
use Rattle.definitions.specs.Reads.{Reads}
use Rattle.polynomial.specs.Eval.{eval}
use Rattle.polynomial.specs.Record.{place, longest, coef, on_row}
use Rattle.polynomial.specs.Powers.{Rows}
use Rattle.polynomial.specs.declared.Grid.{Grid}
use Rattle.polynomial.proofs.Record.{value-rows, place-below}
use Rattle.polynomial.proofs.Known.{value_cell}
use Rattle.definitions.proofs.Plan.{plan-longest, mark_size_lem}
use Rattle.plan.specs.declared.season.Plan.{Plan}
use Rattle.plan.specs.Says.{Says}
use Rattle.plan.proofs.Said.{point_at}
use Rattle.distance.specs.Cost.{hamming}
use Rattle.answers.specs.Summary.{unread_in, summary}
use Rattle.answers.proofs.Summary.{unread-within, summary-is}
use Rattle.grid.specs.Axes.{DoubtRows}
use Rattle.grid.specs.Loops.{cell_at}
use Rattle.reed_muller.specs.declared.decoder.Found.{Found}
use Rattle.reed_muller.specs.Mark.{LoadedGrid, Decoded}
use Rattle.reed_muller.specs.Outcome.{cost, Outcome}
use Rattle.reed_muller.specs.Rest.{Remains}
use Rattle.reading.proofs.MarkReading.{mark-none, mark-record, mark-cost, mark-found}
use Rattle.reading.specs.Loading.{residue, grid_cell, SymbolRows, DoubtLines, Taken}
use Rattle.reading.specs.Differing.{flag, differing_cells}
use Rattle.reading.proofs.Loading.{residue-below, residue_loaded}
use Rattle.reading.proofs.Cells.{cell_at_lem, flag-differ}

-- a record has a byte at least, and at most as many as a message has numbers
pub record-room : {P s u B : List ℕ} → Taken oblong P s u B → (0 < length B) × (length B ≤ longest)
record-room {P} t =
    rw t.room (rw (mark_size_lem P) (place-below 0 0 (degree P + 1) (omega arith)), plan-longest t.photo.sound)

module _ {P s u B : List ℕ} {left : List (List ℕ)} (t : Taken oblong P s u B) (es : SymbolRows (columns P) s left) where
  positive : 0 < modulus P
  positive = omega (arith, t.photo.sound.prime.least)

  inside : (r c : ℕ) → r < rows P → c < columns P → r * columns P + c < rows P * columns P
  inside r c l m = omega (arith, mul-le-mul_right (columns P) l)

  symbol_at_lem : (r c : ℕ) → r < rows P → c < columns P → cell_at left r c ≡ residue (at s (r * columns P + c))
  symbol_at_lem r c l m =
      ap (λ v. at v c) (es.done r (omega (arith, t.photo.sound.tall.most)))
      ∙ row_at (λ c. residue (grid_cell (columns P) s r c)) c (omega (arith, t.photo.sound.wide.most))
      ∙ ap residue (cell_at_lem (columns P) s r c m)

  known : (r c : ℕ) → (grid_cell (columns P) s r c < modulus P) ⊎ (grid_cell (columns P) s r c ≡ unread)
  known r c = column (dec_lt c (columns P)) (dec_lt r (rows P))
    where
      column : Dec (c < columns P) → Dec (r < rows P) →
          (grid_cell (columns P) s r c < modulus P) ⊎ (grid_cell (columns P) s r c ≡ unread)
      column (yes m) (yes l) = rw (cell_at_lem (columns P) s r c m) (t.photo.symbol (r * columns P + c) (inside r c l m))
      column (yes m) (no l) =
          let k : rows P ≤ r = omega arith in
          let h : length s ≤ r * columns P + c = omega (arith, t.photo.symbols, mul-le-mul_right (columns P) k) in
          inl (rw (cell_at_lem (columns P) s r c m, beyond s (r * columns P + c) h) positive)
      column (no m) l = let k : columns P ≤ c = omega arith in inl (rw (le-ltb c (columns P) k) positive)

  pub symbol-rows : Rows (modulus P) left
  symbol-rows = record {
    size = es.size;
    done = λ r k. rw (es.done r k) (row_of positive (length-tab 16 _) λ c m.
        rw (row_at (λ c. residue (grid_cell (columns P) s r c)) c m) (residue-below positive (known r c)));
  }

module _ {P s u B : List ℕ} {left u' : List (List ℕ)} (t : Taken oblong P s u B)
    (es : SymbolRows (columns P) s left) (eu : DoubtLines (columns P) u u') where
  doubt-at : (r c : ℕ) → r < rows P → c < columns P → cell_at u' r c ≡ at u (r * columns P + c)
  doubt-at r c l m =
      ap (λ v. at v c) (eu.done r (omega (arith, t.photo.sound.tall.most)))
      ∙ row_at (grid_cell (columns P) u r) c (omega (arith, t.photo.sound.wide.most))
      ∙ cell_at_lem (columns P) u r c m

  loaded : LoadedGrid (full P) (rows P) (columns P) s u (cell_at left) (cell_at u')
  loaded r c l m =
      let i = r * columns P + c in
      rw (symbol_at_lem t es r c l m, doubt-at r c l m)
      (residue_loaded (at s i) (at u i) (t.photo.doubt i (inside t es r c l m)).1)

  doubts-most : (r c : ℕ) → r < rows P → c < columns P → cell_at u' r c ≤ full P
  doubts-most r c l m = rw (doubt-at r c l m) (t.photo.doubt (r * columns P + c) (inside t es r c l m)).0

  -- what the decoder answers for points that it has loaded, and what it leaves of the symbols
  module _ {x y : ℕ → ℕ} (ex : (r : ℕ) → r < rows P → x r ≡ row_point P r) (ey : (c : ℕ) → c < columns P → y c ≡ column_point P c)
      (w : List ℕ) where
    abbrev Answer : Bool → ℕ → Type 0
    Answer found n =
        Decoded (modulus P - 1) (full P) (rows P) (columns P) (degree P) x y (cell_at left) (cell_at u') found (coef w) n

    refused-said : (n : ℕ) → Answer false n → Reads oblong P s u B (refused 10) B
    refused-said n D = mark-none P s u B t.clear ex ey loaded w D refl

    module _ {n : ℕ} (D : Answer true n) where
      -- the message fits into bytes
      small-said : (j : ℕ) → j < length B → at w j < 256
      small-said j l =
          let k : j < size oblong P = omega (arith, t.room) in
          let m = size oblong P in
          let F = mark-record P s u B t.clear ex ey loaded w D refl (tab m (at w)) (length-tab m (at w)) (tab-at m (at w)) in
          omega (arith, F.below j k, tab-at m (at w) j k, t.photo.sound.small)

      module _ {W : List ℕ} (stored : W ≡ tab (length B) (at w)) where
        word-length : length W ≡ size oblong P
        word-length = rw stored (length-tab (length B) (at w)) ∙ t.room

        word_at : (i : ℕ) → i < size oblong P → at W i ≡ at w i
        word_at i l = rw stored (tab-at (length B) (at w) i (omega (arith, t.room)))

        coefficients : (k i : ℕ) → i + k ≤ degree P → coef W i k ≡ coef w i k
        coefficients k i l = word_at (place i k) (rw (mark_size_lem P) (place-below i k (degree P + 1) (omega arith)))

        abbrev line-value : (r c : ℕ) → ℕ
        line-value r c = eval (suc (degree P)) (on_row (degree P) (coef w) (x r)) (y c)

        value-at : (r c : ℕ) → r < rows P → c < columns P → value oblong P W (r * columns P + c) ≡ line-value r c % modulus P
        value-at r c l m =
            value_cell (modulus P) (degree P) W (side P) (point P) (r * columns P + c)
            ∙ rw (cell_row (columns P) r c m, cell-column (columns P) r c m, ex r l, ey c m)
            (value-rows (modulus P) (degree P) W (row_point P r) (column_point P c) ∙ ap (λ e. e % modulus P)
            (sum-eq (suc (degree P)) λ k a. ap (λ e. e * column_point P c ^ k)
            (sum-eq (suc (degree P - k)) λ i b. ap (λ e. e * row_point P r ^ i) (coefficients k i (omega arith)))))

        module _ (after : List (List ℕ))
            (R : Remains (modulus P - 1) (rows P) (columns P) (degree P) x y (cell_at left) (cell_at after) (coef w)) where
          cell-differs : (r c : ℕ) → r < rows P → c < columns P →
              ◌≡◌ {A = ℕ} (cond (eqb (flag (grid_cell (columns P) s r c) (cell_at after r c)) 0) 0 1)
              (cond (eqb (at s (r * columns P + c)) (value oblong P W (r * columns P + c))) 0 1)
          cell-differs r c l m =
              let z = positive t es in
              rw (cell_at_lem (columns P) s r c m, value-at r c l m)
              (flag-differ t.photo.sound.small (t.photo.symbol (r * columns P + c) (inside t es r c l m))
              (omega (arith, R.below r c l m, z)) (mod-lt (line-value r c) z)
              (~add (same refl) (mod_cong z (line-value r c)) ⨾ R.whole r c l m ⨾ same (symbol_at_lem t es r c l m)))

          differing_of : differing_cells (rows P) (columns P) s after ≡ hamming (cells oblong P) (at s) (value oblong P W)
          differing_of = sym (sum_rows (rows P) (columns P) _
              ∙ sum-eq (rows P) λ r l. sum-eq (columns P) λ c m. sym (cell-differs r c l m))

          reading-said : {k : ℕ} → k ≡ differing_cells (rows P) (columns P) s after →
              (unread_in s ≤ k) × Reads oblong P s u B (summary (radius oblong P) n k s) W
          reading-said e =
              let paid = mark-cost P s u B t.clear ex ey loaded w D refl W word-length word_at in
              let differing = e ∙ differing_of in (
                unread-within W t.photo differing,
                rw (summary-is W t.photo differing refl paid)
                    (mark-found P s u B t.clear ex ey loaded w D refl W word-length word_at),
              )

-- the same by the struct that says what the plan does
module _ {P s u B : List ℕ} {left u' : List (List ℕ)} {plan : Plan} (says : Says P plan) (t : Taken oblong P s u B)
    (es : SymbolRows plan.grid.b s left) (eu : DoubtLines plan.grid.b u u') where
  abbrev g : Grid
  g = plan.grid

  sides : SymbolRows (columns P) s left × DoubtLines (columns P) u u'
  sides = (simp says.columns at es, simp says.columns at eu)

  pub mark_received : Rows g.modulus.p left × DoubtRows g u'
  mark_received = (
    simp says.modulus (symbol-rows t sides.0),
    λ r l c m. simp says.full (doubts-most t sides.0 sides.1 r c (simp says.rows at l) (simp says.columns at m)),
  )

  ex : (r : ℕ) → r < rows P → at g.x r ≡ row_point P r
  ex r l = simp says.row_points (point_at says.sound 0 r l)

  ey : (c : ℕ) → c < columns P → at g.y c ≡ column_point P c
  ey c l = simp says.column_points (point_at says.sound 1 c l)

  abbrev Outcome_of : Option Found → List ℕ → Type 0
  Outcome_of r w = Outcome g left u' r w

  answer : {r : Option Found} {w : List ℕ} → Outcome_of r w →
      Decoded (modulus P - 1) (full P) (rows P) (columns P) (degree P) (at g.x) (at g.y) (cell_at left) (cell_at u') (is_some r)
      (coef w) (cost r)
  answer D = simp (says.modulus, says.full, says.rows, says.columns, says.degree) at D.decoded

  pub mark-refused : {w : List ℕ} → Outcome_of None w → Reads oblong P s u B (refused 10) B
  mark-refused D = refused-said t sides.0 sides.1 ex ey _ _ (answer D)

  module _ {f : Found} {w : List ℕ} (D : Outcome_of (Some f) w) where
    pub mark-under : {R : ℕ} → R ≡ radius oblong P → f.cost < R
    mark-under h = let l : f.cost < radius oblong P = ((answer D).sound refl).1 in omega (arith, h, l)

    pub message-small : (j : ℕ) → j < length B → at w j < 256
    message-small = small-said t sides.0 sides.1 ex ey _ (answer D)

    pub mark-reading : {W : List ℕ} {k R : ℕ} → W ≡ tab (length B) (at w) → k ≡ differing_cells g.a g.b s f.left →
        R ≡ radius oblong P → (unread_in s ≤ k) × Reads oblong P s u B (summary R f.cost k s) W
    mark-reading stored e h = rw h (reading-said t sides.0 sides.1 ex ey _ (answer D) stored _
        (simp (says.modulus, says.rows, says.columns, says.degree) at (D.remains refl)) (simp (says.rows, says.columns) at e))
