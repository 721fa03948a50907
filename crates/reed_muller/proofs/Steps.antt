-- One degree step of the decoder, and all of them.
--
--   known_next         the answers that are carried are answers of what is left
--   leading_received   the lines' leading coefficients, with the lines' costs, are a strip that the decoder of strips takes
--   stepped_none, stepped_found
--                      what a step without and with an answer hands over
--   solving_start, solving_next
--                      the invariant before the first step, and after one more
--   solving_none       a step without an answer: no record is under the radius
--   solving_done, solving_over
--                      after the last step, where what is left costs less than the radius and where not
--
-- What this file is for: the steps keep their invariant, which says that every record under the radius has what was found.
-- Assumes nothing.
use mathlib.Core.Path.{◌≡◌, refl, sym, ap, ◌∙◌}
use mathlib.Core.Bool.{Bool, true, false, cond, false≢true}
use mathlib.Core.List.{List, []}
use Rattle.std.specs.Prelude.{Option, Some, None, get_or}
use Prim.Native.Nat.{ℕ, suc, ◌*◌, ◌-◌, ◌%◌, ◌^◌, ◌≤◌, ◌<◌, min}
use native.Mathlib.Omega.{arith}
use lib.Dec.{eqb, ltb}
use lib.ListN.{length, set}
use lib.Seq.{get_or-set_same, get_or-set_other}
use borrow.Author.Tests.{eqb-true, ltb-true}
use Rattle.bounded.specs.Bounded.{at}
use Rattle.field.specs.Congruence.{Cong}
use Rattle.field.specs.Loop.{Upto}
use Rattle.field.specs.Row.{row}
use Rattle.field.proofs.Congruence.{same, ◌⨾◌}
use Rattle.field.proofs.Loop.{upto_put}
use Rattle.field.proofs.Row.{row_at, result_cong}
use Rattle.polynomial.specs.Eval.{eval}
use Rattle.polynomial.specs.Powers.{Rows}
use Rattle.polynomial.specs.declared.Grid.{Grid}
use Rattle.polynomial.specs.Fit.{grid_radius}
use Rattle.polynomial.proofs.Eval.{eval_cong}
use Rattle.reed_solomon.specs.declared.decoder.Decoded as Strip
use Rattle.reed_solomon.specs.Axis.{Received}
use Rattle.reed_solomon.specs.Decoded.{StripDecoded}
use Rattle.grid.specs.Line.{HandsOn}
use Rattle.grid.specs.Axes.{DoubtRows, line_axis, strip_axis}
use Rattle.grid.specs.Loops.{line, cell_at}
use Rattle.grid.specs.Answers.{Answer, kept, KnownRows, AnsweredRows}
use Rattle.grid.specs.Drawn.{found, Without, Lessened, left_over}
use Rattle.grid.proofs.Answers.{positive, column-row, strip-valid}
use Rattle.grid.proofs.Line.{answer_carried}
use Rattle.grid.proofs.Drawn.{without_subtracted}
use Rattle.grid.proofs.Rest.{rest-start, rest-next}
use Rattle.reed_muller.specs.declared.solver.Column.{Column}
use Rattle.reed_muller.specs.Steps.{Stepped, Solving, Solved}
use Rattle.reed_muller.proofs.Degree.{grid-start, grid-none, grid-next, grid-over}
use Rattle.reed_muller.proofs.Drafts.{solving_drawn}

-- a cost that was kept
kept_from : (e z v R n : ℕ) → kept e z v R ≡ Some n → (e ≡ z) × (v < R) × (v ≡ n)
kept_from e z v R n = go (eqb e z) (ltb v R) refl refl
  where
    go : (a b : Bool) → eqb e z ≡ a → ltb v R ≡ b → cond a (cond b (Some v) None) None ≡ Some n → (e ≡ z) × (v < R) × (v ≡ n)
    go true true i j h = (eqb-true e z i, ltb-true v R j, cc)
    go true false i j h = absurd (cc)
    go false b i j h = absurd (cc)

module _ {g : Grid} {j : ℕ} (left u left' ws : List (List ℕ)) (column : List ℕ) {e z v : List ℕ} {v' : List (Option ℕ)}
    (du : DoubtRows g u)
    (A : AnsweredRows g (suc j) left u ws v) (leading : e ≡ row λ r. cell_at ws r (suc j))
    (values : z ≡ row λ r. eval (suc (g.d - suc j)) (at column) (at g.x r) % g.modulus.p)
    (carried : Upto 16 None (λ r w. w ≡ kept (at e r) (at z r) (at v r) (g.full * (g.b - suc j))) v' 16)
    (S : (r : ℕ) → r < g.a → Lessened g (suc j) column left left' r) where
  -- an answer whose leading coefficient was found is the answer of what is left
  answer-kept : (r : ℕ) → r < g.a → (n : ℕ) → get_or v' r None ≡ Some n →
      Answer (line_axis g j) (line left' r) (line u r) (line ws r) n
  answer-kept r l n h =
      let i : r < 16 = omega (arith, g.fit.rows) in
      let (k, m, is) = kept_from (at e r) (at z r) (at v r) (g.full * (g.b - suc j)) n (sym (carried.done r i) ∙ h) in
      rw (← is) (answer_carried g.fit.columns_apart (du r l) (eval (suc (g.d - suc j)) (at column) (at g.x r))
      ((A.answered r l).strip m)
      (same (sym (rw leading (row_at _ r i)) ∙ k) ⨾ result_cong _ (positive g) values r i) (S r l))

  pub known_next : KnownRows g j left' u ws v'
  known_next = record {
    size = carried.size;
    rows = A.rows;
    known = λ r l. record { good = A.rows.done r (omega (arith, g.fit.rows)); strip = answer-kept r l };
  }

-- what the lines hand on is a strip: its symbols are a row, its doubts at most the full one, which is the radius R of a line
module _ {g : Grid} {t : ℕ} {left u ws : List (List ℕ)} {e v : List ℕ} (A : AnsweredRows g t left u ws v)
    (leading : e ≡ row λ r. cell_at ws r t) {R : ℕ} (radius : R ≡ g.full * 1 * (g.b - t)) where
  one-line : R ≡ g.full * (g.b - t)
  one-line = omega (arith, radius)

  pub leading_received : t ≤ g.d → Received (strip_axis g t R) e v
  leading_received low = rw one-line (record {
    axis = strip-valid g low;
    symbols = column-row t (positive g) A.rows leading;
    doubts = λ r l. (A.answered r l).handed.below;
  })

  handed : (r : ℕ) → r < g.a → HandsOn (g.modulus.p - 1) g.full g.b t (at g.y) (cell_at left r) (cell_at u r) (at e r) (at v r)
  handed r l = rw (leading, row_at (λ r. cell_at ws r t) r (omega (arith, g.fit.rows))) (A.answered r l).handed

  -- the strip, read
  pub stepped_none : StripDecoded (strip_axis g t R) e v None → (left' : List (List ℕ)) → Stepped g t left u left' ws None
  stepped_none S left' =
      let D : StripDecoded (strip_axis g t (g.full * (g.b - t))) e v None = rw one-line at S in record {
        e = e;
        v = v;
        cost = 0;
        handed = handed;
        strip = D.strip;
        good = D.small;
        lines = A.rows;
        rows = λ y. absurd (false≢true y);
        subtracted = λ y. absurd (false≢true y);
        known = λ y. absurd (false≢true y);
      }

  pub stepped_found : {strip : Strip.Decoded} → StripDecoded (strip_axis g t R) e v (Some strip) →
      {w : List ℕ} {v' : List (Option ℕ)} {left' : List (List ℕ)} → DoubtRows g u → Rows g.modulus.p left →
      w ≡ row (λ c. at g.y c ^ t % g.modulus.p) → Without g left strip.values w left' →
      Upto 16 None (λ r k. k ≡ kept (at e r) (at strip.values r) (at v r) R) v' 16 →
      Stepped g t left u left' ws (Some (record { message = strip.message; known = v' }))
  stepped_found {strip} S {w} {v'} {left'} du sq power W carried = record {
    e = e;
    v = v;
    cost = strip.cost;
    handed = handed;
    strip = D.strip;
    good = D.small;
    lines = A.rows;
    rows = λ _. W.rows;
    subtracted = λ _. less;
    known = λ _ j k. known_next left u left' ws strip.message {z = strip.values} du (rw k at A) (rw k at leading)
        (rw k at (D.values refl)) (rw k at (rw one-line at carried)) (rw k at less);
  }
    where
      D : StripDecoded (strip_axis g t (g.full * (g.b - t))) e v (Some strip)
      D = rw one-line at S

      less : (r : ℕ) → r < g.a → Lessened g t strip.message left left' r
      less = without_subtracted t left left' strip.message sq (D.values refl) power W

-- the steps start: nothing is found, all is left, and no answer is known
pub solving_start : {g : Grid} {s u columns ws : List (List ℕ)} {vs : List (Option ℕ)} → Rows g.modulus.p s →
    Rows g.modulus.p columns → Rows g.modulus.p ws →
    length vs ≡ 16 → ((r : ℕ) → r < 16 → get_or vs r None ≡ None) → Solving g (suc g.d) s u s columns ws vs
solving_start {g} sq cs ms e h = record {
  rows = sq;
  coefficients = cs;
  steps = grid-start (at g.x) _ _;
  rest = rest-start _;
  known = λ j _. record {
    size = e;
    rows = ms;
    known = λ r l.
        let k : r < 16 = omega (arith, g.fit.rows) in
        let none = h r k in record { good = ms.done r k; strip = λ n is. absurd (cc) };
  };
}

module _ {g : Grid} {k t : ℕ} (e : k ≡ suc t) (td : t ≤ g.d) {s u left columns ws : List (List ℕ)} {vs : List (Option ℕ)}
    (B : Solving g k s u left columns ws vs) where
  S : Solving g (suc t) s u left columns ws vs
  S = rw e at B

  low : g.d < min g.a g.b
  low = omega (arith, g.fit.low, g.fit.narrow)

  -- a step without an answer: no record is under the radius
  pub solving_none : {left' ws' : List (List ℕ)} → Stepped g t left u left' ws' None → (last : List (List ℕ)) →
      Solved g s u last columns None
  solving_none T last = record {
    under = λ n m. absurd (cc);
    over = λ _. grid-none (at g.x) (found columns) low td S.steps T.handed T.strip refl;
  }

  module _ {left' ws' : List (List ℕ)} {r : Column} (T : Stepped g t left u left' ws' (Some r)) where
    -- the column found stands in its place, and those found before stay
    new : (i : ℕ) → Cong (g.modulus.p - 1) (found (set columns t r.message) i t) (at r.message i)
    new i = let h : t < length columns = omega (arith, S.coefficients.size, g.fit.low, g.fit.rows) in
        same (ap (λ m. at m i) (get_or-set_same columns t r.message [] h))

    old : (t' i : ℕ) → t < t' → Cong (g.modulus.p - 1) (found (set columns t r.message) i t') (found columns i t')
    old t' i l = same (ap (λ m. at m i) (get_or-set_other columns t t' r.message [] (omega arith)))

    abbrev value : ℕ → ℕ
    value i = eval (suc (g.d - t)) (at r.message) (at g.x i)

    pub solving_next : Solving g t s u left' (set columns t r.message) ws' r.known
    solving_next = record {
      rows = T.rows refl;
      coefficients = upto_put r.message (omega (arith, g.fit.low, g.fit.rows)) T.good S.coefficients;
      steps = grid-next (at g.x) (found columns) low td S.steps T.handed T.strip (found (set columns t r.message)) value
          (λ r l. same refl) (T.subtracted refl) (λ i _. new i) (λ t' i l _. old t' i l);
      rest = rest-next value td S.rest (T.subtracted refl) (λ r l. eval_cong (suc (g.d - t)) (at g.x r) λ i k. new i)
          (λ t' r l m _. eval_cong (suc (g.d - t')) (at g.x r) λ i k. old t' i l);
      known = T.known refl;
    }

-- after the last step
module _ {g : Grid} {s u left columns ws : List (List ℕ)} {vs : List (Option ℕ)} (S : Solving g 0 s u left columns ws vs) where
  pub solving_done : left_over g u left < grid_radius g → Solved g s u left columns (Some (left_over g u left))
  solving_done l = record {
    under = λ n e. let is : left_over g u left ≡ n = cc in rw (← is) (l, refl, solving_drawn S);
    over = λ e. absurd (cc);
  }

  pub solving_over : grid_radius g ≤ left_over g u left → Solved g s u left columns None
  solving_over m =
      record { under = λ n e. absurd (cc); over = λ _. grid-over (at g.x) (found columns) S.steps m }
