-- Columns that were drafted.
--
--   solving_drawn     the columns that the steps found are drawn
--   solving_redrawn   the columns that the steps have yet to find may be any
--   drawn_solved      a draft that leaves a cost under the radius is the answer
--   drawn_drafted     a draft of all columns is the answer, or is taken back
--
-- What this file is for: a draft counts by what it leaves, however it was made. Assumes nothing.
use mathlib.Core.Path.{ap}
use mathlib.Core.List.{List}
use Rattle.std.specs.Prelude.{Option, Some}
use Prim.Native.Nat.{ℕ, suc, ◌+◌, ◌-◌, ◌≤◌}
use native.Mathlib.Numerals.{add-one}
use Rattle.bounded.specs.Bounded.{at}
use Rattle.field.specs.Congruence.{Cong}
use Rattle.field.proofs.Congruence.{same, ~sym, ◌⨾◌}
use Rattle.polynomial.specs.Eval.{eval}
use Rattle.polynomial.specs.Powers.{Rows}
use Rattle.polynomial.specs.declared.Grid.{Grid}
use Rattle.grid.specs.Cost.{lines}
use Rattle.grid.specs.Drawn.{found, Drawn, Completed}
use Rattle.grid.proofs.Drawn.{drawn_start}
use Rattle.drafts.specs.Redrawn.{Redrawn}
use Rattle.reed_muller.specs.Steps.{Solving, Solved, Drafted}

-- the columns that the steps found
pub solving_drawn : {g : Grid} {k : ℕ} {s u left columns ws : List (List ℕ)} {vs : List (Option ℕ)} →
    Solving g k s u left columns ws vs → Drawn g k s u left columns
solving_drawn S = record { rows = S.rows; coefficients = S.coefficients; costs = S.steps.costs; rest = S.rest }

-- the columns below Y^k are of no matter to the steps
pub solving_redrawn : {g : Grid} {k : ℕ} {s u left columns columns' ws : List (List ℕ)} {vs : List (Option ℕ)} →
    Solving g k s u left columns ws vs →
    Redrawn g.modulus.p k columns columns' → Solving g k s u left columns' ws vs
solving_redrawn {g} {k} {columns} {columns'} S R = record {
  rows = S.rows;
  coefficients = R.rows;
  steps = record {
    agrees = λ h n t r l m i. alike t r l ⨾ S.steps.agrees h n t r l m i;
    costs = record { keeps = λ h f. S.steps.costs.keeps h λ t r l m i. ~sym (alike t r l) ⨾ f t r l m i };
  };
  rest = record { makes = λ h f. S.rest.makes h λ t r l m i. ~sym (alike t r l) ⨾ f t r l m i };
  known = S.known;
}
  where
    alike : (t r : ℕ) → k ≤ t → Cong (g.modulus.p - 1) (lines g.d (at g.x) (found columns') t r)
        (lines g.d (at g.x) (found columns) t r)
    alike t r l = same (ap (λ w. eval (suc (g.d - t)) (at w) (at g.x r)) (R.kept t l))

-- a draft under the radius
pub drawn_solved : {g : Grid} {t n : ℕ} {s u left left' columns : List (List ℕ)} → Drawn g t s u left columns →
    Completed g t u columns left left' (Some n) → Solved g s u left' columns (Some n)
drawn_solved {s} D C = record {
  under = λ m e. let (l, is, drawn) = C.under m e in (l, is, drawn s D);
  over = λ e. absurd (cc);
}

-- a draft of all columns
pub drawn_drafted : {g : Grid} {cost : Option ℕ} {s u left columns : List (List ℕ)} → Rows g.modulus.p s →
    Rows g.modulus.p columns → Completed g (g.d + 1) u columns s left cost → Drafted g s u left columns cost
drawn_drafted {g} {u = u} rows coefficients C = record {
  coefficients = coefficients;
  under = λ n e. rw e (drawn_solved (rw (← add-one g.d) at (drawn_start {g = g} {u = u} rows coefficients)) (rw e at C));
  over = C.over;
}
