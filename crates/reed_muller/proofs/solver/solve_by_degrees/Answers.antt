-- `reed_muller::solver::solve_by_degrees` meets its contract: the coefficients of Y^t and higher are found and subtracted.
-- Assumes nothing.
use mathlib.Core.Path.{◌≡◌, refl}
use Prim.Native.Nat.{◌-◌, ◌≤◌}
use native.Mathlib.Omega.{arith}
use native.Mathlib.Numerals.{add-one}
use lib.ListN.{set, get_or-replicate}
use Rattle.std.specs.Prelude.{None}
use Rattle.polynomial.proofs.Powers.{zero-rows}
use Rattle.grid.specs.Axes.{ColumnPowers}
use Rattle.grid.proofs.Answers.{positive}
use Rattle.reed_muller.specs.Steps.{Solving}
use Rattle.reed_muller.proofs.Drafts.{solving_drawn, solving_redrawn, drawn_solved}
use Rattle.reed_muller.proofs.Steps.{solving_start, solving_none, solving_next, solving_done, solving_over}
use Rattle.reed_muller.proofs.solver.solve_by_degrees.Goals as goal
use Rattle.reed_muller.proofs.solver.solve_by_degrees.Goals.{
  In_ok-column,
  else-untried-via-then-untried+else-from_lines,
  else-untried-via-else-untried,
}

-- a step from Y^t found its column, and the powers are made
module _ (c : In_ok-column) where
  low : c.loop-t.t - 1 ≤ c.args.g.d
  low = omega arith

  found : Solving c.args.g (c.loop-t.t - 1) c.args.left.now c.args.doubts.now c.step.new.left
      (set c.loop-t.columns (c.loop-t.t - 1) c.in_ok-column.column.message) c.step.new.messages c.in_ok-column.column.known
  found = solving_next (omega arith) low c.loop-t.invariant.0 c.in_ok-column.ensures.0

  made : ColumnPowers c.args.g c.step.new.ys
  made = c.in_ok-column.ensures.1 refl

pub loop-t-init : goal.loop-t-init
loop-t-init c =
    let (_, sq, _, columns) = c.requires in
    let S = solving_start sq columns (zero-rows (positive c.args.g)) refl (λ r l. get_or-replicate 16 r None None l) in
    (rw (add-one c.args.g.d) S, λ l. absurd (omega arith))

pub step-requires : goal.step-requires
step-requires c =
    let (I, _, du, _) = c.requires in
    let (S, ys) = c.loop-t.invariant in
    (I, λ l. ys (omega arith), omega arith, S.rows, du, S.known _ (omega arith))

pub from_lines-requires : goal.from_lines-requires
from_lines-requires c =
    let s = (goal.at.from_lines-requires c).In_ok-column in
    (c.requires.0, low s, c.in_ok-column.ensures.0.lines, (found s).coefficients)

pub returns-in_err-column : goal.returns-in_err-column
returns-in_err-column c =
    rw c.from_residual.ensures (solving_none (omega arith) (omega arith) c.loop-t.invariant.0 c.in_err-column.ensures.0 _)

pub returns-in-Some : goal.returns-in-Some
returns-in-Some c =
    let S = solving_redrawn (found (goal.at.returns-in-Some c).In_ok-column) c.from_lines.ensures in
    drawn_solved (solving_drawn S) c.in-Some.ensures

pub loop-t-preserved-then-from_lines : goal.loop-t-preserved-then-from_lines
loop-t-preserved-then-from_lines c =
    let s = (goal.at.loop-t-preserved-then-from_lines c).In_ok-column in
    let S = solving_redrawn (found s) c.from_lines.ensures in
    (rw (c.complete.ensures.over c.in_default.is) S, λ _. made s)

pub loop-t-preserved : goal.loop-t-preserved
loop-t-preserved c =
    let s = (goal.at.loop-t-preserved c).In_ok-column in
    elim c.else-untried.branch [
      | else-untried-via-then-untried+else-from_lines w ↦
          rw w.columns-is (solving_redrawn (found s) w.from_lines.ensures, λ _. made s)
      | else-untried-via-else-untried w ↦ rw w.columns-is (found s, λ _. made s)
    ]

pub returns-then-cost-radius : goal.returns-then-cost-radius
returns-then-cost-radius c =
    let l = c.loop-t in
    let e : l.t ≡ 0 = omega arith in
    rw c.measure-cost.ensures
    (solving_done (rw e at l.invariant.0) (omega (arith, c.measure-cost.ensures, c.if-cost-radius.true, c.radius.ensures.0)))

pub returns : goal.returns
returns c =
    let l = c.loop-t in
    let e : l.t ≡ 0 = omega arith in
    solving_over (rw e at l.invariant.0) (omega (arith, c.measure-cost.ensures, c.if-cost-radius.false, c.radius.ensures.0))
