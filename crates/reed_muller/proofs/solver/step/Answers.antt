-- `reed_muller::solver::step` meets its contract: by the laws of a step with and without an answer. Assumes nothing.
use mathlib.Core.Path.{refl}
use mathlib.Core.Bool.{false≢true}
use native.Mathlib.Omega.{arith}
use Rattle.field.proofs.Row.{result_row}
use Rattle.grid.proofs.Answers.{positive}
use Rattle.reed_muller.proofs.Steps.{leading_received, stepped_none, stepped_found}
use Rattle.reed_muller.proofs.solver.step.Goals as goal

pub decode-requires : goal.decode-requires
decode-requires c =
    let (I, _, low, _, _, _) = c.requires in
    (leading_received c.answer-costs.ensures c.place_of_each-leading.ensures c.radius-radius.ensures.0 low, I)

pub returns-in_err-message : goal.returns-in_err-message
returns-in_err-message c = rw c.from_residual.ensures (
  stepped_none c.answer-costs.ensures c.place_of_each-leading.ensures c.radius-radius.ensures.0 c.in_err-message.ensures _,
  λ y. absurd (false≢true y),
)

pub subtract-requires : goal.subtract-requires
subtract-requires c =
    let g = c.args.g in
    let (_, _, low, sq, _, _) = c.requires in (
      sq,
      result_row _ (positive g) (c.in_ok-message.ensures.values refl),
      c.make_powers.ensures.rows.done _ (omega (arith, low, g.fit.low, g.fit.rows)),
    )

pub returns : goal.returns
returns c =
    let (_, _, _, sq, du, _) = c.requires in
    let P = c.make_powers.ensures in (
      stepped_found c.answer-costs.ensures c.place_of_each-leading.ensures c.radius-radius.ensures.0
          c.in_ok-message.ensures du sq (P.powers.done _ (omega arith)) c.subtract.ensures c.carry-known.ensures,
      λ _. P,
    )
