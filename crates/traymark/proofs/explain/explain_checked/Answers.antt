-- `traymark::explain::explain_checked` meets its contract: the checks come first, and after them the one call below explains.
-- Assumes nothing.
use mathlib.Core.Path.{sym, ◌∙◌}
use Rattle.definitions.proofs.Accepted.{explain-refused, accepted_explaining}
use Rattle.definitions.proofs.Explaining.{explains_refused}
use Rattle.definitions.proofs.Numbers.{number-some}
use Rattle.traymark.proofs.Answer.{handed_reason}
use Rattle.traymark.proofs.explain.explain_checked.Goals as goal

pub returns-in_err-said : goal.returns-in_err-said
returns-in_err-said g c =
    let n = explain-refused _ _ _ _ _ _ _ c.in_err-said.ensures.number (number-some _) in
    let h = explains_refused _ _ _ _ _ _ _ n (number-some _) in
    record { reason = handed_reason _ _ c.from_residual.ensures.1 ∙ h.reason; buffer = h.buffer }

pub returns-in_err-explain : goal.returns-in_err-explain
returns-in_err-explain g c =
    let n = rw c.in_ok-said.ensures.plan at c.in_err-explain.ensures in
    let h = explains_refused _ _ _ _ _ _ _ n (number-some _) in
    record { reason = handed_reason _ _ c.from_residual-in_err-explain.ensures.1 ∙ h.reason; buffer = h.buffer }

pub explain-requires-2 : goal.explain-requires-2
explain-requires-2 g c = accepted_explaining _ _ _ _ _ _ (sym c.in_ok-explain.ensures)

pub returns : goal.returns
returns g c =
    let h = rw c.in_ok-said.ensures.plan at c.explain-2.ensures in
    record { reason = h.reason; buffer = h.buffer }
