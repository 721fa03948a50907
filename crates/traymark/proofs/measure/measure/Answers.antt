-- `traymark::measure::measure` meets its contract: the checks come first, and after them the one call below measures. Assumes
-- nothing.
use mathlib.Core.Path.{refl, sym, ◌∙◌}
use Rattle.definitions.proofs.Accepted.{accepted_measuring}
use Rattle.definitions.proofs.Numbers.{number-some}
use Rattle.traymark.proofs.Answer.{measure-unsound, measure-refuses, measure-gives, handed_reading}
use Rattle.traymark.proofs.measure.measure.Goals as goal

pub returns-in_err-said : goal.returns-in_err-said
returns-in_err-said g c =
    handed_reading _ _ c.from_residual.ensures.1
    ∙ measure-unsound _ _ _ _ _ c.in_err-said.ensures.number (number-some _)

pub returns-in_err-measure : goal.returns-in_err-measure
returns-in_err-measure g c =
    handed_reading _ _ c.from_residual-in_err-measure.ensures.1
    ∙ measure-refuses _ _ _ _ _ (rw c.in_ok-said.ensures.plan at c.in_err-measure.ensures) (number-some _)

pub measure-requires-2 : goal.measure-requires-2
measure-requires-2 g c = accepted_measuring _ _ _ _ _ (sym c.in_ok-measure.ensures)

pub returns : goal.returns
returns g c =
    rw c.in_ok-said.ensures.plan at (c.measure-2.ensures ∙ measure-gives _ _ _ _ _ c.in_ok-measure.ensures refl)
