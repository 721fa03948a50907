-- `checks::measure` meets its contract: a photograph's refusals come first. Assumes nothing.
use mathlib.Core.Path.{refl, sym, ◌∙◌}
use Rattle.definitions.proofs.Numbers.{number-some, handed, decided}
use Rattle.definitions.proofs.Accepted.{measure-refused}
use Rattle.checks.proofs.Tests.{measures}
use Rattle.checks.proofs.measure.Goals as goal

pub returns-in_err-photograph : goal.returns-in_err-photograph
returns-in_err-photograph g c =
    handed _ _ c.from_residual.ensures.1
    ∙ measure-refused _ _ _ _ _ _ c.in_err-photograph.ensures (number-some c.in_err-photograph.field-0.0)

pub returns : goal.returns
returns g c =
    measures _ c.args.plan _ _ _ _ (sym c.in_ok-photograph.ensures) (decided _ _ _ c.when.ensures (sym c.reaches.ensures) refl)
