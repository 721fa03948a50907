-- `sets::holding::arrival` meets its contract: the set's plan is looked at first. Assumes nothing.
use mathlib.Core.Path.{◌∙◌}
use Rattle.definitions.proofs.Numbers.{number-some, handed}
use Rattle.definitions.proofs.Sets.{add-refused}
use Rattle.sets.proofs.holding.arrival.Goals as goal

pub returns-in_err-plan : goal.returns-in_err-plan
returns-in_err-plan c =
    handed _ _ c.from_residual.ensures.1
    ∙ add-refused _ _ _ _ _ c.in_err-plan.ensures.number (number-some c.in_err-plan.field-0.0)
