-- `Strip::radius` meets its contract: the radius by the grid is the plan's. Assumes nothing.
use Rattle.plan.proofs.Said.{says}
use Rattle.plan.proofs.Values.{strip_radius_lem}
use Rattle.plan.proofs.kind.StripKind.radius.Goals as goal

pub returns-clause-is : goal.returns-clause-is
returns-clause-is c = strip_radius_lem (says c.args.plan) c.radius.ensures.0
