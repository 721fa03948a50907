-- `Mark::radius` meets its contract: the radius by the grid is the plan's. Assumes nothing.
use Rattle.plan.proofs.Said.{says}
use Rattle.plan.proofs.Values.{mark-radius}
use Rattle.plan.proofs.kind.MarkKind.radius.Goals as goal

pub returns-clause-is : goal.returns-clause-is
returns-clause-is c = mark-radius (says c.args.plan) c.radius.ensures.0
