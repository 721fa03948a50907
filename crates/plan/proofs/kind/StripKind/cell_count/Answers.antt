-- `Strip::cell_count` meets its contract: by what the plan says of its sides. Assumes nothing.
use Rattle.plan.proofs.Said.{says}
use Rattle.plan.proofs.kind.StripKind.cell_count.Goals as goal

pub returns : goal.returns
returns c = let s = says c.args.plan in s.rows
