-- `Mark::cell_count` meets its contract: by what the plan says of its sides. Assumes nothing.
use mathlib.Core.Path.{refl}
use Rattle.plan.proofs.Said.{says}
use Rattle.plan.proofs.kind.MarkKind.cell_count.Goals as goal

pub returns : goal.returns
returns c = let s = says c.args.plan in simp (s.rows, s.columns) refl
