-- `masking::mask_by` meets its contract: the buffer then has the record's values. Assumes nothing.
use mathlib.Core.Path.{◌∙◌}
use Rattle.plan.proofs.Said.{says}
use Rattle.masking.proofs.Cells.{cells_fit, cells-masked}
use Rattle.masking.proofs.mask_by.Goals as goal

pub shift_all-requires : goal.shift_all-requires
shift_all-requires g c = cells_fit (says c.args.plan) c.requires.1 c.write.ensures

pub returns : goal.returns
returns g c = c.shift_all.ensures ∙ cells-masked (says c.args.plan) c.requires.1 c.write.ensures _
