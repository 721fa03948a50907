-- `Plan::try_from` meets its contract: what is checked is parsed. Assumes nothing.
use mathlib.Core.Path.{sym}
use Rattle.definitions.proofs.Sound.{sound}
use Rattle.plan.proofs.PlanTryFromRefSliceU8.try_from.Goals as goal

pub parse-requires : goal.parse-requires
parse-requires c = sound _ (sym c.in_ok-check.ensures)
