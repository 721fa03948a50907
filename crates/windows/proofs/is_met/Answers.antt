-- `windows::is_met` meets its contract: what is found is whether one of the windows before it meets the span. Assumes nothing.
use Rattle.std.proofs.Common.{sym}
use Rattle.bounded.proofs.Any.{any-start, any_next}
use Rattle.windows.proofs.is_met.Goals as goal

pub loop-other-init : goal.loop-other-init
loop-other-init c = sym (any-start _)

pub loop-other-preserved : goal.loop-other-preserved
loop-other-preserved c = any_next _ _ c.loop-other.invariant c.meets-found.ensures
