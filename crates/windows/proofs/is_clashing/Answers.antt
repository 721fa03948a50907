-- `windows::is_clashing` meets its contract: what is found is whether two of the windows before k meet. Assumes nothing.
use Rattle.std.proofs.Common.{sym, ◌∙◌, arith}
use Rattle.bounded.proofs.Any.{any-start, any_next}
use Rattle.windows.proofs.EndDays.{meet_front}
use Rattle.windows.proofs.is_clashing.Goals as goal

pub loop-k-init : goal.loop-k-init
loop-k-init c = sym (any-start _)

pub loop-k-preserved : goal.loop-k-preserved
loop-k-preserved c = any_next _ _ c.loop-k.invariant (c.is_met-found.ensures ∙ meet_front _ _ _ (omega arith))
