-- `windows::is_met` meets its contract: what is found is whether one of the windows before it meets the span. Assumes nothing.
use Rattle.std.proofs.Common.{◌≡◌}
use Rattle.windows.specs.Spans.{meet_any}
use Rattle.windows.proofs.is_met.Given as goal

abbrev pub invariant-loop-other : goal.invariant-loop-other
invariant-loop-other l = l.found ≡ meet_any l.spans l.span l.other-index
