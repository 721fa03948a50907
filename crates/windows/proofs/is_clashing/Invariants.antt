-- `windows::is_clashing` meets its contract: what is found is whether two of the windows before k meet. Assumes nothing.
use Rattle.std.proofs.Common.{◌≡◌}
use Rattle.windows.specs.Spans.{meet_two}
use Rattle.windows.proofs.is_clashing.Given as goal

abbrev pub invariant-loop-k : goal.invariant-loop-k
invariant-loop-k l = l.found ≡ meet_two l.spans l.k
