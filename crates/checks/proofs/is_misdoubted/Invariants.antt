-- `checks::is_misdoubted` meets its contract: what is found is whether one of the cells so far is such. Assumes nothing.
use Rattle.std.proofs.Common.{length}
use mathlib.Core.Path.{◌≡◌}
use Rattle.definitions.specs.Calls.{misdoubted}
use Rattle.checks.proofs.is_misdoubted.Given as goal

abbrev pub invariant-loop-symbol : goal.invariant-loop-symbol
invariant-loop-symbol l = l.found ≡ misdoubted l.full l.symbols l.doubts (length l.yielded)
