-- `checks::is_strange` meets its contract: what is found is whether one of the symbols so far is such. Assumes nothing.
use mathlib.Core.Path.{◌≡◌}
use Rattle.definitions.specs.Calls.{strange}
use Rattle.checks.proofs.is_strange.Given as goal

abbrev pub invariant-loop-symbol : goal.invariant-loop-symbol
invariant-loop-symbol l = l.found ≡ strange l.p l.symbols l.symbol-index
