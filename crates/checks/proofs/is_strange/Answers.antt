-- `checks::is_strange` meets its contract: what is found is whether one of the symbols so far is such. Assumes nothing.
use mathlib.Core.Path.{sym}
use Rattle.bounded.proofs.Any.{any-start, any_next}
use Rattle.checks.proofs.is_strange.Goals as goal

pub loop-symbol-init : goal.loop-symbol-init
loop-symbol-init c = sym (any-start _)

pub loop-symbol-preserved : goal.loop-symbol-preserved
loop-symbol-preserved c = any_next _ _ c.loop-symbol.invariant c.is_strange_symbol-found.ensures
