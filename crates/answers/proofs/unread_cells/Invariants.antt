-- `answers::unread_cells` meets its contract: the cells so far are counted. Assumes nothing.
use mathlib.Core.Path.{◌≡◌}
use Prim.Native.Nat.{◌≤◌}
use Rattle.bounded.specs.Bounded.{at}
use Rattle.definitions.specs.Cost.{unread_cells}
use Rattle.answers.proofs.unread_cells.Given as goal

abbrev pub invariant-loop-symbol : goal.invariant-loop-symbol
invariant-loop-symbol l =
    (l.count ≡ unread_cells l.symbol-index (at l.symbols)) × (l.count ≤ l.symbol-index)
