-- `field::bytes::store` meets its contract: the places below j are written. Assumes nothing.
use mathlib.Core.Path.{◌≡◌}
use mathlib.Core.List.{◌++◌}
use lib.ListN.{drop}
use Rattle.bounded.specs.Bounded.{at, tab}
use Rattle.field.proofs.bytes.store.Given as goal

abbrev pub invariant-loop-j : goal.invariant-loop-j
invariant-loop-j l = l.part ≡ tab l.j (at l.numbers) ++ drop l.j l.initial.part
