-- `masking::shift_all` meets its contract: the symbols below c are masked, the others as they were. Assumes nothing.
use mathlib.Core.Path.{◌≡◌}
use mathlib.Core.List.{◌++◌}
use lib.ListN.{drop}
use Rattle.bounded.specs.Bounded.{at, tab}
use Rattle.definitions.specs.Masking.{mask_cell}
use Rattle.masking.proofs.shift_all.Given as goal

abbrev pub invariant-loop-c : goal.invariant-loop-c
invariant-loop-c g l =
    l.symbols ≡ tab l.c (λ i. mask_cell g.W.Way.way l.p (at l.initial.symbols i) (at l.values i)) ++ drop l.c l.initial.symbols
