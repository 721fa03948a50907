-- `sets::combining::cells` meets its contract: the cells before c are combined. Assumes nothing.
use mathlib.Core.Path.{◌≡◌}
use mathlib.Core.List.{◌++◌}
use lib.ListN.{length, drop}
use Rattle.bounded.specs.Bounded.{tab}
use Rattle.votes.specs.Votes.{symbol_of, doubt_of}
use Rattle.definitions.specs.Sets.{column}
use Rattle.sets.proofs.combining.cells.Given as goal

abbrev pub invariant-loop-c : goal.invariant-loop-c
invariant-loop-c l =
    (length l.doubts ≡ length l.initial.symbols)
    × (l.symbols ≡ tab l.c (λ c. symbol_of (column l.set c) 9) ++ drop l.c l.initial.symbols)
    × (l.doubts ≡ tab l.c (λ c. doubt_of l.full (column l.set c) 9) ++ drop l.c l.initial.doubts)
