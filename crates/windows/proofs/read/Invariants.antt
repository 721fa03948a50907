-- `windows::read` meets its contract: the windows before k are without fault, and their spans are in place. Assumes nothing.
use Rattle.std.proofs.Common.{◌≡◌, false, length}
use Rattle.field.specs.Loop.{Upto}
use Rattle.windows.specs.Spans.{span_of, window_of, any_faulty}
use Rattle.windows.proofs.read.Given as goal

abbrev pub invariant-loop-k : goal.invariant-loop-k
invariant-loop-k l =
    (any_faulty l.windows l.k ≡ false)
    × Upto (length l.initial.spans) (record { first = 0; last = 0 }) (λ k s. s ≡ span_of (window_of l.windows k)) l.spans l.k
