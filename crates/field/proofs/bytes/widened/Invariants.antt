-- `field::bytes::widened` meets its contract: the bytes below i are loaded. Assumes nothing.
use mathlib.Core.Path.{◌≡◌}
use Rattle.bounded.specs.Bounded.{at}
use Rattle.field.specs.Loop.{Passed}
use Rattle.field.proofs.bytes.widened.Given as goal

abbrev pub invariant-loop-i : goal.invariant-loop-i
invariant-loop-i g l = Passed 16 l.fn.zero (λ _ v. v ≡ l.fn.zero) (λ j v. g.T.From.from_gives (at l.bytes j) v) l.out l.i
