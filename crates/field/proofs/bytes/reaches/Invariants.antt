-- `field::bytes::reaches` meets its contract: what is found is whether one of the bytes before this one is such. Assumes nothing.
use mathlib.Core.Path.{◌≡◌}
use lib.Dec.{leb}
use Rattle.bounded.specs.Bounded.{at, any}
use Rattle.field.proofs.bytes.reaches.Given as goal

abbrev pub invariant-loop-byte : goal.invariant-loop-byte
invariant-loop-byte l = l.found ≡ any l.byte-index λ j. leb l.bound (at l.bytes j)
