-- `field::bytes::reaches` meets its contract: what is found is whether one of the bytes before this one is such. Assumes nothing.
use mathlib.Core.Path.{refl, sym}
use Rattle.bounded.proofs.Any.{any-start, any_next}
use Rattle.field.proofs.bytes.reaches.Goals as goal

pub loop-byte-init : goal.loop-byte-init
loop-byte-init c = sym (any-start _)

pub loop-byte-preserved : goal.loop-byte-preserved
loop-byte-preserved c = any_next _ _ c.loop-byte.invariant refl
