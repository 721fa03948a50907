-- `field::bytes::store` meets its contract: the places below j are written. Assumes nothing.
use mathlib.Core.Path.{refl}
use Prim.Native.Nat.{◌<◌}
use native.Mathlib.Omega.{arith}
use lib.ListN.{length}
use Rattle.bounded.specs.Bounded.{tab}
use Rattle.bounded.proofs.Tab.{tab-more}
use Rattle.field.proofs.bytes.store.Goals as goal

pub loop-j-init : goal.loop-j-init
unfolding tab
loop-j-init c = refl

pub loop-j-preserved : goal.loop-j-preserved
loop-j-preserved c =
    let l = c.loop-j in
    let h : l.j < length c.args.part.now = omega arith in
    rw l.invariant (tab-more _ _ _ h)
