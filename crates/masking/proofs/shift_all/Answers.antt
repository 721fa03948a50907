-- `masking::shift_all` meets its contract: the symbols below c are masked, the others as they were. Assumes nothing.
use mathlib.Core.Path.{refl}
use Prim.Native.Nat.{◌<◌}
use native.Mathlib.Omega.{arith}
use lib.ListN.{length}
use Rattle.bounded.specs.Bounded.{tab}
use Rattle.bounded.proofs.Tab.{tab-next, tab-more}
use Rattle.masking.proofs.shift_all.Goals as goal

pub loop-c-init : goal.loop-c-init
unfolding tab
loop-c-init g c = refl

pub loop-c-preserved : goal.loop-c-preserved
loop-c-preserved g c =
    let l = c.loop-c in
    let h : l.c < length c.args.symbols.now = omega arith in
    rw (c.masked_symbol.ensures, l.invariant, tab-next _ _ _ h) (tab-more _ _ _ h)
