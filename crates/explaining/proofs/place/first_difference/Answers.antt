-- `explaining::place::first_difference` meets its contract: none of the first c places differs. Assumes nothing.
use mathlib.Core.Path.{◌≡◌, sym}
use native.Mathlib.Omega.{arith}
use lib.ListN.{length}
use Rattle.bounded.proofs.Any.{any-start, any-more}
use Rattle.bounded.proofs.Index.{index_is, index-none}
use Rattle.definitions.proofs.Refusals.{equal, unequal}
use Rattle.explaining.proofs.place.first_difference.Goals as goal

pub loop-c-init : goal.loop-c-init
loop-c-init c = any-start _

pub returns-then-byte-b : goal.returns-then-byte-b
returns-then-byte-b c =
    sym (index_is _ _ c.loop-c.c (omega arith) c.loop-c.invariant (unequal _ _ c.if-byte-b.true))

pub loop-c-preserved : goal.loop-c-preserved
loop-c-preserved c = any-more _ _ c.loop-c.invariant (equal _ _ c.if-byte-b.false)

pub returns : goal.returns
returns c =
    let e : c.loop-c.c ≡ length c.args.a.now = omega arith in
    sym (index-none _ _ (rw e at c.loop-c.invariant))
