-- `widening::widen_plans` meets its contract: the first k plans are widened. Assumes nothing.
use mathlib.Core.Path.{◌≡◌, refl, ap, ◌∙◌}
use mathlib.Core.List.{[]}
use Prim.Native.Nat.{◌/◌}
use native.Mathlib.Omega.{arith}
use lib.ListN.{length, get_or}
use Rattle.bounded.specs.Bounded.{tab}
use Rattle.bounded.proofs.Tab.{tab-whole}
use Rattle.bounded.proofs.Part.{row_more, chunk-at}
use Rattle.definitions.specs.Widening.{widened, widened_all}
use Rattle.definitions.proofs.Widening.{wide_byte, widened-row}
use Rattle.widening.proofs.widen_plans.Goals as goal

pub loop-k-init : goal.loop-k-init
unfolding tab
loop-k-init c = refl

pub loop-k-preserved : goal.loop-k-preserved
loop-k-preserved c =
    let old = c.args.old.now in
    let k = c.loop-k.k in
    let plan = ap (λ plans. get_or plans k []) c.as_chunks.ensures.front ∙ chunk-at 24 (length old / 24) k old (omega arith) in
    row_more 40 k (wide_byte old) c.args.wide.now c.loop-k.wide _ c.loop-k.invariant
    (c.copy_from_slice.ensures.after ∙ c.widened.ensures ∙ ap widened plan ∙ widened-row old k)

pub returns : goal.returns
unfolding widened_all
returns c =
    let e : c.loop-k.k ≡ length c.args.old.now / 24 = omega arith in
    rw e at c.loop-k.invariant ∙ tab-whole _ _ c.args.wide.now c.requires
