-- `sets::holding::start` meets its contract: plan, flags and symbols are written, part by part. Assumes nothing.
use mathlib.Core.Path.{refl, sym, ◌∙◌}
use native.Mathlib.Omega.{arith}
use lib.Seq.{length-take-le}
use Rattle.definitions.specs.Sets.{start_memory}
use Rattle.definitions.proofs.Numbers.{number-some}
use Rattle.definitions.proofs.Sound.{sound}
use Rattle.sets.proofs.Refused.{keeps, gives}
use Rattle.sets.proofs.Memory.{put-started}
use Rattle.sets.proofs.holding.start.Goals as goal

pub returns-in_err-check-clause-memory : goal.returns-in_err-check-clause-memory
unfolding start_memory
returns-in_err-check-clause-memory c = keeps _ _ _ c.in_err-check.ensures (number-some c.in_err-check.field-0.0)

pub returns-clause-memory : goal.returns-clause-memory
unfolding start_memory
returns-clause-memory c =
    let e = c.in_ok-check.ensures in
    put-started c.args.set.now c.args.plan.now _ _ _ _ _ c.requires (sound _ (sym e)).whole
    c.copy_from_slice.ensures.after (omega arith) c.fill.ensures (omega arith)
    c.fill-2.ensures ∙ gives _ _ _ e refl

pub copy_from_slice-requires : goal.copy_from_slice-requires
copy_from_slice-requires c =
    let whole = (sound _ (sym c.in_ok-check.ensures)).whole in
    omega (arith, whole, length-take-le 40 c.args.set.now (omega (arith, c.requires)))
