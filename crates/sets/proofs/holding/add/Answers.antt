-- `sets::holding::add` meets its contract: the symbols of an accepted photograph are put into its place. Assumes nothing.
use mathlib.Core.Path.{refl, sym, ◌∙◌}
use native.Mathlib.Omega.{arith}
use Rattle.definitions.specs.Sets.{add_memory}
use Rattle.definitions.proofs.Numbers.{number-some}
use Rattle.sets.proofs.Refused.{add-accepted, keeps, gives}
use Rattle.sets.proofs.Memory.{put-photo}
use Rattle.sets.proofs.holding.add.Goals as goal

pub returns-in_err-arrival-clause-memory : goal.returns-in_err-arrival-clause-memory
unfolding add_memory
returns-in_err-arrival-clause-memory c =
    keeps _ _ _ c.in_err-arrival.ensures (number-some c.in_err-arrival.field-0.0)

pub bounds-set-k : goal.bounds-set-k
bounds-set-k c =
    let a = add-accepted _ _ _ _ (sym c.in_ok-arrival.ensures) in
    omega (arith, a.0)

pub returns-clause-memory : goal.returns-clause-memory
unfolding add_memory
returns-clause-memory c =
    put-photo c.args.set.now c.args.symbols.now _ c.args.k c.copy_from_slice.ensures.after
    ∙ gives _ _ _ c.in_ok-arrival.ensures refl

pub slice_bounds-copy_from_slice-end : goal.slice_bounds-copy_from_slice-end
slice_bounds-copy_from_slice-end c =
    let a = add-accepted _ _ _ _ (sym c.in_ok-arrival.ensures) in
    omega (arith, a.0, a.1)
