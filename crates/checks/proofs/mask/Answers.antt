-- `checks::mask` meets its contract: at each return the tests before it failed, and its own holds. Assumes nothing.
use mathlib.Core.Path.{refl, ◌∙◌}
use Rattle.definitions.proofs.Numbers.{◌then◌, refused, decided}
use Rattle.checks.proofs.Tests.{masks, strange-said, overflowing-said}
use Rattle.checks.proofs.mask.Goals as goal

pub returns-in_err-when : goal.returns-in_err-when
returns-in_err-when g c =
    masks _ c.args.plan _ _ refl c.record_size.ensures
    (refused _ c.from_residual.ensures.1 c.in_err-when.ensures refl refl)

pub returns-in_err-when-2 : goal.returns-in_err-when-2
returns-in_err-when-2 g c =
    masks _ c.args.plan _ _ c.cell_count.ensures c.record_size.ensures
    (c.in_ok-when.ensures then refused _ c.from_residual-in_err-when-2.ensures.1 c.in_err-when-2.ensures refl refl)

pub returns-in_err-when-3 : goal.returns-in_err-when-3
returns-in_err-when-3 g c =
    let strange = strange-said _ _ _ c.in_ok-when-2.ensures c.is_strange.ensures in
    let last = refused _ c.from_residual-in_err-when-3.ensures.1 c.in_err-when-3.ensures strange refl in
    masks _ c.args.plan _ _ c.cell_count.ensures c.record_size.ensures
    (c.in_ok-when.ensures then c.in_ok-when-2.ensures then last)

pub returns : goal.returns
returns g c =
    let strange = strange-said _ _ _ c.in_ok-when-2.ensures c.is_strange.ensures in
    let over = overflowing-said _ _ _ c.in_ok-when.ensures c.reaches.ensures in
    let last = decided _ _ _ c.when-4.ensures over refl in
    masks _ c.args.plan _ _ c.cell_count.ensures c.record_size.ensures
    (c.in_ok-when.ensures then c.in_ok-when-2.ensures then (strange ∙ c.in_ok-when-3.ensures) then last)
