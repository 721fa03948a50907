-- `checks::add` meets its contract: at each return the tests before it failed, and its own holds. Assumes nothing.
use mathlib.Core.Path.{refl}
use Rattle.definitions.proofs.Numbers.{◌then◌, refused}
use Rattle.checks.proofs.Tests.{adds, cells-said}
use Rattle.checks.proofs.add.Goals as goal

pub returns-in_err-when : goal.returns-in_err-when
returns-in_err-when c = λ same.
    adds _ c.args.plan same _ _ _ c.cell_count-n.ensures refl
    (refused _ c.from_residual.ensures.1 c.in_err-when.ensures refl refl)

pub returns-in_err-when-2 : goal.returns-in_err-when-2
returns-in_err-when-2 c = λ same.
    adds _ c.args.plan same _ _ _ c.cell_count-n.ensures refl
    (c.in_ok-when.ensures then refused _ c.from_residual-in_err-when-2.ensures.1 c.in_err-when-2.ensures refl refl)

pub returns-in_err-when-3 : goal.returns-in_err-when-3
returns-in_err-when-3 c = λ same.
    let last = refused _ c.from_residual-in_err-when-3.ensures.1 c.in_err-when-3.ensures refl refl in
    adds _ c.args.plan same _ _ _ c.cell_count-n.ensures refl
    (c.in_ok-when.ensures then c.in_ok-when-2.ensures then last)

pub returns-in_err-when-4 : goal.returns-in_err-when-4
returns-in_err-when-4 c = λ same.
    let last = refused _ c.from_residual-in_err-when-4.ensures.1 c.in_err-when-4.ensures refl refl in
    adds _ c.args.plan same _ _ _ c.cell_count-n.ensures refl
    (c.in_ok-when.ensures then c.in_ok-when-2.ensures then c.in_ok-when-3.ensures then last)

pub returns : goal.returns
returns c = λ same.
    let last = cells-said _ _ _ _ _ c.in_ok-when.ensures c.cells.ensures in
    adds _ c.args.plan same _ _ _ c.cell_count-n.ensures refl
    (c.in_ok-when.ensures then c.in_ok-when-2.ensures then c.in_ok-when-3.ensures then c.in_ok-when-4.ensures then last)
