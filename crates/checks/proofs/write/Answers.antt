-- `checks::write` meets its contract: at each return the tests before it failed, and its own holds. Assumes nothing.
use mathlib.Core.Path.{refl}
use Rattle.definitions.proofs.Numbers.{◌then◌, refused, decided}
use Rattle.checks.proofs.Tests.{writes, overflowing-said}
use Rattle.checks.proofs.write.Goals as goal

pub returns-in_err-when : goal.returns-in_err-when
returns-in_err-when g c =
    writes _ c.args.plan _ _ refl c.record_size.ensures
    (refused _ c.from_residual.ensures.1 c.in_err-when.ensures refl refl)

pub returns-in_err-when-2 : goal.returns-in_err-when-2
returns-in_err-when-2 g c =
    writes _ c.args.plan _ _ c.cell_count.ensures c.record_size.ensures
    (c.in_ok-when.ensures then refused _ c.from_residual-in_err-when-2.ensures.1 c.in_err-when-2.ensures refl refl)

pub returns : goal.returns
returns g c =
    let over = overflowing-said _ _ _ c.in_ok-when.ensures c.reaches.ensures in
    writes _ c.args.plan _ _ c.cell_count.ensures c.record_size.ensures
    (c.in_ok-when.ensures then c.in_ok-when-2.ensures then decided _ _ _ c.when-3.ensures over refl)
