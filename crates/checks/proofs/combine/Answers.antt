-- `checks::combine` meets its contract: at each return the tests before it failed, and its own holds. Assumes nothing.
use mathlib.Core.Path.{refl}
use Rattle.definitions.proofs.Numbers.{◌then◌, refused, decided}
use Rattle.checks.proofs.Tests.{combines}
use Rattle.checks.proofs.combine.Goals as goal

pub returns-in_err-when : goal.returns-in_err-when
returns-in_err-when c S own =
    combines _ c.args.plan own _ _ c.cell_count-n.ensures refl
    (refused _ c.from_residual.ensures.1 c.in_err-when.ensures refl refl)

pub returns : goal.returns
returns c S own =
    combines _ c.args.plan own _ _ c.cell_count-n.ensures refl
    (c.in_ok-when.ensures then decided _ _ _ c.when-2.ensures refl refl)
