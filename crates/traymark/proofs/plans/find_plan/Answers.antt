-- `traymark::plans::find_plan` meets its contract: where nothing is found the part is empty, at the start of the file. Assumes
-- nothing.
use mathlib.Core.Path.{sym, ◌∙◌}
use Rattle.definitions.proofs.Finder.{nowhere}
use Rattle.definitions.proofs.Numbers.{number-some}
use Rattle.traymark.proofs.plans.find_plan.Goals as goal

pub returns-in-Err : goal.returns-in-Err
returns-in-Err c =
    let e = c.in-Err.ensures in
    let none = nowhere _ _ (λ z. number-some _ (e.number ∙ z)) in
    record { number = c.number.ensures ∙ e.number; address = rw none.0; bytes = sym none.1 }
