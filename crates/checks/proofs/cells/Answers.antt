-- `checks::cells` meets its contract: the symbols are looked at first, and then the doubts. Assumes nothing.
use mathlib.Core.Path.{refl, sym, ◌∙◌}
use Rattle.definitions.proofs.Numbers.{ends, ◌then◌, refused, decided}
use Rattle.checks.proofs.cells.Goals as goal

pub returns-in_err-when : goal.returns-in_err-when
returns-in_err-when c = ends _ _ (refused _ c.from_residual.ensures.1 c.in_err-when.ensures (sym c.is_strange.ensures) refl)

pub returns : goal.returns
returns c =
    let symbols = sym c.is_strange.ensures ∙ c.in_ok-when.ensures in
    ends _ _ (symbols then decided _ _ _ c.when-2.ensures (sym c.is_misdoubted.ensures) refl)
