-- `traymark::mask::mask` meets its contract: the checks come first, and after them the one call below masks. Assumes nothing.
use mathlib.Core.Path.{refl, sym, ◌∙◌}
use Rattle.definitions.proofs.Accepted.{mask-refused, accepted_masking}
use Rattle.definitions.proofs.Masking.{mask-keeps, mask_fills}
use Rattle.definitions.proofs.Numbers.{number-some, handed}
use Rattle.traymark.proofs.mask.mask.Goals as goal

pub returns-in_err-said : goal.returns-in_err-said
returns-in_err-said g c =
    let n = mask-refused _ _ _ _ _ c.in_err-said.ensures.number (number-some _) in
    record { number = handed _ _ c.from_residual.ensures.1 ∙ n; bytes = mask-keeps _ _ _ _ _ n (number-some _) }

pub returns-in_err-mask : goal.returns-in_err-mask
returns-in_err-mask g c =
    let n = rw c.in_ok-said.ensures.plan at c.in_err-mask.ensures in
    record {
      number = handed _ _ c.from_residual-in_err-mask.ensures.1 ∙ n;
      bytes = mask-keeps _ _ _ _ _ n (number-some _);
    }

pub mask-requires-2 : goal.mask-requires-2
mask-requires-2 g c = accepted_masking _ _ _ _ (sym c.in_ok-mask.ensures)

pub returns : goal.returns
returns g c =
    let own = c.in_ok-said.ensures.plan in
    let n = rw own at c.in_ok-mask.ensures in
    record { number = n; bytes = rw own at c.mask-2.ensures ∙ mask_fills _ _ _ _ _ n refl }
