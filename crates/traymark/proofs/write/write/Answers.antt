-- `traymark::write::write` meets its contract: the checks come first, and after them the one call below writes. Assumes nothing.
use mathlib.Core.Path.{refl, sym, ◌∙◌}
use Rattle.definitions.proofs.Accepted.{accepted_writing}
use Rattle.definitions.proofs.Numbers.{number-some, handed}
use Rattle.traymark.proofs.Answer.{write-unsound, write_keeps, write_fills}
use Rattle.traymark.proofs.write.write.Goals as goal

pub returns-in_err-said : goal.returns-in_err-said
returns-in_err-said g c =
    let h = write-unsound _ _ _ _ c.in_err-said.ensures.number (number-some _) in
    record { number = handed _ _ c.from_residual.ensures.1 ∙ h.0; bytes = h.1 }

pub returns-in_err-write : goal.returns-in_err-write
returns-in_err-write g c =
    let n = rw c.in_ok-said.ensures.plan at c.in_err-write.ensures in
    record {
      number = handed _ _ c.from_residual-in_err-write.ensures.1 ∙ n;
      bytes = write_keeps _ _ _ _ n (number-some _);
    }

pub write-requires-2 : goal.write-requires-2
write-requires-2 g c = accepted_writing _ _ _ _ (sym c.in_ok-write.ensures)

pub returns : goal.returns
returns g c =
    let own = c.in_ok-said.ensures.plan in
    let n = rw own at c.in_ok-write.ensures in
    record { number = n; bytes = rw own at c.write-2.ensures ∙ write_fills _ _ _ _ n refl }
