-- `traymark::read::read` meets its contract: the checks come first, and after them the one call below reads. Assumes nothing.
use mathlib.Core.Path.{refl, ◌∙◌}
use Rattle.definitions.proofs.Numbers.{number-some}
use Rattle.traymark.proofs.Answer.{read-unsound, read-refuses, read_takes, handed_reading}
use Rattle.traymark.proofs.read.read.Goals as goal

pub returns-in_err-said : goal.returns-in_err-said
returns-in_err-said g c =
    let h = read-unsound _ _ _ _ _ c.in_err-said.ensures.number (number-some _) in
    record { reading = handed_reading _ _ c.from_residual.ensures.1 ∙ h.reading; bytes = h.buffer }

pub returns-in_err-photograph : goal.returns-in_err-photograph
returns-in_err-photograph g c =
    let h = read-refuses _ _ _ _ _ (rw c.in_ok-said.ensures.plan at c.in_err-photograph.ensures) (number-some _) in
    record { reading = handed_reading _ _ c.from_residual-in_err-photograph.ensures.1 ∙ h.reading; bytes = h.buffer }

pub read-requires : goal.read-requires
read-requires g c = read_takes _ _ _ _ _ c.in_ok-photograph.ensures refl

pub returns : goal.returns
returns g c =
    let h = rw c.in_ok-said.ensures.plan at c.read.ensures.reads in
    record { reading = h.reading; bytes = h.buffer }
