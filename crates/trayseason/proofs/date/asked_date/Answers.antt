-- `trayseason::date::asked_date` meets its contract: two digits at a time. Assumes nothing.
use Rattle.definitions.proofs.Dated.{asked_by}
use Rattle.trayseason.proofs.date.asked_date.Goals as goal

pub returns : goal.returns
returns c =
    asked_by c.args.word.now
    c.number_of-century.ensures.is c.number_of-year.ensures.is c.number_of.ensures.is c.number_of-2.ensures.is
