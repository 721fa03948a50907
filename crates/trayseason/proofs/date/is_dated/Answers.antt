-- `trayseason::date::is_dated` meets its contract: by its length, or by its digits and hyphens. Assumes nothing.
use Rattle.definitions.proofs.Dated.{undated, dated_by}
use Rattle.trayseason.proofs.date.is_dated.Goals as goal

pub returns-then-word-ne-DATE_BYTES : goal.returns-then-word-ne-DATE_BYTES
returns-then-word-ne-DATE_BYTES c = undated _ c.if-word-ne-DATE_BYTES.true

pub returns : goal.returns
returns c =
    dated_by c.args.word.now c.if-word-ne-DATE_BYTES.false
    c.are_digits.ensures c.are_digits-2.ensures c.are_digits-3.ensures c.are_digits-4.ensures
