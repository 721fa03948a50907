-- `trayread::answer::answer_mark` meets its contract: by the number of the reading. Assumes nothing.
use Rattle.trayread.proofs.Number.{refused-text, read-text}
use Rattle.trayread.proofs.answer.answer_mark.Goals as goal

pub returns-then-reading-ne0 : goal.returns-then-reading-ne0
returns-then-reading-ne0 c =
    let read = c.traymark_read_mark-reading in
    rw (← read.ensures.reading, refused-text _ read.result _ c.if-reading-ne0.true) c.refused.ensures

pub returns : goal.returns
returns c =
    let read = c.traymark_read_mark-reading in
    rw (← read.ensures.reading, read-text _ read.result _ c.if-reading-ne0.false, ← read.ensures.bytes)
    (rw (c.put_read.ensures.line, c.new-text.ensures) at c.put_record.ensures)
