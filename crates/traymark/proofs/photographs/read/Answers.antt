-- `traymark::photographs::read` meets its contract: the plan is looked at first, and the buffers are as long as its mark.
-- Assumes nothing.
use mathlib.Core.Path.{refl, sym, ◌∙◌}
use Rattle.definitions.specs.Code.{oblong}
use Rattle.definitions.proofs.Numbers.{number-some}
use Rattle.writing.proofs.Room.{room_most, room-length}
use Rattle.traymark.proofs.Answer.{read-unsound, handed_reading}
use Rattle.traymark.proofs.photographs.read.Goals as goal

pub returns-in_err-said : goal.returns-in_err-said
returns-in_err-said c =
    let h = read-unsound _ _ _ _ _ c.in_err-said.ensures.number (number-some _) in
    record { reading = handed_reading _ _ c.from_residual.ensures.1 ∙ h.reading; bytes = h.buffer }

pub slice_bounds-symbols-end : goal.slice_bounds-symbols-end
slice_bounds-symbols-end c = room_most oblong c.in_ok-said.said.sound c.cell_count-n.ensures

pub slice_bounds-read_by-end : goal.slice_bounds-read_by-end
slice_bounds-read_by-end c = room-length oblong c.in_ok-said.said.sound c.cell_count-n.ensures

pub slice_bounds-doubts-end : goal.slice_bounds-doubts-end
slice_bounds-doubts-end c = room_most oblong c.in_ok-said.said.sound c.cell_count-n.ensures

pub slice_bounds-read_by-end-2 : goal.slice_bounds-read_by-end-2
slice_bounds-read_by-end-2 c = room-length oblong c.in_ok-said.said.sound c.cell_count-n.ensures

pub read_by-requires : goal.read_by-requires
read_by-requires c =
    let own = c.in_ok-said.ensures.plan in
    let count = c.cell_count-n.ensures in
    (own, c.requires, sym (room-length oblong c.in_ok-said.said.sound count) ∙ rw own at count, refl)
