-- `trayseason::answer::answer` meets its contract: the room has one byte more than 64 windows. Assumes nothing.
use Rattle.std.proofs.Common.{◌≡◌, true, ◌*◌, ◌<◌, length, take, sym, ◌∙◌, arith}
use Rattle.definitions.specs.Dated.{dated}
use Rattle.definitions.proofs.Dated.{dated-length, dated-text, undated_text, room-season}
use Rattle.trayseason.proofs.answer.answer.Goals as goal
use Rattle.trayseason.proofs.answer.answer.Goals.{Else-not-is_dated}

-- an argument in the form of a date
form : (c : Else-not-is_dated) → dated c.args.word.now ≡ true
form c = sym c.is_dated.ensures ∙ c.if-not-is_dated.false

pub returns-then-not-is_dated : goal.returns-then-not-is_dated
returns-then-not-is_dated c =
    let none = undated_text c.args.word.now (sym c.is_dated.ensures ∙ c.if-not-is_dated.true) in
    record { decided = c.new.ensures ∙ sym (none _); whole = λ input h. none _ ∙ sym (none input) }

pub asked_date-requires : goal.asked_date-requires
asked_date-requires c = dated-length _ (form (goal.at.asked_date-requires c).Else-not-is_dated)

pub returns : goal.returns
returns c =
    let s = c.args in
    let l : 64 * 12 < length s.space.now = omega arith in
    let text = dated-text s.word.now (form (goal.at.returns c).Else-not-is_dated) (take s.came s.space.now) in
    record {
      decided = rw (c.first.ensures, c.asked_date.ensures, ← text) at c.answer_date.ensures;
      whole = λ input h. room-season s.word.now input s.space.now s.came l h;
    }
