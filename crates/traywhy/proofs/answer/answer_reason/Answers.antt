-- `traywhy::answer::answer_reason` meets its contract: the lines of each reason. Assumes nothing.
use Rattle.traywhy.proofs.answer.answer_reason.Goals as goal

-- a refusal, the expected record, another, none
pub returns-in-Refused : goal.returns-in-Refused
returns-in-Refused c = rw (← c.explain_mark.ensures.reason, c.in-Refused.is) c.refused.ensures

pub returns-in-Answer : goal.returns-in-Answer
returns-in-Answer c =
    rw (← c.explain_mark.ensures.reason, c.in-Answer.is, ← c.traymark_measure_mark.ensures) c.answer.ensures

pub returns-in-Other : goal.returns-in-Other
returns-in-Other c =
    let told = c.explain_mark.ensures in
    rw (← told.reason, c.in-Other.is, ← told.buffer) c.other.ensures

pub returns-in-Nothing : goal.returns-in-Nothing
returns-in-Nothing c = rw (← c.explain_mark.ensures.reason, c.in-Nothing.is) c.none.ensures
