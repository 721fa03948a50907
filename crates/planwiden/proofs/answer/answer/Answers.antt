-- `planwiden::answer::answer` meets its contract: the room has one byte more than 1,000 plans. Assumes nothing.
use Rattle.std.proofs.Common.{◌*◌, ◌<◌, length, arith}
use Rattle.definitions.specs.Widening.{narrow_bytes, most_plans}
use Rattle.definitions.proofs.Widening.{room-widened}
use Rattle.planwiden.proofs.answer.answer.Goals as goal

pub returns-clause-whole : goal.returns-clause-whole
returns-clause-whole c =
    let l : most_plans * narrow_bytes < length c.args.space.now = omega arith in
    λ input h. room-widened input _ c.args.came l h
