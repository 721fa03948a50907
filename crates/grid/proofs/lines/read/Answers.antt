-- `grid::lines::read` meets its contract: by the law of a line that was found. Assumes nothing.
use Rattle.grid.proofs.Answers.{answered-found}
use Rattle.grid.proofs.lines.read.Goals as goal

pub returns-in-Some : goal.returns-in-Some
returns-in-Some c =
    let R = c.requires.0 in
    let D = c.in-Some.ensures in
    answered-found R.axis R.doubts D.small D.strip
