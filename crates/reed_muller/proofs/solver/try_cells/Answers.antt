-- `reed_muller::solver::try_cells` meets its contract: by the law of a draft of all columns. Assumes nothing.
use Rattle.reed_muller.proofs.Drafts.{drawn_drafted}
use Rattle.reed_muller.proofs.solver.try_cells.Goals as goal

pub returns : goal.returns
returns c = drawn_drafted c.requires.1 c.from_cells.ensures c.complete.ensures
