-- `reed_muller::decoder::decode` meets its contract: by the laws of its two outcomes. Assumes nothing.
use Rattle.polynomial.proofs.Powers.{zero-rows}
use Rattle.grid.proofs.Answers.{positive}
use Rattle.reed_muller.proofs.Outcome.{outcome_none, outcome_found}
use Rattle.reed_muller.proofs.decoder.decode.Goals as goal

pub solve-requires : goal.solve-requires
solve-requires c = let (symbols, doubts, I, _) = c.requires in (I, symbols, doubts, zero-rows (positive c.args.g))

pub returns-in_err-cost : goal.returns-in_err-cost
returns-in_err-cost c = rw c.from_residual.ensures (outcome_none c.in_err-cost.ensures, c.requires.3)

pub returns : goal.returns
returns c = (outcome_found c.in_ok-cost.ensures c.flatten.ensures, c.flatten.ensures.size)
