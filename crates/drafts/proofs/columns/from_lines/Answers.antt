-- `drafts::columns::from_lines` meets its contract: what is exchanged are residues. Assumes nothing.
use Rattle.grid.proofs.Answers.{positive}
use Rattle.drafts.proofs.columns.from_lines.Goals as goal

pub returns : goal.returns
returns c = c.exchange.ensures _ (positive c.args.g) c.change_to_powers.ensures c.requires.3
