-- `traywhy::lines::answer` meets its contract. Assumes nothing.
use Rattle.std.proofs.Common.{arith}
use Rattle.definitions.specs.Printed.{answer_line}
use Rattle.traywhy.proofs.lines.answer.Goals as goal

pub put_costs-requires : goal.put_costs-requires
put_costs-requires c = rw (c.put_bytes.ensures, c.new-text.ensures) (omega arith)

pub returns : goal.returns
unfolding answer_line
returns c = rw (c.put_bytes.ensures, c.new-text.ensures) at c.put_costs.ensures.line
