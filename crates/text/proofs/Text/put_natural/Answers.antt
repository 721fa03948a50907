-- `text::Text::put_natural` meets its contract: a number of 32 bits has at most ten digits. Assumes nothing.
use Rattle.std.proofs.Common.{arith}
use Rattle.definitions.proofs.Printed.{decimal-length}
use Rattle.text.proofs.Text.put_natural.Goals as goal

pub write_digits-end-requires : goal.write_digits-end-requires
write_digits-end-requires g c = decimal-length 9 c.args.n (omega arith)
