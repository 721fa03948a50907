-- `traywhy::lines::other` meets its contract: OTHER with its number has at most 17 bytes. Assumes nothing.
use Rattle.std.proofs.Common.{arith}
use Rattle.traywhy.proofs.lines.other.Goals as goal

pub put_record-requires : goal.put_record-requires
put_record-requires c =
    let most = rw c.new-text.ensures at c.put_line.ensures.most in
    omega (arith, c.requires, most)

pub returns : goal.returns
returns c = rw (c.put_line.ensures.line, c.new-text.ensures) at c.put_record.ensures
