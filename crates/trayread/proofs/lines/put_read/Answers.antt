-- `trayread::lines::put_read` meets its contract. Assumes nothing.
use Rattle.std.proofs.Common.{length, ap, append_assoc, length-append, arith}
use Rattle.definitions.specs.Printed.{read_line}
use Rattle.trayread.proofs.lines.put_read.Goals as goal

pub returns : goal.returns
unfolding read_line
returns c = record {
  line = rw (c.put_costs.ensures.line, c.put_counts.ensures.numbers, c.put_bytes.ensures) (simp append_assoc);
  most = omega (
    arith,
    c.put_costs.ensures.most,
    c.put_counts.ensures.most,
    simp length-append at (ap length c.put_bytes.ensures),
  );
}
