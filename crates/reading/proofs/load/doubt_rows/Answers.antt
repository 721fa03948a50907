-- `reading::load::doubt_rows` meets its contract: the rows are the grid's, and below it there is nothing. Assumes nothing.
use native.Mathlib.Omega.{arith}
use Rattle.std.proofs.Common.{rules}
use Rattle.field.proofs.Loop.{passed_rest}
use Rattle.bounded.proofs.Part.{row_in}
use Rattle.reading.proofs.Cells.{no_line, part_line}
use Rattle.reading.proofs.load.doubt_rows.Goals as goal

pub returns : goal.returns
returns c =
    let a = c.args.a in
    let b = c.args.b in
    let u = c.args.doubts.now in
    let p = c.rows.ensures in
    passed_rest (record {
      size = p.size;
      done = λ r l. let h = p.done r l in part_line b r u (search rules) (omega (arith, c.requires.2, row_in r a b l));
      todo = p.todo;
    }) λ r l. no_line a b r u l c.requires.2
