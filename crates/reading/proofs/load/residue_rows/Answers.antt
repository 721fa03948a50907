-- `reading::load::residue_rows` meets its contract: the rows are residues, and below the grid there are none. Assumes nothing.
use native.Mathlib.Omega.{arith}
use Rattle.std.proofs.Common.{rules}
use Rattle.field.proofs.Loop.{passed_rest}
use Rattle.bounded.proofs.Part.{row_in}
use Rattle.reading.proofs.Cells.{no_residues, residues_part}
use Rattle.reading.proofs.load.residue_rows.Goals as goal

pub returns : goal.returns
returns c =
    let a = c.args.a in
    let b = c.args.b in
    let s = c.args.symbols.now in
    let p = c.rows.ensures in
    passed_rest (record {
      size = p.size;
      done = λ r l. let h = p.done r l in residues_part b r s (search rules) (omega (arith, c.requires.2, row_in r a b l));
      todo = p.todo;
    }) λ r l. no_residues a b r s l c.requires.2
