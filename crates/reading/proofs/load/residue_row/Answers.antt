-- `reading::load::residue_row` meets its contract: the places below i are set, the others are 0. Assumes nothing.
use mathlib.Core.Path.{ap}
use native.Mathlib.Omega.{arith}
use Rattle.field.proofs.Row.{filled_row, beyond}
use Rattle.reading.specs.Loading.{residue}
use Rattle.reading.proofs.load.residue_row.Goals as goal

pub returns : goal.returns
returns c =
    let symbols = c.args.symbols.now in
    filled_row (λ j l. ap residue (beyond symbols j (omega arith))) c.loop-i.invariant
