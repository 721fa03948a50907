-- `reading::load::residue_row` meets its contract: the places below i are set, the others are 0. Assumes nothing.
use Rattle.bounded.specs.Bounded.{at}
use Rattle.field.proofs.Row.{Filled}
use Rattle.reading.specs.Loading.{residue}
use Rattle.reading.proofs.load.residue_row.Given as goal

abbrev pub invariant-loop-i : goal.invariant-loop-i
invariant-loop-i l = Filled (λ j. residue (at l.symbols j)) l.out l.i
