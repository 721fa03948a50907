-- `trayread::answer::answer` meets its contract: the room has one byte more than the longest input. Assumes nothing.
use Prim.Native.Nat.{◌<◌}
use native.Mathlib.Omega.{arith}
use lib.ListN.{length}
use Rattle.definitions.specs.Tray.{longest}
use Rattle.definitions.proofs.Tray.{room-text}
use Rattle.trayread.proofs.answer.answer.Goals as goal

pub returns : goal.returns
returns c =
    let l : longest < length c.args.space.now = omega arith in record {
      decided = rw c.first.ensures at c.answer_input.ensures;
      whole = λ input h. room-text input c.args.space.now c.args.came l h;
    }
