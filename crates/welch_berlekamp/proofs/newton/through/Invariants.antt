-- `welch_berlekamp::newton::through` meets its contract: i cells were taken, and while that is at most k, a cell is left.
-- Assumes nothing.
use mathlib.Core.Path.{◌≡◌}
use mathlib.Core.List.{List}
use Prim.Native.Nat.{ℕ, ◌*◌, ◌-◌, ◌%◌, ◌<◌}
use Rattle.bounded.specs.Bounded.{at}
use Rattle.field.specs.Row.{row}
use Rattle.welch_berlekamp.specs.Newton.{Enough, Fits}
use Rattle.welch_berlekamp.proofs.newton.through.Given as goal

abbrev pub invariant-loop-i : goal.invariant-loop-i
invariant-loop-i l = record {
  few : l.k < 16;
  fits : (n : ℕ) (y : List ℕ) → Enough l.p n l.k l.x l.initial.left →
      l.initial.rest ≡ row (λ j. (l.p - 1) * at y j % l.p) → Fits l.p n l.k l.x y l.initial.left l.i (record {
        rest = l.rest;
        product = l.product;
        slopes = l.slopes;
        nodes = l.nodes;
        entered = l.entered;
        keys = l.left;
      });
}
