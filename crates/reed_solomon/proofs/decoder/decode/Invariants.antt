-- `reed_solomon::decoder::decode` meets its contract: what is known before each cell that enters, and so before each level.
-- Assumes nothing.
use mathlib.Core.Path.{◌≡◌}
use Prim.Native.Nat.{◌-◌, ◌/◌, ◌≤◌}
use Rattle.std.specs.Prelude.{None}
use Rattle.welch_berlekamp.specs.Order.{taken}
use Rattle.reed_solomon.specs.Near.{RefutedBelow}
use Rattle.reed_solomon.proofs.Levels.{Going}
use Rattle.reed_solomon.proofs.decoder.decode.Given as goal

abbrev pub invariant-levels : goal.invariant-levels
invariant-levels l = record {
  none : l.found ≡ None;
  going : Going l.g l.s l.u l.all l.keys l.next l.pairs;
  passed : RefutedBelow l.g l.s l.u (l.next / 16);
}

abbrev pub decreases-levels : goal.decreases-levels
decreases-levels l = taken - l.next

abbrev pub invariant-loop-next : goal.invariant-loop-next
invariant-loop-next l = record {
  none : l.found ≡ None;
  going : Going l.g l.s l.u l.all l.keys l.next l.pairs;
  passed : RefutedBelow l.g l.s l.u (l.next / 16);
  later : l.level ≤ l.next / 16;
}

abbrev pub decreases-loop-next : goal.decreases-loop-next
decreases-loop-next l = taken - l.next
