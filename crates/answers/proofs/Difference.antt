-- The difference of two numbers below 2^31, kept in an i32.
--
--   margin-is   it is the margin
--
-- What this file is for: the margin R - D. Assumes nothing.
use mathlib.Core.Path.{◌≡◌}
use mathlib.Core.Bool.{Bool, true, false, cond}
use Prim.Native.Nat.{ℕ, zero, suc, ◌-◌, ◌<◌, ◌^◌}
use native.Mathlib.Omega.{arith}
use lib.Dec.{ltb}
use lib.IntN.{pos, negsuc, ◌-ℤ◌}
use lib.Signed.{mag}
use mir.Syntax.{w32}
use mir.Val.{SFits, to_z, of_z}
use mir.Facts.{to_z_pos, to_z-of_z}
use Rattle.definitions.specs.Cost.{margin}

by_sign : (t : Bool) (a b : ℕ) → a < 2147483648 → suc b < 2147483648 →
    mag (cond t (negsuc (suc b - suc a)) (pos (a - suc b))) < 2 ^ 31
by_sign true a b i l = omega arith
by_sign false a b i l = omega arith

difference-fits : (a b : ℕ) → a < 2147483648 → b < 2147483648 → SFits w32 (pos a -ℤ pos b)
difference-fits a zero i l = record { sfits = omega arith }
difference-fits a (suc b) i l = record { sfits = by_sign (ltb a (suc b)) a b i l }

module _ (a b : ℕ) (i : a < 2147483648) (l : b < 2147483648) where
  signed : to_z w32 a -ℤ to_z w32 b ≡ pos a -ℤ pos b
  signed = rw (to_z_pos w32 {n = a} (omega arith), to_z_pos w32 {n = b} (omega arith))

  -- what the subtraction gives
  pub margin-is : to_z w32 (of_z w32 (to_z w32 a -ℤ to_z w32 b)) ≡ margin a b
  unfolding margin
  margin-is = rw signed (to_z-of_z (difference-fits a b i l))
