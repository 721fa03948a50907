-- How far an i32 is from 0, and its sign in print.
--
--   abs_small    the distance fits 32 bits
--   minus-text   below 0 the text is the sign and the digits of the distance
--   plain_text   not below 0 it is the digits
--
-- What this file is for: a signed number is put by its sign and its distance, as it is kept in 32 bits. Assumes nothing.
use mathlib.Core.Path.{◌≡◌, refl, subst}
use mathlib.Core.Bool.{true, false}
use mathlib.Core.List.{◌∷◌}
use Prim.Native.Nat.{◌<◌, ◌^◌}
use native.Mathlib.Omega.{arith}
use lib.Dec.{T}
use lib.IntN.{ℤ, pos, negsuc, nat_abs}
use lib.Signed.{mag, lt_z}
use borrow.Author.Tests.{ltb-true}
use mir.Syntax.{w32}
use mir.Val.{SFits, to_z, of_z}
use mir.Facts.{to_z-of_z}
use Rattle.definitions.specs.Printed.{decimal, minus, signed}

-- a signed number as it is kept in 32 bits
abbrev in32 : ℤ → ℤ
in32 z = to_z w32 (of_z w32 z)

pub abs_small : (z : ℤ) → mag z < 2 ^ 31 → nat_abs z < 2 ^ 32
abs_small (pos n) h = omega arith
abs_small (negsuc n) h = omega arith

signed_below : (z : ℤ) → lt_z z (pos 0) ≡ true → signed z ≡ minus ∷ decimal (nat_abs z)
unfolding signed
signed_below (pos n) e = absurd (omega (arith, ltb-true n 0 e))
signed_below (negsuc n) e = refl

signed_rest : (z : ℤ) → lt_z z (pos 0) ≡ false → signed z ≡ decimal (nat_abs z)
unfolding signed
signed_rest (pos n) e = refl
signed_rest (negsuc n) e = absurd (subst T e tt)

module _ (z : ℤ) (h : SFits w32 z) where
  pub minus-text : lt_z (in32 z) (pos 0) ≡ true → signed z ≡ minus ∷ decimal (nat_abs (in32 z))
  minus-text e = rw (to_z-of_z h) (signed_below z (rw (to_z-of_z h) at e))

  pub plain_text : lt_z (in32 z) (pos 0) ≡ false → signed z ≡ decimal (nat_abs (in32 z))
  plain_text e = rw (to_z-of_z h) (signed_rest z (rw (to_z-of_z h) at e))
