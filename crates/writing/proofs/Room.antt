-- Room of 256 bytes for the cells of a mark or a strip.
--
--   room n        its part for n cells, as it is before anything is written
--   room_most     there are at most so many cells
--   room-length   the part for n cells has n bytes
--
-- What this file is for: a mark that is written for a call's own use. Assumes nothing.
use mathlib.Core.Path.{◌≡◌}
use mathlib.Core.List.{List}
use Prim.Native.Nat.{ℕ, ◌≤◌}
use native.Mathlib.Omega.{arith}
use lib.ListN.{length, take, replicate, length-take}
use Rattle.definitions.specs.Code.{Code, cells}
use Rattle.definitions.specs.Sound.{Sound}
use Rattle.definitions.proofs.Sound.{cells-most}

abbrev pub room : ℕ → List ℕ
room n = take n (replicate 256 0)

module _ (C : Code) {P : List ℕ} (S : Sound P) {n : ℕ} (e : n ≡ cells C P) where
  pub room_most : n ≤ 256
  room_most = omega (arith, e, cells-most C S)

  pub room-length : n ≡ length (room n)
  room-length = rw length-take (omega (arith, room_most))
