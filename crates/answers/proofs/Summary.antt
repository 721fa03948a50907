-- What is told of a record is its reading.
--
--   few-cells       a photograph has few enough cells for the answer to count
--   unread-within   of the cells that differ from its mark, those that were not read are some
--   summary-is      with its cost, and with how many cells differ from its mark, all is told
--
-- What this file is for: measuring and reading compare cells, and leave it to the answer to count the unread ones apart. Assumes
-- nothing.
use mathlib.Core.Path.{◌≡◌}
use mathlib.Core.List.{List}
use Prim.Native.Nat.{ℕ, ◌-◌, ◌≤◌}
use native.Mathlib.Omega.{arith}
use lib.ListN.{length}
use Rattle.bounded.specs.Bounded.{at}
use Rattle.distance.specs.Cost.{hamming}
use Rattle.definitions.specs.Code.{Code, cells, value}
use Rattle.definitions.specs.Cost.{radius}
use Rattle.definitions.specs.Calls.{cost_of, changed_of, unread_of, reading_of}
use Rattle.definitions.specs.Photograph.{Photograph}
use Rattle.definitions.proofs.Sound.{cells-most}
use Rattle.definitions.proofs.Counts.{differing_split}
use Rattle.answers.specs.Summary.{unread_in, summary}

pub few-cells : (C : Code) {P s u : List ℕ} → Photograph C P s u → length s ≤ 65535
few-cells C photo = omega (arith, photo.symbols, cells-most C photo.sound)

module _ {C : Code} {P s u : List ℕ} (F : List ℕ) (photo : Photograph C P s u) {n : ℕ}
    (differing : n ≡ hamming (cells C P) (at s) (value C P F)) where
  pub unread-within : unread_in s ≤ n
  unread-within = rw photo.symbols (omega (arith, differing, differing_split photo.sound C s F))

  pub summary-is : {R D : ℕ} → R ≡ radius C P → D ≡ cost_of C P s u F → summary R D n s ≡ reading_of C P s u F
  unfolding reading_of
  summary-is e f =
      let changed : n - unread_of C P s ≡ changed_of C P s F = omega (arith, differing, differing_split photo.sound C s F) in
      rw (e, f, photo.symbols, changed)
