-- The early answer of a mark.
--
--   doubts_refuse   doubts that come to the radius leave no record under it: refusal 10
--
-- What this file is for: a mark of which nothing is known is refused before it is loaded. Assumes nothing.
use mathlib.Core.Path.{◌≡◌}
use mathlib.Core.List.{List}
use Prim.Native.Nat.{ℕ, ◌*◌, ◌≤◌}
use native.Mathlib.Omega.{arith}
use lib.ListN.{length}
use Rattle.bounded.specs.Bounded.{at, sum}
use Rattle.definitions.specs.Plan.{rows, columns}
use Rattle.definitions.specs.Code.{oblong, value}
use Rattle.definitions.specs.Cost.{full, radius}
use Rattle.definitions.specs.Calls.{refused}
use Rattle.definitions.specs.Reads.{Reads}
use Rattle.definitions.proofs.Nearest.{cost_without, reads_none}
use Rattle.distance.proofs.Cost.{doubts-cost}
use Rattle.reading.specs.Loading.{Taken}

pub doubts_refuse : {P s u B : List ℕ} {R : ℕ} → Taken oblong P s u B → R ≡ radius oblong P → R ≤ sum (length u) (at u) →
    Reads oblong P s u B (refused 10) B
doubts_refuse {P} {s} {u} {B} t e h = reads_none oblong P s u B t.clear λ F f. cost_without oblong P s u F λ l. omega (
  arith,
  e,
  doubts-cost (full P) (rows P * columns P) (at s) (at u) (value oblong P F) (λ c l. (t.photo.doubt c l).0),
  rw t.photo.doubts at h,
)
