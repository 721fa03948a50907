-- What measuring, reading and writing tell of an expected record.
--
--   measured-cost     the cost in the reading of a record is its cost
--   expecting_takes   a photograph of which a record is expected is taken by the reader
--   none-number       the refusal that no record is near has a number
--   excess_told       the excess by the cost and the radius that were worked out
--
-- What this file is for: the explainer's steps in the words of the definitions. Assumes nothing.
use mathlib.Core.Path.{◌≡◌, ap}
use mathlib.Core.List.{List}
use Prim.Native.Nat.{ℕ, ◌-◌}
use native.Mathlib.Omega.{arith}
use Rattle.definitions.specs.declared.Reading.{Reading}
use Rattle.definitions.specs.declared.Reason.TheVariants.{Nothing}
use Rattle.definitions.specs.declared.Refusal.{Refusal}
use Rattle.definitions.specs.declared.Refusal.TheVariants.{NoneNear}
use Rattle.definitions.specs.Code.{Code}
use Rattle.definitions.specs.Cost.{radius}
use Rattle.definitions.specs.Calls.{cost_of, reading_of}
use Rattle.definitions.specs.Accepted.{Expecting}
use Rattle.definitions.specs.Numbers.{number}
use Rattle.definitions.specs.Reads.{Explains}
use Rattle.definitions.proofs.Photograph.{photo-accepted}
use Rattle.reading.specs.Loading.{Taken}
use Rattle.reading.proofs.Loading.{taken}

pub none-number : {r : Refusal} → r ≡ NoneNear → number r ≡ 0 → ⊥
none-number e = rw e λ z. omega (arith, z)

module _ {C : Code} {P s u F B : List ℕ} (x : Expecting C P s u F B) where
  pub measured-cost : {r : Reading} → r ≡ reading_of C P s u F → r.cost ≡ cost_of C P s u F
  unfolding reading_of
  measured-cost e = ap (λ r. r.cost) e

  pub expecting_takes : Taken C P s u B
  expecting_takes = taken C P s u B (photo-accepted C P s u B x.photo x.room)

  pub excess_told : {D R : ℕ} {b : List ℕ} → D ≡ cost_of C P s u F → R ≡ radius C P →
      Explains C P s u F B (Nothing (cost_of C P s u F - radius C P)) b → Explains C P s u F B (Nothing (D - R)) b
  excess_told e r h = rw (e, r) h
