-- From the contract of a strip reader to the reading of a sound plan's strip.
--
--   strip-none   no answer is refusal 10
--   strip-cost, strip-found
--                the cost of an answer is the record's, and the answer is the reading
--
-- What this file is for: the decoder speaks of coefficients at points, the document of a record and its strip. Assumes nothing.
use mathlib.Core.Path.{◌≡◌, sym, ap, ap₂, ◌∙◌}
use mathlib.Core.Bool.{Bool, true, false, false≢true}
use mathlib.Core.List.{List}
use Prim.Native.Nat.{ℕ, suc, ◌-◌, ◌%◌, ◌<◌}
use native.Mathlib.Omega.{arith}
use Rattle.bounded.specs.Bounded.{at}
use Rattle.bounded.proofs.Sum.{sum-eq}
use Rattle.field.proofs.Congruence.{same}
use Rattle.definitions.specs.Refusals.{first}
use Rattle.definitions.specs.Plan.{modulus, rows, degree, row_point, side, point}
use Rattle.definitions.specs.Code.{strip, size, value}
use Rattle.polynomial.specs.Sides.{cell_point}
use Rattle.definitions.specs.Cost.{full}
use Rattle.distance.specs.Cost.{cell, cost}
use Rattle.definitions.specs.Calls.{photo_rows, cost_of, refused, reading_of}
use Rattle.definitions.specs.Code.{IsRecord}
use Rattle.definitions.specs.Sound.{Sound}
use Rattle.definitions.specs.Photograph.{Photograph}
use Rattle.definitions.specs.Reads.{Reads}
use Rattle.definitions.proofs.Photograph.{accepted-photo}
use Rattle.definitions.proofs.Nearest.{cost-within, cost_without, reads_none, reads_the}
use Rattle.definitions.proofs.Unique.{at_most_one}
use Rattle.polynomial.specs.Eval.{eval, values}
use Rattle.definitions.proofs.Plan.{plan-modulus, strip_size_lem}
use Rattle.polynomial.proofs.Record.{value-strip}
use Rattle.polynomial.proofs.Known.{value-strip-is}
use Rattle.distance.specs.Loaded.{Loaded}
use Rattle.distance.proofs.Loaded.{cost_loaded}
use Rattle.polynomial.proofs.Unique.{cost_cong}
use Rattle.reed_solomon.specs.Strip.{Strip}

module _ {P : List ℕ} (S : Sound P) where
  -- the cost of a record is that of its polynomial, against the cells as they are loaded
  record-cost : (s u : List ℕ) (x s' u' : ℕ → ℕ) → ((i : ℕ) → i < rows P → x i ≡ row_point P i) →
      ((c : ℕ) → c < rows P → Loaded (full P) (at s c) (at u c) (s' c) (u' c)) →
      (F : List ℕ) → cost_of strip P s u F ≡ cost (full P) (rows P) s' u' (values (modulus P - 1) (suc (degree P)) (at F) x)
  record-cost s u x s' u' points loaded F = sum-eq (rows P) (λ c l. ap (cell (full P) (at s c) (at u c)) (there c l))
      ∙ cost_loaded (values (modulus P - 1) (suc (degree P)) (at F) x) loaded
    where
      there : (c : ℕ) → c < rows P →
          value strip P F c ≡ values (modulus P - 1) (suc (degree P)) (at F) x c
      there c l = value-strip-is (modulus P) (degree P) F (cell_point 0 (side P) (point P) c)
          ∙ value-strip (modulus P) (degree P) F (row_point P c)
          ∙ sym (ap₂ (λ p v. eval (suc (degree P)) (at F) v % p) (plan-modulus S) (points c l))

-- the answer of a strip reader to the points and cells that it has loaded
module _ (P s u B : List ℕ) (clear : first (photo_rows strip P s u B) ≡ 0) {x s' u' : ℕ → ℕ}
    (points : (i : ℕ) → i < rows P → x i ≡ row_point P i)
    (loaded : (c : ℕ) → c < rows P → Loaded (full P) (at s c) (at u c) (s' c) (u' c)) {found : Bool} {w : ℕ → ℕ} {g : ℕ}
    (A : Strip (modulus P - 1) (full P) (rows P) (degree P) x s' u' found w g) where
  photo : Photograph strip P s u
  photo = accepted-photo strip P s u B clear

  cost_of_lem : (F : List ℕ) →
      cost_of strip P s u F ≡ cost (full P) (rows P) s' u' (values (modulus P - 1) (suc (degree P)) (at F) x)
  cost_of_lem F = record-cost photo.sound s u x s' u' points loaded F

  pub strip-none : found ≡ false → Reads strip P s u B (refused 10) B
  strip-none z = reads_none strip P s u B clear λ F f. cost_without strip P s u F λ l.
      false≢true (sym z ∙ (A.only (at F) (omega (arith, cost_of_lem F))).0)

  -- W is the record with the coefficients w
  module _ (z : found ≡ true) (W : List ℕ) (word : IsRecord strip P W)
      (coefficients : (i : ℕ) → i < size strip P → at W i ≡ w i) where
    pub strip-cost : g ≡ cost_of strip P s u W
    strip-cost = (A.sound z).0
        ∙ cost_cong (full P) (rows P) (degree P) x s' u' (λ i l. same (sym (coefficients i (omega (arith, strip_size_lem P)))))
        ∙ sym (cost_of_lem W)

    pub strip-found : Reads strip P s u B (reading_of strip P s u W) W
    strip-found = reads_the strip P s u B clear (at_most_one strip P s u photo) W word
        (cost-within strip P s u W (omega (arith, strip-cost, (A.sound z).1)))
