-- From the mark decoder's contract to the reading of a sound plan's mark.
--
--   flat_cost     the cost over a flat photograph, row by row
--   coefficients-record
--                 coefficients below p make a record
--   mark-none     no answer is refusal 10
--   mark-record, mark-cost, mark-found
--                 an answer is a record, its cost is the record's, and it is the reading
--
-- What this file is for: the decoder speaks of coefficients on a grid, the document of a record and its marks. Assumes nothing.
use mathlib.Core.Path.{◌≡◌, refl, sym, ap, ◌∙◌}
use mathlib.Core.Bool.{Bool, true, false, false≢true}
use mathlib.Core.List.{List}
use Prim.Native.Nat.{ℕ, suc, ◌+◌, ◌*◌, ◌-◌, ◌%◌, ◌^◌, ◌≤◌, ◌<◌}
use native.Mathlib.Omega.{arith}
use native.Mathlib.Numerals.{add-one}
use lib.ListN.{length}
use Rattle.bounded.specs.Bounded.{at}
use Rattle.bounded.proofs.Sum.{sum-eq, sum_rows, cell_row, cell-column}
use Rattle.definitions.specs.Refusals.{first}
use Rattle.definitions.specs.Plan.{modulus, rows, columns, degree, row_point, column_point, side, point}
use Rattle.definitions.specs.Code.{oblong, size, cells, IsRecord}
use Rattle.polynomial.specs.Record.{place, grid_value}
use Rattle.definitions.specs.Cost.{full}
use Rattle.distance.specs.Cost.{cell, cost}
use Rattle.definitions.specs.Calls.{photo_rows, cost_of, refused, reading_of}
use Rattle.definitions.specs.Sound.{Sound}
use Rattle.definitions.specs.Photograph.{Photograph}
use Rattle.definitions.specs.Reads.{Reads}
use Rattle.definitions.proofs.Photograph.{accepted-photo}
use Rattle.definitions.proofs.Nearest.{cost-within, cost_without, reads_none, reads_the}
use Rattle.definitions.proofs.Unique.{at_most_one}
use Rattle.polynomial.specs.Eval.{values}
use Rattle.polynomial.specs.Record.{coef, on_row}
use Rattle.definitions.proofs.Plan.{plan-modulus, mark_size_lem}
use Rattle.polynomial.proofs.Record.{value-rows, place-below, placed}
use Rattle.polynomial.proofs.Known.{value_cell}
use Rattle.distance.proofs.Loaded.{cell_loaded}
use Rattle.reed_muller.specs.Degree.{grid_cost}
use Rattle.reed_muller.specs.Mark.{grid, LoadedGrid, Decoded}

-- the cost over a flat photograph of any two sizes, row by row
pub flat_cost : (q f a b d : ℕ) (x y : ℕ → ℕ) (s u F : List ℕ) →
    cost f (a * b) (at s) (at u) (grid_value (suc q) d b x y F) ≡ grid_cost q f a b d x y (grid b u) (grid b s) (coef F)
flat_cost q f a b d x y s u F = sum_rows a b _
    ∙ sum-eq a λ r _. sum-eq b λ c m. ap (cell f (grid b s r c) (grid b u r c)) (there r c m)
  where
    there : (r c : ℕ) → c < b → grid_value (suc q) d b x y F (r * b + c) ≡ values q (suc d) (on_row d (coef F) (x r)) y c
    there r c m = rw (cell_row b r c m, cell-column b r c m) (value-rows (suc q) d F (x r) (y c))

-- the cost looks at the points of the grid and at the coefficients alone, and loaded cells stand for their own
grid-same : (q f a b d : ℕ) {x x' y y' : ℕ → ℕ} (s u : List ℕ) {s' u' g h : ℕ → ℕ → ℕ} → ((r : ℕ) → r < a → x' r ≡ x r) →
    ((c : ℕ) → c < b → y' c ≡ y c) → LoadedGrid f a b s u s' u' → ((t i : ℕ) → i + t ≤ d → g i t ≡ h i t) →
    grid_cost q f a b d x y (grid b u) (grid b s) g ≡ grid_cost q f a b d x' y' u' s' h
grid-same q f a b d {x} {x'} {y} {y'} s u {s'} {u'} {g} {h} ex ey L e = sum-eq a λ r l. sum-eq b λ c m.
    cell_loaded _ (L r c l m) ∙ ap (λ v. cell f (s' r c) (u' r c) (v % suc q))
    (rw (ex r l, ey c m)
    (sum-eq (suc d) λ t k. ap (λ v. v * y c ^ t) (sum-eq (suc (d - t)) λ i n. ap (λ v. v * x r ^ i) (e t i (omega arith)))))

module _ {P : List ℕ} (S : Sound P) where
  -- the cost of a record is that of its polynomial, against the cells as they are loaded; h has the record's coefficients
  record-cost : (s u : List ℕ) (x y : ℕ → ℕ) (s' u' : ℕ → ℕ → ℕ) → ((i : ℕ) → i < rows P → x i ≡ row_point P i) →
      ((j : ℕ) → j < columns P → y j ≡ column_point P j) → LoadedGrid (full P) (rows P) (columns P) s u s' u' →
      (F : List ℕ) (h : ℕ → ℕ → ℕ) → ((t i : ℕ) → i + t ≤ degree P → coef F i t ≡ h i t) →
      cost_of oblong P s u F ≡ grid_cost (modulus P - 1) (full P) (rows P) (columns P) (degree P) x y u' s' h
  record-cost s u x y s' u' ex ey loaded F h e =
      sum-eq (rows P * columns P)
      (λ c _. ap (cell (full P) (at s c) (at u c)) (value_cell (modulus P) (degree P) F (side P) (point P) c))
      ∙ ap (λ p. cost (full P) (cells oblong P) (at s) (at u)
      (grid_value p (degree P) (columns P) (row_point P) (column_point P) F))
      (sym (plan-modulus S))
      ∙ flat_cost (modulus P - 1) (full P) (rows P) (columns P) (degree P) (row_point P) (column_point P) s u F
      ∙ grid-same (modulus P - 1) (full P) (rows P) (columns P) (degree P) s u ex ey loaded e

  -- coefficients below p make a record
  pub coefficients-record : (F : List ℕ) → length F ≡ size oblong P →
      ((t i : ℕ) → i + t ≤ degree P → coef F i t < suc (modulus P - 1)) → IsRecord oblong P F
  coefficients-record F e h = record {
    size = e;
    below = λ m l.
        let (i, t, k, z) = placed (degree P) m (rw (mark_size_lem P, add-one (degree P)) at l) in
        rw z (rw (plan-modulus S) at (h t i k));
  }

-- the answer of a mark decoder to the points and cells that it has loaded; the message is m
module _ (P s u B : List ℕ) (clear : first (photo_rows oblong P s u B) ≡ 0) {x y : ℕ → ℕ} {s' u' : ℕ → ℕ → ℕ}
    (ex : (i : ℕ) → i < rows P → x i ≡ row_point P i) (ey : (j : ℕ) → j < columns P → y j ≡ column_point P j)
    (loaded : LoadedGrid (full P) (rows P) (columns P) s u s' u') (m : List ℕ)
    {found : Bool} {g : ℕ} (D : Decoded (modulus P - 1) (full P) (rows P) (columns P) (degree P) x y s' u' found (coef m) g) where
  photo : Photograph oblong P s u
  photo = accepted-photo oblong P s u B clear

  S : Sound P
  S = photo.sound

  cost_of_lem : (F : List ℕ) (h : ℕ → ℕ → ℕ) → ((t i : ℕ) → i + t ≤ degree P → coef F i t ≡ h i t) →
      cost_of oblong P s u F ≡ grid_cost (modulus P - 1) (full P) (rows P) (columns P) (degree P) x y u' s' h
  cost_of_lem F h e = record-cost S s u x y s' u' ex ey loaded F h e

  pub mark-none : found ≡ false → Reads oblong P s u B (refused 10) B
  mark-none z = reads_none oblong P s u B clear λ F f. cost_without oblong P s u F λ l.
      false≢true (sym z ∙ D.only (coef F) (omega (arith, cost_of_lem F (coef F) (λ t i k. refl))))

  -- W holds the first bytes of the message
  module _ (z : found ≡ true) (W : List ℕ) (len : length W ≡ size oblong P)
      (copied : (i : ℕ) → i < size oblong P → at W i ≡ at m i) where
    coefficients : (t i : ℕ) → i + t ≤ degree P → coef W i t ≡ coef m i t
    coefficients t i l = copied (place i t) (rw (mark_size_lem P) (place-below i t (degree P + 1) (omega arith)))

    pub mark-record : IsRecord oblong P W
    mark-record = coefficients-record S W len λ t i l. rw (coefficients t i l) (D.below z t i l)

    pub mark-cost : g ≡ cost_of oblong P s u W
    mark-cost = (D.sound z).0 ∙ sym (cost_of_lem W (coef m) coefficients)

    pub mark-found : Reads oblong P s u B (reading_of oblong P s u W) W
    mark-found = reads_the oblong P s u B clear (at_most_one oblong P s u photo) W mark-record
        (cost-within oblong P s u W (omega (arith, mark-cost, (D.sound z).1)))
