-- Records of a sound plan P, by the struct that says what P does: their values at its points are those of P's marks and strips.
--
--   record_word_lem  a mark's record is a word of the grid's prime and degree
--   record_row_lem  a strip's record, loaded as a row, is a row of residues
--   mark_cells_lem  a mark has a row of cells for each row point
--   mark-value, mark-is   the values on the grid are the mark
--   mark-radius, strip_radius_lem  the radius by the grid is the plan's
--   strip-values    the values of a row that has a strip's coefficients are the strip's
--
-- What this file is for: writing and measuring work on the struct, and answer of the plan. Assumes nothing.
use mathlib.Core.Path.{◌≡◌, refl, sym, ap, ap₂, ◌∙◌}
use mathlib.Core.List.{List}
use Prim.Native.Nat.{ℕ, suc, ◌+◌, ◌*◌, ◌-◌, ◌/◌, ◌%◌, ◌^◌, ◌<◌}
use native.Mathlib.Numerals.{add-one}
use native.Mathlib.Omega.{arith}
use native.Mathlib.Decide.{dec_lt}
use native.Mathlib.Nat.{mod-lt, div-lt_iff_lt-mul}
use Rattle.bounded.specs.Bounded.{at, tab}
use Rattle.bounded.proofs.Sum.{sum-eq}
use Rattle.bounded.proofs.Tab.{length-tab, tab-eq}
use Rattle.field.specs.Row.{row, Row}
use Rattle.field.specs.Word.{Word}
use Rattle.field.proofs.Row.{row_at, row_of, beyond}
use Rattle.polynomial.specs.Eval.{eval}
use Rattle.polynomial.specs.Record.{start, value_xy, grid_value}
use Rattle.polynomial.specs.declared.Grid.{Grid}
use Rattle.polynomial.specs.Sides.{cell_point}
use Rattle.polynomial.specs.Distance.{grid_distance}
use Rattle.polynomial.proofs.Record.{value-strip}
use Rattle.polynomial.proofs.Known.{value-strip-is, value_cell}
use Rattle.definitions.specs.Plan.{modulus, rows, columns, side, degree, row_point, point}
use Rattle.definitions.specs.Code.{strip, oblong, cells, value, mark, IsRecord}
use Rattle.definitions.specs.Cost.{radius}
use Rattle.definitions.proofs.Plan.{strip_size_lem, mark_size_lem}
use Rattle.plan.specs.declared.season.Plan.{Plan}
use Rattle.plan.specs.Says.{Says}
use Rattle.plan.proofs.Said.{point_at}

pub mark_cells_lem : {P : List ℕ} {plan : Plan} → Says P plan → cells oblong P ≡ plan.grid.a * plan.grid.b
mark_cells_lem says = simp (says.rows, says.columns) refl

module _ {P : List ℕ} {plan : Plan} (says : Says P plan) where
  abbrev g : Grid
  g = plan.grid

  pub record_word_lem : {F : List ℕ} → IsRecord oblong P F → Word g.modulus.p (start (suc g.d)) F
  record_word_lem f = simp (says.modulus, says.degree) (rw (mark_size_lem P, add-one (degree P)) at f)

  pub record_row_lem : {F w : List ℕ} → IsRecord strip P F → w ≡ row (at F) → Row g.modulus.p w
  record_row_lem {F} f e = simp (says.modulus, e)
      (row_of z (length-tab 16 _) λ i l. rw (row_at (at F) i l) (residue i (dec_lt i (degree P + 1))))
    where
      z : 0 < modulus P
      z = omega (arith, says.sound.prime.least)

      residue : (i : ℕ) → Dec (i < degree P + 1) → at F i < modulus P
      residue i (yes l) = f.below i (omega (arith, strip_size_lem P))
      residue i (no l) = rw (beyond F i (omega (arith, f.size, strip_size_lem P))) z

  -- the value in a cell of the grid is the mark's
  pub mark-value : (F : List ℕ) (c : ℕ) → c < rows P * columns P →
      grid_value g.modulus.p g.d g.b (at g.x) (at g.y) F c ≡ value oblong P F c
  mark-value F c l = simp (says.modulus, says.degree, says.columns, says.row_points, says.column_points)
      (ap₂ (value_xy (modulus P) (degree P) F) (point_at says.sound 0 (c / columns P) ((div-lt_iff_lt-mul z).1 l))
      (point_at says.sound 1 (c % columns P) (mod-lt c z)))
      ∙ sym (value_cell (modulus P) (degree P) F (side P) (point P) c)
    where
      z : 0 < columns P
      z = omega (arith, says.sound.wide.some)

  pub mark-is : (F : List ℕ) → tab (g.a * g.b) (grid_value g.modulus.p g.d g.b (at g.x) (at g.y) F) ≡ mark oblong P F
  unfolding mark
  mark-is F = rw (← mark_cells_lem says) (tab-eq (rows P * columns P) (mark-value F))

  -- how far a record may be
  pub mark-radius : {R : ℕ} → R ≡ g.full * grid_distance g.a g.b g.d → R ≡ radius oblong P
  mark-radius e = simp (says.full, says.rows, says.columns, says.degree) at e

  pub strip_radius_lem : {R : ℕ} → R ≡ g.full * 1 * (g.a - g.d) → R ≡ radius strip P
  strip_radius_lem e = simp (says.full, says.rows, says.degree) at e ∙ omega arith

  -- the values v of the polynomial with the coefficients w
  pub strip-values : (F : List ℕ) {w v : List ℕ} → w ≡ row (at F) →
      v ≡ row (λ j. eval (suc g.d) (at w) (at g.x j) % g.modulus.p) → (j : ℕ) → j < rows P → at v j ≡ value strip P F j
  strip-values F {w} f e j l =
      let k : j < 16 = omega (arith, says.sound.tall.most) in
      let small : degree P < 16 = omega (arith, says.sound.low, says.sound.tall.most) in
      rw (
        simp (says.modulus, says.degree, says.row_points) at e,
        row_at (λ j. eval (suc (degree P)) (at w) (at (row (row_point P)) j) % modulus P) j k,
        point_at says.sound 0 j l,
      )
      (ap (λ t. t % modulus P)
      (sum-eq (suc (degree P)) λ i m. ap (λ t. t * row_point P j ^ i) (coefficient i (omega (arith, small))))
      ∙ sym (value-strip-is (modulus P) (degree P) F (cell_point 0 (side P) (point P) j)
      ∙ value-strip (modulus P) (degree P) F (row_point P j)))
    where
      coefficient : (i : ℕ) → i < 16 → at w i ≡ at F i
      coefficient i m = rw f (row_at (at F) i m)
