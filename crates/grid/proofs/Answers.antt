-- The lines as the decoder holds them.
--
--   row-zeros, column-row   zeros are a row of residues, and so is a place of each of some rows
--   positive                the prime of a grid is not 0
--   line-full               the full doubt of what the lines hand on is small enough for the decoder of strips
--   line-valid, strip-valid the axes of a line and of what the lines hand on are as the decoder of strips asks
--   answered-found, answered-none
--                           a line that was read, with and without an answer, is answered
--   answered-kept           so is one whose answer was kept
--
-- What this file is for: after the loop over the lines each of them hands on a cell. Assumes nothing.
use mathlib.Core.Path.{◌≡◌, refl}
use mathlib.Core.Bool.{false}
use mathlib.Core.List.{List}
use Rattle.std.specs.Prelude.{Option, Some}
use Prim.Native.Nat.{ℕ, suc, ◌*◌, ◌-◌, ◌≤◌, ◌<◌}
use native.Mathlib.Omega.{arith}
use native.Mathlib.Nat.{mod-eq_of_lt, mul-le-mul}
use lib.ListN.{replicate, get_or-replicate}
use Rattle.bounded.specs.Bounded.{at}
use Rattle.bounded.proofs.Tab.{length-tab}
use Rattle.field.specs.Row.{row, Row}
use Rattle.field.proofs.Row.{row_at, row_of}
use Rattle.distance.specs.Doubts.{Doubts}
use Rattle.polynomial.specs.Powers.{Rows}
use Rattle.polynomial.specs.declared.Grid.{Grid}
use Rattle.reed_solomon.specs.declared.axis.Axis.{Axis}
use Rattle.reed_solomon.specs.Axis.{Valid, strip_radius}
use Rattle.reed_solomon.specs.Strip.{Strip}
use Rattle.grid.specs.Axes.{line_axis, strip_axis}
use Rattle.grid.specs.Loops.{cell_at}
use Rattle.grid.specs.Answers.{Answer, Known, Answered}
use Rattle.grid.proofs.Line.{line-answered, line_unanswered}

pub row-zeros : {p : ℕ} → 0 < p → Row p (replicate 16 0)
row-zeros z = row_of z refl λ j k. rw (get_or-replicate {A = ℕ} 16 j 0 0 k) z

-- a place of each of some rows
pub column-row : {p : ℕ} {rows : List (List ℕ)} {l : List ℕ} (t : ℕ) → 0 < p → Rows p rows → l ≡ row (λ r. cell_at rows r t) →
    Row p l
column-row {rows} t z R e =
    rw e (row_of z (length-tab 16 _) λ r k. rw (row_at (λ r. cell_at rows r t) r k) ((R.done r k).small t))

pub positive : (g : Grid) → 0 < g.modulus.p
positive g = omega (arith, g.fit.prime.least)

-- the full doubt of a line at the degree t
pub line-full : (g : Grid) (t : ℕ) → g.full * (g.b - t) < 65536
line-full g t =
    let low : g.full ≤ 4095 = omega (arith, g.fit.full) in
    let short : g.b - t ≤ 16 = omega (arith, g.fit.columns) in
    omega (arith, mul-le-mul low short)

-- the axis of a line, read at the degree t, and that of what the lines hand on
module _ (g : Grid) {t : ℕ} (low : t ≤ g.d) where
  pub line-valid : Valid (line_axis g t)
  line-valid = record {
    prime = g.fit.prime;
    points = g.fit.column_points;
    apart = g.fit.columns_apart;
    most = g.fit.columns;
    low = omega (arith, g.fit.narrow);
    full = omega (arith, g.fit.full);
  }

  pub strip-valid : Valid (strip_axis g t (g.full * (g.b - t)))
  strip-valid = record {
    prime = g.fit.prime;
    points = g.fit.row_points;
    apart = g.fit.rows_apart;
    most = g.fit.rows;
    low = omega (arith, g.fit.low);
    full = line-full g t;
  }

module _ {c : Axis} {s u : List ℕ} (valid : Valid c) where
  pub answered-found : {w : List ℕ} {v : ℕ} → Doubts c.full c.n (at u) → Row c.modulus.p w → Answer c s u w v →
      Answered c s u w v
  answered-found {w} du good A =
      let small : at w c.k < suc (c.modulus.p - 1) = omega (arith, good.small c.k) in
      record { good = good; handed = rw (mod-eq_of_lt small) at (line-answered valid.apart du A); strip = λ _. A }

  pub answered-kept : {w : List ℕ} {v : Option ℕ} {n : ℕ} → Doubts c.full c.n (at u) → v ≡ Some n → Known c s u w v →
      Answered c s u w n
  answered-kept {n} du h K = answered-found du K.good (K.strip n h)

  pub answered-none : {w : ℕ → ℕ} {v : ℕ} → Strip (c.modulus.p - 1) c.full c.n c.k (at c.x) (at s) (at u) false w v →
      Answered c s u (replicate 16 0) (strip_radius c)
  answered-none S = record {
    good = row-zeros (omega (arith, valid.prime.least));
    handed = line_unanswered (at (replicate 16 0) c.k) S;
    strip = λ l. absurd (omega arith);
  }
