-- Measuring row by row.
--
--   measured-eq      equal cells measure the same
--   measured-more    one row more
--   measured_part    a part of the lent bytes
--   strip-measured, mark-measured   what was measured by the plan's struct
--
-- What this file is for: rows are measured one by one, and the answer is of the whole mark. Assumes nothing.
use mathlib.Core.Path.{◌≡◌, refl, sym, ap₂, ◌∙◌}
use mathlib.Core.List.{List}
use Prim.Native.Nat.{ℕ, ◌+◌, ◌*◌, ◌-◌, ◌≤◌, ◌<◌}
use native.Mathlib.Numerals.{add-one}
use native.Mathlib.Nat.{suc-mul}
use lib.ListN.{length, take, drop}
use Rattle.bounded.specs.Bounded.{at}
use Rattle.bounded.proofs.Sum.{sum-eq, sum-append}
use Rattle.bounded.proofs.Part.{part_at, part_length}
use Rattle.polynomial.specs.Record.{grid_value}
use Rattle.distance.specs.Cost.{cell, differ}
use Rattle.definitions.specs.Plan.{rows}
use Rattle.definitions.specs.Code.{strip, oblong, cells, value}
use Rattle.definitions.specs.Cost.{full}
use Rattle.definitions.specs.Photograph.{Photograph}
use Rattle.plan.specs.declared.season.Plan.{Plan}
use Rattle.plan.specs.Says.{Says}
use Rattle.plan.proofs.Values.{mark_cells_lem, mark-value}
use Rattle.measuring.specs.Measured.{Measured}

pub measured-eq : {f n D k : ℕ} {s s' u u' v v' : ℕ → ℕ} → ((i : ℕ) → i < n → s i ≡ s' i) → ((i : ℕ) → i < n → u i ≡ u' i) →
    ((i : ℕ) → i < n → v i ≡ v' i) → Measured f n s u v D k → Measured f n s' u' v' D k
measured-eq {n} {u'} {v} e f g m = record {
  sum = m.sum ∙ sum-eq n λ i l. rw (e i l, f i l, g i l);
  count = m.count ∙ sum-eq n λ i l. rw (e i l, g i l);
}

-- a row of n cells, from their own part of the lent bytes
pub measured_part : {f n D k : ℕ} (a : ℕ) (s u : List ℕ) {v w : ℕ → ℕ} → a + n ≤ length s → ((i : ℕ) → i < n → v i ≡ w i) →
    Measured f (length (take (a + n - a) (drop a s))) (at (take (a + n - a) (drop a s)))
    (at (take (a + n - a) (drop a u))) v D k → Measured f n (λ i. at s (a + i)) (λ i. at u (a + i)) w D k
measured_part {n} a s u h e m = measured-eq (part_at a n s) (part_at a n u) e (rw (part_length a n s h) at m)

-- row r after those before it
pub measured-more : {f : ℕ} (n r : ℕ) {D E k j : ℕ} (s u v : ℕ → ℕ) → Measured f (r * n) s u v D k →
    Measured f n (λ i. s (r * n + i)) (λ i. u (r * n + i)) (λ i. v (r * n + i)) E j →
    Measured f ((r + 1) * n) s u v (D + E) (k + j)
measured-more {f} n r s u v a b = rw (add-one r, suc-mul r n) (record {
  sum = ap₂ ◌+◌ a.sum b.sum ∙ sym (sum-append (r * n) n λ i. cell f (s i) (u i) (v i));
  count = ap₂ ◌+◌ a.count b.count ∙ sym (sum-append (r * n) n λ i. differ (s i) (v i));
})

pub strip-measured : {P s u : List ℕ} {plan : Plan} {v w : ℕ → ℕ} {D k : ℕ} → Photograph strip P s u → Says P plan →
    ((i : ℕ) → i < rows P → v i ≡ w i) → Measured plan.grid.full (length s) (at s) (at u) v D k →
    Measured (full P) (rows P) (at s) (at u) w D k
strip-measured photo says e m = measured-eq (λ i l. refl) (λ i l. refl) e (simp (says.full, photo.symbols) at m)

pub mark-measured : {P : List ℕ} {plan : Plan} {s u : ℕ → ℕ} {D k : ℕ} → Says P plan → (F : List ℕ) →
    Measured plan.grid.full (plan.grid.a * plan.grid.b) s u
    (grid_value plan.grid.modulus.p plan.grid.d plan.grid.b (at plan.grid.x) (at plan.grid.y) F) D k →
    Measured (full P) (cells oblong P) s u (value oblong P F) D k
mark-measured says F m =
    measured-eq (λ i l. refl) (λ i l. refl) (mark-value says F) (simp (says.full, ← mark_cells_lem says) at m)
