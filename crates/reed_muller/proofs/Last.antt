-- What the decoder hands over, from what is left after the last step.
--
--   decoded-none    no record is under the radius
--   decoded-found   what is left costs less than the radius: the record found is the answer
--
-- What this file is for: the two ends of the decoder, for any coefficients. Assumes nothing.
use mathlib.Core.Path.{◌≡◌, refl, sym, ◌∙◌}
use mathlib.Core.Bool.{true, false, false≢true}
use Prim.Native.Nat.{ℕ, suc, ◌+◌, ◌*◌, ◌≤◌, ◌<◌}
use Rattle.field.proofs.Congruence.{same}
use Rattle.polynomial.specs.Distance.{grid_distance}
use Rattle.grid.specs.Cost.{remaining, GridCosts}
use Rattle.reed_muller.specs.Degree.{GridNear}
use Rattle.reed_muller.specs.Mark.{Decoded}
use Rattle.reed_muller.proofs.Degree.{grid_cost_lem}

module _ {q full a b d : ℕ} {x y : ℕ → ℕ} {s u : ℕ → ℕ → ℕ} (w : ℕ → ℕ → ℕ) {g : ℕ} where
  pub decoded-none : ((h : ℕ → ℕ → ℕ) → GridNear q full a b d x y u s h → ⊥) → Decoded q full a b d x y s u false w g
  decoded-none z = record { sound = λ e. absurd (false≢true e); below = λ e. absurd (false≢true e); only = λ h n. absurd (z h n) }

  pub decoded-found : {left : ℕ → ℕ → ℕ} (found : ℕ → ℕ → ℕ) → GridCosts q full a b d x y u 0 s left found →
      ((t i : ℕ) → i + t ≤ d → w i t ≡ found i t) →
      ((t i : ℕ) → i + t ≤ d → w i t < suc q) → g ≡ remaining full a b u left → g < full * grid_distance a b d →
      Decoded q full a b d x y s u true w g
  decoded-found found C e small r m = record {
    sound = λ _. (r ∙ sym (grid_cost_lem x found C w λ t i l. same (sym (e t i l))), m);
    below = λ _. small;
    only = λ h n. refl;
  }
