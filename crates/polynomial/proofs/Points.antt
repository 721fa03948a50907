-- Points of a plan: rising, and below a prime.
--
--   points_rise    each point is less than those after it
--   points-apart   so no two are congruent, and their differences divide
--   cancel_apart   the difference of two points that are apart is cancelled from a congruence
--
-- What this file is for: what the codes ask of the points follows from what the plan's check tests. Assumes nothing.
use mathlib.Core.Path.{sym, ◌∙◌}
use Prim.Native.Nat.{ℕ, zero, suc, ◌+◌, ◌*◌, ◌<◌}
use native.Mathlib.Omega.{arith}
use native.Mathlib.Decide.{ℕ_discrete}
use native.Mathlib.Nat.{zero-mod}
use Rattle.field.specs.Congruence.{Cong}
use Rattle.field.specs.Prime.{Prime}
use Rattle.field.proofs.Congruence.{to-mod, of-mod}
use Rattle.field.proofs.Prime.{apart}
use Rattle.polynomial.specs.Eval.{Apart, Points}

pub points_rise : {p n : ℕ} {x : ℕ → ℕ} → Points p n x → (j r : ℕ) → j < r → r < n → x j < x r
points_rise P j zero l i = absurd (omega arith)
points_rise {x} P j (suc r) l i = elim (ℕ_discrete j r) [
  | yes e ↦ rw e (P.rising r i)
  | no e ↦ omega (arith, points_rise P j r (omega arith) (omega arith), P.rising r i)
]

pub points-apart : {q n : ℕ} {x : ℕ → ℕ} → Prime (suc q) → Points (suc q) n x → Apart q n x
points-apart {q} {x} prime P = record {
  cancel = λ j r b l i e.
      let h = points_rise P j r l i in
      to-mod (apart prime (x j) (x r) b (P.below j (omega arith)) (P.below r i) (λ e. omega arith)
      (of-mod _ 0 (e ∙ sym (zero-mod (suc q)))))
      ∙ zero-mod (suc q);
}

pub cancel_apart : {q n : ℕ} {x : ℕ → ℕ} → Apart q n x → (j r b : ℕ) → j < r → r < n →
    Cong q ((x j + q * x r) * b) 0 → Cong q b 0
cancel_apart {q} ax j r b l i h =
    of-mod b 0 (ax.cancel j r b l i (to-mod h ∙ zero-mod (suc q)) ∙ sym (zero-mod (suc q)))
