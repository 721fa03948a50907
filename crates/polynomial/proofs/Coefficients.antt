-- From values to coefficients.
--
--   lead_eval   a polynomial that is known by its values has coefficients, and its leading one leads them
--
-- What this file is for: a decoder finds values, and hands over coefficients. Assumes nothing.
use mathlib.Core.Path.{◌≡◌, refl, sym}
use Prim.Native.Nat.{ℕ, zero, suc}
use Rattle.field.specs.Congruence.{Agree}
use Rattle.field.proofs.Congruence.{same, ◌⨾◌, ~add, ~mul}
use Rattle.polynomial.specs.Eval.{eval}
use Rattle.polynomial.specs.Lead.{Lead, con, up}
use Rattle.polynomial.proofs.Eval.{eval-one, eval_front}

-- the coefficient a before those of w
abbrev cons : ℕ → (ℕ → ℕ) → ℕ → ℕ
cons a w zero = a
cons a w (suc i) = w i

pub lead_eval : {q n : ℕ} {x : ℕ → ℕ} {k c : ℕ} {f : ℕ → ℕ} → Lead q n x k c f →
    (w : ℕ → ℕ) × (w k ≡ c) × Agree q n f (λ j. eval (suc k) w (x j))
lead_eval {x} {c} (con h) = ((λ i. c), refl, λ j l. h j l ⨾ same (sym (eval-one (λ i. c) (x j))))
lead_eval {x} (up {k} a L h) =
    let (w, e, r) = lead_eval L in
    (cons a w, e, λ j l. h j l ⨾ ~add (same {a = a} refl) (~mul (x j) (r j l)) ⨾ same (sym (eval_front (suc k) (cons a w) (x j))))
