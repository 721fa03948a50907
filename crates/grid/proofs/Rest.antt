-- What is left of the symbols through the degree steps.
--
--   rest-start   all of them
--   rest-next    a term less
--
-- What this file is for: after the last step the symbol less the value is left. Assumes nothing.
use mathlib.Core.Path.{refl}
use Prim.Native.Nat.{ℕ, suc, ◌*◌, ◌^◌, ◌≤◌, ◌<◌}
use native.Mathlib.Omega.{arith}
use Rattle.field.specs.Congruence.{Cong}
use Rattle.field.proofs.Congruence.{same, ~sym, ◌⨾◌, ~add, ~mul-right, cancel}
use Rattle.polynomial.specs.Eval.{eval}
use Rattle.grid.specs.Line.{Subtracted}
use Rattle.grid.specs.Rest.{Rest}

module _ {q a b d : ℕ} {y : ℕ → ℕ} {s : ℕ → ℕ → ℕ} where
  pub rest-start : (found : ℕ → ℕ → ℕ) → Rest q a b d y (suc d) s s found
  rest-start found = record { makes = λ g f r c l m. same refl }

  pub rest-next : {left left' found found' : ℕ → ℕ → ℕ} {t : ℕ} (z : ℕ → ℕ) → t ≤ d → Rest q a b d y (suc t) s left found →
      ((r : ℕ) → r < a → Subtracted q b t y (z r) (left r) (left' r)) → ((r : ℕ) → r < a → Cong q (found' t r) (z r)) →
      ((t' r : ℕ) → t < t' → t' ≤ d → r < a → Cong q (found' t' r) (found t' r)) → Rest q a b d y t s left' found'
  rest-next {left} {left'} {found} {found'} {t} z td R sub new old = record {
    makes = λ g f r c l m. cancel {e = z r * y c ^ t} (~mul-right (y c ^ t) (~sym (new r l) ⨾ f t r (omega arith) td l))
        (same (omega arith) ⨾ ~add ((sub r l).term c m) (same {a = eval (suc d) (λ t. g t r) (y c)} refl)
        ⨾ R.makes g (λ t' r k n i. ~sym (old t' r k n i) ⨾ f t' r (omega arith) n i) r c l m ⨾ same (omega arith));
  }
