-- What is left of the symbols s when a record was subtracted, on a lines of b points y, modulo suc q.
--
--   Remains q a b d x y s left h   what is left is below the modulus, and with the value of the polynomial h makes the symbol
--
-- What this file is for: a cell that was read is changed where something is left, so nothing has to be evaluated to count them.
use Rattle.std.specs.Prelude.{ℕ, suc, ◌+◌, ◌<◌}
use Rattle.field.specs.Congruence.{Cong}
use Rattle.polynomial.specs.Eval.{eval}
use Rattle.polynomial.specs.Record.{on_row}

pub record Remains (q a b d : ℕ) (x y : ℕ → ℕ) (s left h : ℕ → ℕ → ℕ) : Type 0 where
  pub below : (r c : ℕ) → r < a → c < b → left r c < suc q
  pub whole : (r c : ℕ) → r < a → c < b → Cong q (left r c + eval (suc d) (on_row d h (x r)) (y c)) (s r c)
