-- What the decoder of marks returns.
--
--   rest-whole      what is left after all columns is the symbol less the value
--   outcome_none    the outcome where no record is under the radius
--   outcome_found   the outcome where one is: the flat record of the columns
--
-- What this file is for: from what the solver found to the decoder's contract. Assumes nothing.
use mathlib.Core.Path.{◌≡◌, refl, sym}
use mathlib.Core.Bool.{false≢true}
use mathlib.Core.List.{List}
use Rattle.std.specs.Prelude.{Some, None}
use Prim.Native.Nat.{ℕ, suc, ◌+◌, ◌-◌, ◌≤◌, ◌<◌}
use native.Mathlib.Omega.{arith}
use Rattle.bounded.specs.Bounded.{at}
use Rattle.field.specs.Congruence.{Cong}
use Rattle.field.proofs.Congruence.{same, ◌⨾◌}
use Rattle.polynomial.specs.Record.{coef}
use Rattle.polynomial.specs.declared.Grid.{Grid}
use Rattle.polynomial.proofs.Eval.{eval_cong}
use Rattle.grid.specs.Cost.{lines}
use Rattle.grid.specs.Rest.{Rest}
use Rattle.grid.specs.Drawn.{found}
use Rattle.reed_muller.specs.Groups.{Flat}
use Rattle.reed_muller.specs.Rest.{Remains}
use Rattle.reed_muller.specs.Outcome.{Outcome}
use Rattle.reed_muller.specs.Steps.{Solved}
use Rattle.reed_muller.proofs.Last.{decoded-none, decoded-found}

-- what is left after the last step
module _ {q a b d : ℕ} {y : ℕ → ℕ} {s : ℕ → ℕ → ℕ} where
  pub rest-whole : (x : ℕ → ℕ) {left : ℕ → ℕ → ℕ} (found h : ℕ → ℕ → ℕ) → ((r c : ℕ) → r < a → c < b → left r c < suc q) →
      Rest q a b d y 0 s left (lines d x found) → ((t i : ℕ) → i + t ≤ d → Cong q (found i t) (h i t)) →
      Remains q a b d x y s left h
  rest-whole x found h small R e = record {
    below = small;
    whole = λ r c l m. R.makes (lines d x h) (λ t r _ k _. eval_cong (suc (d - t)) (x r) λ i n. e t i (omega arith)) r c l m
        ⨾ same (omega arith);
  }

module _ {g : Grid} {s u left columns : List (List ℕ)} where
  -- no record is under the radius
  pub outcome_none : {message : List ℕ} → Solved g s u left columns None → Outcome g s u None message
  outcome_none {message} S =
      record { decoded = decoded-none (coef message) (S.over refl); remains = λ y. absurd (false≢true y) }

  -- the flat record of the columns is
  pub outcome_found : {message : List ℕ} {n : ℕ} → Solved g s u left columns (Some n) → Flat columns (g.d + 1) message →
      Outcome g s u (Some (record { left = left; cost = n })) message
  outcome_found {message} {n} S flat =
      let (h, e, D) = S.under n refl in record {
        decoded = decoded-found (coef message) (found columns) D.costs is
            (λ t i l. rw (is t i l) (modulus ((D.coefficients.done t (omega (arith, g.fit.low, g.fit.rows))).small i))) e h;
        remains = λ _. rest-whole (at g.x) (found columns) (coef message)
            (λ r c k l. modulus ((D.rows.done r (omega (arith, g.fit.rows))).small c)) D.rest
            (λ t i l. same (sym (is t i l)));
      }
    where
      is : (t i : ℕ) → i + t ≤ g.d → coef message i t ≡ found columns i t
      is t i l = flat.is t i (omega arith)

      modulus : {n : ℕ} → n < g.modulus.p → n < suc (g.modulus.p - 1)
      modulus l = omega arith
