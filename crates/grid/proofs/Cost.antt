-- What is left tells what a message costs.
--
--   costs-start   nothing is subtracted, and all symbols are left
--   costs-next    the values of one power of Y are subtracted
--   costs-last    after the last, what is left, measured against 0, is the cost
--
-- What this file is for: a record found in steps is measured without evaluating it. Assumes nothing.
use mathlib.Core.Path.{◌≡◌, refl, sym, ap, ◌∙◌}
use Prim.Native.Nat.{ℕ, suc, ◌*◌, ◌^◌, ◌≤◌, ◌<◌}
use native.Mathlib.Omega.{arith}
use native.Mathlib.Nat.{zero-mod}
use Rattle.bounded.proofs.Sum.{sum-eq}
use Rattle.field.specs.Congruence.{Cong}
use Rattle.field.proofs.Congruence.{same, ~sym, ◌⨾◌, ~add, ~mul-right}
use Rattle.distance.specs.Cost.{cell}
use Rattle.distance.proofs.Cost.{cell-less}
use Rattle.polynomial.specs.Eval.{eval}
use Rattle.grid.specs.Line.{Subtracted}
use Rattle.grid.specs.Cost.{total, remaining, Agrees, Costs}

module _ {q full a b d : ℕ} {y : ℕ → ℕ} {u : ℕ → ℕ → ℕ} where
  pub costs-start : (s found : ℕ → ℕ → ℕ) → Costs q full a b d y u (suc d) s s found
  costs-start s found = record { keeps = λ g n. refl }

  -- the values w of the coefficients of Y^t, subtracted, leave the cost of the lower terms
  pub costs-next : {s left left' found found' : ℕ → ℕ → ℕ} {t : ℕ} (w : ℕ → ℕ) → t ≤ d →
      Costs q full a b d y u (suc t) s left found →
      ((r : ℕ) → r < a → Subtracted q b t y (w r) (left r) (left' r)) → ((r : ℕ) → r < a → Cong q (found' t r) (w r)) →
      ((t' r : ℕ) → t < t' → t' ≤ d → r < a → Cong q (found' t' r) (found t' r)) → Costs q full a b d y u t s left' found'
  costs-next {left} {left'} {found'} {t} w td C sub new old = record {
    keeps = λ g f. less g f ∙ C.keeps g λ t' r l m i. ~sym (old t' r l m i) ⨾ f t' r (omega arith) m i;
  }
    where
      less : (g : ℕ → ℕ → ℕ) → Agrees q a d t found' g → total q full a b y u t left' g ≡ total q full a b y u (suc t) left g
      less g f = sum-eq a λ r l. sum-eq b λ c m.
          cell-less full (left r c) (left' r c) (u r c) (eval t (λ t. g t r) (y c)) (g t r * y c ^ t) ((sub r l).before c m)
          ((sub r l).after c m)
          (~add (same refl) (~mul-right (y c ^ t) (~sym (f t r (omega arith) td l) ⨾ new r l)) ⨾ (sub r l).term c m)

  -- after the last step
  pub costs-last : {s left found : ℕ → ℕ → ℕ} → Costs q full a b d y u 0 s left found → (g : ℕ → ℕ → ℕ) → Agrees q a d 0 found g →
      total q full a b y u (suc d) s g ≡ remaining full a b u left
  costs-last {left} C g f =
      sym (C.keeps g f) ∙ sum-eq a λ r _. sum-eq b λ c _. ap (cell full (left r c) (u r c)) (zero-mod (suc q))
