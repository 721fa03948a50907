-- One line of a mark, read as a strip.
--
--   line-answered     an answered line hands on the answer's leading coefficient, with its cost for the doubt
--   line_unanswered   a line without an answer hands on any symbol, with the full doubt
--   answer-measured   a polynomial measured under the radius is the line's answer, however it was found
--   answer_carried    an answer, its highest term subtracted, is the answer of one degree less to the line that is left
--
-- What this file is for: what a line hands on costs no record more than the line did. Assumes nothing.
use mathlib.Core.Logic.{◌⊎◌, inl, inr}
use mathlib.Core.Path.{◌≡◌, refl, sym, ◌∙◌}
use mathlib.Core.Bool.{Bool, true, false, cond, false≢true}
use Prim.Native.Nat.{ℕ, suc, ◌+◌, ◌*◌, ◌-◌, ◌%◌, ◌^◌, ◌≤◌, ◌<◌}
use native.Mathlib.Omega.{arith}
use native.Mathlib.Decide.{dec_le}
use native.Mathlib.Nat.{mul-le-mul_left}
use lib.Dec.{eqb}
use borrow.Author.Tests.{eq-eqb}
use Rattle.bounded.proofs.Sum.{sum-eq}
use Rattle.field.specs.Congruence.{Cong}
use Rattle.field.proofs.Congruence.{same, to-mod, ◌⨾◌, ~add, ~mul-right}
use Rattle.distance.specs.Cost.{cell, cost, hamming}
use Rattle.distance.specs.Doubts.{Doubts}
use Rattle.distance.proofs.Cost.{cost-two_words, cell_full, cell-less}
use Rattle.polynomial.specs.Eval.{eval, values, Apart}
use Rattle.polynomial.proofs.Eval.{same_or_far}
use Rattle.polynomial.proofs.Unique.{cost_cong, near-one}
use Rattle.reed_solomon.specs.Strip.{Strip}
use Rattle.grid.specs.Line.{HandsOn, Subtracted}

-- the cell of an answer that is another polynomial than the one that costs c
cell_other : (R c e v w : ℕ) → v < R → 2 * R ≤ c + v → cell R e v w ≤ c
cell_other R c e v w l h = go (eqb e w)
  where
    go : (b : Bool) → cond b v (2 * R - v) ≤ c
    go true = omega arith
    go false = omega arith

module _ {q full n k : ℕ} {y s u : ℕ → ℕ} (ay : Apart q n y) (du : Doubts full n u) where
  -- an answered line: the answer's leading coefficient, and its cost as the doubt
  pub line-answered : {w : ℕ → ℕ} {g : ℕ} → Strip q full n k y s u true w g → HandsOn q full n k y s u (w k % suc q) g
  line-answered {w} {g} S = record { below = omega (arith, (S.sound refl).1); cheap = λ h. kind h (same_or_far ay k w h) }
    where
      kind : (h : ℕ → ℕ) → ((i : ℕ) → i ≤ k → Cong q (w i) (h i)) ⊎
          (n - k ≤ hamming n (values q (suc k) w y) (values q (suc k) h y)) →
          cell (full * (n - k)) (w k % suc q) g (h k % suc q) ≤ cost full n s u (values q (suc k) h y)
      kind h (inl e) = rw (eq-eqb _ _ (to-mod (e k (omega arith)))) (omega (arith, (S.sound refl).0, cost_cong full n k y s u e))
      kind h (inr l) = cell_other (full * (n - k)) (cost full n s u (values q (suc k) h y)) (w k % suc q) g (h k % suc q)
          (S.sound refl).1
          (omega (
            arith,
            (S.sound refl).0,
            cost-two_words full n s u (values q (suc k) w y) (values q (suc k) h y) du,
            mul-le-mul_left (2 * full) l,
          ))

  -- a polynomial measured under the radius
  pub answer-measured : (w : ℕ → ℕ) → cost full n s u (values q (suc k) w y) < full * (n - k) →
      Strip q full n k y s u true w (cost full n s u (values q (suc k) w y))
  answer-measured w l = record { sound = λ _. (refl, l); only = λ h m. (refl, near-one ay full k s u du w h l m) }

  -- the answer of degree k + 1 to the symbols from which its highest term was subtracted
  pub answer_carried : {s₀ w : ℕ → ℕ} {g : ℕ} (e : ℕ) → Strip q full n (suc k) y s₀ u true w g → Cong q (w (suc k)) e →
      Subtracted q n (suc k) y e s₀ s → Strip q full n k y s u true w g
  answer_carried {s₀} {w} {g} e S c T = rw ((S.sound refl).0 ∙ same-cost)
      (answer-measured w (omega (arith, (S.sound refl).0, (S.sound refl).1, same-cost, mul-le-mul_left full less)))
    where
      less : n - suc k ≤ n - k
      less = omega arith

      same-cost : cost full n s₀ u (values q (suc (suc k)) w y) ≡ cost full n s u (values q (suc k) w y)
      same-cost = sum-eq n λ j l. sym (cell-less full (s₀ j) (s j) (u j) (eval (suc k) w (y j)) (w (suc k) * y j ^ suc k)
          (T.before j l) (T.after j l)
          (~add (same refl) (~mul-right (y j ^ suc k) c) ⨾ T.term j l))

-- an unanswered line: any symbol, with the full doubt
pub line_unanswered : {q full n k : ℕ} {y s u : ℕ → ℕ} {w : ℕ → ℕ} {g : ℕ} (e : ℕ) → Strip q full n k y s u false w g →
    HandsOn q full n k y s u e (full * (n - k))
line_unanswered {q} {full} {n} {k} {y} {s} {u} e S =
    record { below = omega arith; cheap = λ h. rw (cell_full (full * (n - k)) e (h k % suc q)) (over h) }
  where
    over : (h : ℕ → ℕ) → full * (n - k) ≤ cost full n s u (values q (suc k) h y)
    over h = elim (dec_le (full * (n - k)) (cost full n s u (values q (suc k) h y))) [
      | yes l ↦ l
      | no l ↦ absurd (false≢true (S.only h (omega arith)).0)
    ]
