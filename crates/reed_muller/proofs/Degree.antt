-- The degree step over any set of lines; then the same for two coordinates, where the lines are rows.
--
--   left-start        before the first step nothing is found and all symbols are left
--   lower_near        what the lines hand on: the coefficients of a message under the radius are under theirs
--   left-none         where these have no answer, no message is under the radius
--   left-next         where they have one, every message under the radius has what was found
--   bivariate-strip   in two coordinates the reader of these is the reader of strips
--   grid-start, grid-none, grid-next
--                     the three for two coordinates
--   grid_cost_lem     after the last step what is left, measured against 0, is the cost of what was found
--   grid-over         where that is not under the radius, no record is
--
-- What this file is for: the decoder of marks finds one coefficient of Y at a time, and misses no record. Assumes nothing.
use mathlib.Core.Path.{◌≡◌, refl, sym, ap, ◌∙◌}
use mathlib.Core.Bool.{Bool, true, false, false≢true}
use Prim.Native.Nat.{ℕ, suc, ◌+◌, ◌*◌, ◌-◌, ◌%◌, ◌≤◌, ◌<◌, min}
use native.Mathlib.Omega.{arith}
use native.Mathlib.Decide.{ℕ_discrete}
use native.Mathlib.Nat.{mul-le-mul_left}
use Rattle.bounded.proofs.Sum.{sum-le, sum-eq}
use Rattle.field.specs.Congruence.{Cong}
use Rattle.field.proofs.Congruence.{same, ~sym, ◌⨾◌}
use Rattle.distance.specs.Cost.{cell, cost}
use Rattle.polynomial.specs.Eval.{eval, values}
use Rattle.polynomial.specs.Distance.{grid_distance}
use Rattle.polynomial.proofs.Eval.{eval_cong}
use Rattle.polynomial.proofs.Distance.{distance_split}
use Rattle.reed_solomon.specs.Strip.{Strip}
use Rattle.grid.specs.Line.{HandsOn, Subtracted}
use Rattle.grid.specs.Cost.{remaining, lines, GridCosts}
use Rattle.grid.proofs.Cost.{costs-start, costs-next, costs-last}
use Rattle.reed_muller.specs.Degree.{NearMessage, Left, Bivariate, grid_cost, GridNear, GridLeft}

module _ {q full a b d D : ℕ} {y : ℕ → ℕ} {u : ℕ → ℕ → ℕ} {Code : (ℕ → ℕ → ℕ) → Type 0} where
  pub left-start : (s found : ℕ → ℕ → ℕ) → Left q full a b d D y u Code (suc d) s s found
  left-start s found = record { agrees = λ g n t r l m. absurd (omega arith); costs = costs-start s found }

  -- E is the distance of the words that the coefficients of Y^t form
  module _ {s left found : ℕ → ℕ → ℕ} {t : ℕ} (td : t ≤ d) (E : ℕ) (enough : D ≤ (b - t) * E)
      (L : Left q full a b d D y u Code (suc t) s left found)
      {e v : ℕ → ℕ} (cell_at : (r : ℕ) → r < a → HandsOn q full b t y (left r) (u r) (e r) (v r)) where
    -- these are under their radius
    pub lower_near : (g : ℕ → ℕ → ℕ) → NearMessage q full a b d D y u Code s g →
        cost (full * (b - t)) a e v (λ r. g t r % suc q) < full * (b - t) * E
    lower_near g n = omega (
      arith,
      sum-le a (λ r l. (cell_at r l).cheap (λ t. g t r)),
      L.costs.keeps g (L.agrees g n),
      n.1,
      mul-le-mul_left full enough,
    )

    -- what the reader with one coordinate fewer answers: w has the coefficients of Y^t of every message under the radius there
    module _ {answered : Bool} {w : ℕ → ℕ}
        (S : (g : ℕ → ℕ → ℕ) → Code g → cost (full * (b - t)) a e v (λ r. g t r % suc q) < full * (b - t) * E →
        (answered ≡ true) × ((r : ℕ) → r < a → Cong q (w r) (g t r))) where
      pub left-none : answered ≡ false → (g : ℕ → ℕ → ℕ) → NearMessage q full a b d D y u Code s g → ⊥
      left-none z g n = false≢true (sym z ∙ (S g n.0 (lower_near g n)).0)

      pub left-next : {left' found' : ℕ → ℕ → ℕ} → ((r : ℕ) → r < a → Subtracted q b t y (w r) (left r) (left' r)) →
          ((r : ℕ) → r < a → Cong q (found' t r) (w r)) →
          ((t' r : ℕ) → t < t' → t' ≤ d → r < a → Cong q (found' t' r) (found t' r)) →
          Left q full a b d D y u Code t s left' found'
      left-next sub new old = record {
        agrees = λ g n t' r l m i. elim (ℕ_discrete t' t) [
          | yes z ↦ rw z (new r i ⨾ (S g n.0 (lower_near g n)).1 r i)
          | no z ↦ old t' r (omega arith) m i ⨾ L.agrees g n t' r (omega arith) m i
        ];
        costs = costs-next w td L.costs sub new old;
      }

-- two coordinates: the reader with one coordinate fewer is the reader of strips
pub bivariate-strip : {q R a : ℕ} (d t : ℕ) {x e v w : ℕ → ℕ} {answered : Bool} {c : ℕ} → Strip q R a (d - t) x e v answered w c →
    (g : ℕ → ℕ → ℕ) → Bivariate d x g → cost R a e v (λ r. g t r % suc q) < R * (a - (d - t)) →
    (answered ≡ true) × ((r : ℕ) → r < a → Cong q (eval (suc (d - t)) w (x r)) (g t r))
bivariate-strip {q} {R} {a} d t {x} {e} {v} S g (h, is) n =
    let column-cost : cost R a e v (λ r. g t r % suc q) ≡ cost R a e v (values q (suc (d - t)) (λ i. h i t) x) =
    sum-eq a (λ r _. ap (λ z. cell R (e r) (v r) (z % suc q)) (is t r)) in
    let o = S.only (λ i. h i t) (rw column-cost at n) in
    (o.0, λ r l. eval_cong (suc (d - t)) (x r) (λ i k. o.1 i (omega arith)) ⨾ same (sym (is t r)))

module _ {q full a b d : ℕ} (x : ℕ → ℕ) {y : ℕ → ℕ} {u : ℕ → ℕ → ℕ} where
  pub grid-start : (s found : ℕ → ℕ → ℕ) → GridLeft q full a b d x y u (suc d) s s found
  grid-start s found = left-start s (lines d x found)

  module _ {s left : ℕ → ℕ → ℕ} (found : ℕ → ℕ → ℕ) {t : ℕ} (small : d < min a b) (td : t ≤ d)
      (L : GridLeft q full a b d x y u (suc t) s left found)
      {e v : ℕ → ℕ} (cell_at : (r : ℕ) → r < a → HandsOn q full b t y (left r) (u r) (e r) (v r))
      {answered : Bool} {w : ℕ → ℕ} {c : ℕ} (S : Strip q (full * (b - t)) a (d - t) x e v answered w c) where
    -- the strip of leading coefficients has no answer: no record is under the radius
    pub grid-none : answered ≡ false → (h : ℕ → ℕ → ℕ) → GridNear q full a b d x y u s h → ⊥
    grid-none z h n = left-none td (a - (d - t)) (distance_split a b d t td small) L cell_at (bivariate-strip d t S) z
        (lines d x h) ((h, λ t r. refl), n)

    -- it has, and z r are its values: subtracted, they leave the lower terms
    pub grid-next : {left' : ℕ → ℕ → ℕ} (found' : ℕ → ℕ → ℕ) (z : ℕ → ℕ) →
        ((r : ℕ) → r < a → Cong q (z r) (eval (suc (d - t)) w (x r))) →
        ((r : ℕ) → r < a → Subtracted q b t y (z r) (left r) (left' r)) → ((i : ℕ) → i + t ≤ d → Cong q (found' i t) (w i)) →
        ((t' i : ℕ) → t < t' → i + t' ≤ d → Cong q (found' i t') (found i t')) → GridLeft q full a b d x y u t s left' found'
    grid-next found' z value sub new old = left-next td (a - (d - t)) (distance_split a b d t td small) L cell_at
        (λ g m n. let o = bivariate-strip d t S g m n in (o.0, λ r l. value r l ⨾ o.1 r l)) sub
        (λ r l. eval_cong (suc (d - t)) (x r) (λ i k. new i (omega arith)) ⨾ ~sym (value r l))
        (λ t' r l m _. eval_cong (suc (d - t')) (x r) λ i k. old t' i l (omega arith))

  module _ {s left : ℕ → ℕ → ℕ} (found : ℕ → ℕ → ℕ) where
    -- the record found costs what is left
    pub grid_cost_lem : GridCosts q full a b d x y u 0 s left found → (h : ℕ → ℕ → ℕ) →
        ((t i : ℕ) → i + t ≤ d → Cong q (found i t) (h i t)) →
        grid_cost q full a b d x y u s h ≡ remaining full a b u left
    grid_cost_lem C h e = costs-last C (lines d x h) λ t r _ m _. eval_cong (suc (d - t)) (x r) λ i k. e t i (omega arith)

    -- where every record under the radius is the one found, and that is not under it, there is none
    pub grid-over : GridLeft q full a b d x y u 0 s left found → full * grid_distance a b d ≤ remaining full a b u left →
        (h : ℕ → ℕ → ℕ) → GridNear q full a b d x y u s h → ⊥
    grid-over L m h n = omega (arith, costs-last L.costs (lines d x h) (L.agrees (lines d x h) ((h, λ t r. refl), n)))
