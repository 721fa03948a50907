-- Newton's form of a polynomial, modulo p = suc q: a sum of multiples c 0, c 1, .. of the products of X - z over
-- the nodes before.
--
--   base q z i X           the product of X - z over the first i nodes z, at X
--   form q c z i X         the sum of c l times the product of l nodes, for l below i, at X
--   Enough p n k x l       more than k of n cells have a key below `taken` in l, at points that are apart
--   Cells p k x l          the same for some n
--   Whole p f              the rows of f are rows modulo p
--   pairs_of i f           the pairs of the interpolation after the first i cells, E1 = 0 and E2 = 1
--   Fits p n k x y l i f   f is the polynomial through the i cells of the least keys of l, by its values less the symbols y
--     holds                what it is and the product of its nodes are pairs that interpolate
--     entering             which cells have entered, and the keys of the others
--     left                 the product is not 0 at the other cells
--     whole                its rows
--     based, formed        product and polynomial at all sixteen points
--   Coefficients p k c z a a are the coefficients of the form of k + 1 terms: residues, 0 above the power k
--
-- What this file is for: the contracts of the interpolation through k + 1 cells.
use Rattle.std.specs.Prelude.{◌≡◌, cond, List, ℕ, zero, suc, ◌+◌, ◌*◌, ◌-◌, ◌≤◌, ◌<◌, ltb, replicate}
use Rattle.bounded.specs.Bounded.{at, sum}
use Rattle.field.specs.Congruence.{Cong}
use Rattle.field.specs.Row.{Row}
use Rattle.polynomial.specs.Eval.{eval, Apart}
use Rattle.welch_berlekamp.specs.declared.newton.Newton.{Newton}
use Rattle.welch_berlekamp.specs.Order.{taken, Placed, Entering}
use Rattle.welch_berlekamp.specs.declared.interpolation.Pairs.{Pairs}
use Rattle.welch_berlekamp.specs.Pairs.{pairs, Holds}

abbrev pub base : (q : ℕ) (z : ℕ → ℕ) (i X : ℕ) → ℕ
base q z zero X = 1
base q z (suc i) X = base q z i X * (X + q * z i)

abbrev pub form : (q : ℕ) (c z : ℕ → ℕ) (i X : ℕ) → ℕ
form q c z zero X = 0
form q c z (suc i) X = form q c z i X + c i * base q z i X

pub record Enough (p n k : ℕ) (x l : List ℕ) : Type 0 where
  pub most : n ≤ 16
  pub apart : Apart (p - 1) n (at x)
  pub placed : Placed l
  pub beyond : (j : ℕ) → n ≤ j → j < 16 → taken ≤ at l j
  pub enough : k < sum n (λ j. cond (ltb (at l j) taken) 1 0)

pub record Cells (p k : ℕ) (x l : List ℕ) : Type 0 where
  pub n : ℕ
  pub enough : Enough p n k x l

abbrev pub pairs_of : ℕ → Newton → Pairs
pairs_of i f = pairs f.product (replicate 16 0) f.rest (replicate 16 1) i 0 f.entered

pub record Whole (p : ℕ) (f : Newton) : Type 0 where
  pub rest : Row p f.rest
  pub slopes : Row p f.slopes
  pub nodes : Row p f.nodes

pub record Fits (p n k : ℕ) (x y l : List ℕ) (i : ℕ) (f : Newton) : Type 0 where
  pub holds : Holds p n k x y (pairs_of i f)
  pub entering : Entering l f.entered f.keys
  pub left : (j : ℕ) → j < n → at f.entered j ≡ 0 → ¬ (Cong (p - 1) (at f.product j) 0)
  pub whole : Whole p f
  pub based : (j : ℕ) → j < 16 → Cong (p - 1) (at f.product j) (base (p - 1) (at f.nodes) i (at x j))
  pub formed : (j : ℕ) → j < 16 →
      Cong (p - 1) (at f.rest j + at y j) (form (p - 1) (at f.slopes) (at f.nodes) i (at x j))

pub record Coefficients (p k : ℕ) (c z a : List ℕ) : Type 0 where
  pub row : Row p a
  pub above : (i : ℕ) → k < i → at a i ≡ 0
  pub evaluates : (X : ℕ) → Cong (p - 1) (eval (suc k) (at a) X) (form (p - 1) (at c) (at z) (suc k) X)
