-- What the strip decoder hands back on an axis g, for symbols s and doubts u.
--
--   found r                 whether the answer r is a polynomial
--   message r, values r, cost r
--                           its coefficients, values and cost; all 0 where there is none
--   StripDecoded g s u r
--     strip, small, above   the contract of a strip reader (Strip.antt), whose coefficients are residues, 0 above the power k
--     values                where it found one, the values are its own at all sixteen points
--   Confirmed g s u d       the polynomial d was measured, and is under the radius
--   Tried g s u w r         a trial at the cells that w marks: its find was measured, or no near polynomial is under the radius
--   Fitted g s f            the polynomial f goes through k + 1 cells
--   Hoped k t               the pairs t may have a candidate: the first degree is over the second and k, and there are as many
--                           usable cells
--   Candidate g s t         the pairs t hold, and may have a candidate
--   Hope g u t r            r says whether they may: if so they are hoped, if not no near polynomial is under the radius
--
-- What this file is for: the decoder's contract, on which the readers of strips and of marks rest, and those of its parts.
use Rattle.std.specs.Prelude.{◌≡◌, Bool, true, false, List, ℕ, suc, ◌+◌, ◌-◌, ◌%◌, ◌<◌, replicate, Option, Some, None}
use Rattle.bounded.specs.Bounded.{at, sum}
use Rattle.field.specs.Row.{row, Row}
use Rattle.polynomial.specs.Eval.{eval}
use Rattle.welch_berlekamp.specs.declared.interpolation.Pairs.{Pairs}
use Rattle.welch_berlekamp.specs.declared.newton.Newton.{Newton}
use Rattle.reed_solomon.specs.declared.axis.Axis.{Axis}
use Rattle.reed_solomon.specs.declared.decoder.Decoded.{Decoded}
use Rattle.reed_solomon.specs.Strip.{Strip}
use Rattle.reed_solomon.specs.Axis.{Received, spent, strip_radius, HoldsOn, FitsOn}
use Rattle.reed_solomon.specs.Near.{usable, Refuted}

abbrev pub found : Option Decoded → Bool
found (Some d) = true
found None = false

abbrev pub message : Option Decoded → List ℕ
message (Some d) = d.message
message None = replicate 16 0

abbrev pub values : Option Decoded → List ℕ
values (Some d) = d.values
values None = replicate 16 0

abbrev pub cost : Option Decoded → ℕ
cost (Some d) = d.cost
cost None = 0

pub record StripDecoded (g : Axis) (s u : List ℕ) (r : Option Decoded) : Type 0 where
  pub strip : Strip (g.modulus.p - 1) g.full g.n g.k (at g.x) (at s) (at u) (found r) (at (message r)) (cost r)
  pub small : Row g.modulus.p (message r)
  pub above : (i : ℕ) → g.k < i → at (message r) i ≡ 0
  pub values : found r ≡ true → values r ≡ row (λ j. eval (suc g.k) (at (message r)) (at g.x j) % g.modulus.p)

pub record Confirmed (g : Axis) (s u : List ℕ) (d : Decoded) : Type 0 where
  pub message : Row g.modulus.p d.message
  pub above : (i : ℕ) → g.k < i → at d.message i ≡ 0
  pub values : d.values ≡ row (λ j. eval (suc g.k) (at d.message) (at g.x j) % g.modulus.p)
  pub measured : d.cost ≡ spent g s u (at d.values)
  pub under : d.cost < strip_radius g

pub data Tried (g : Axis) (s u w : List ℕ) : Option Decoded → Type 0 where
  hit : {d : Decoded} → Confirmed g s u d → Tried g s u w (Some d)
  miss : Refuted g s u w → Tried g s u w None

pub record Fitted (g : Axis) (s : List ℕ) (f : Newton) : Type 0 where
  pub keys : List ℕ
  pub fits : FitsOn g s keys f

pub record Hoped (k : ℕ) (t : Pairs) : Type 0 where
  pub high : t.second.degree + k < t.first.degree
  pub count : sum 16 (usable (at t.entered) (at t.second.e)) ≡ t.first.degree

pub record Candidate (g : Axis) (s : List ℕ) (t : Pairs) : Type 0 where
  pub holds : HoldsOn g s t
  pub hoped : Hoped g.k t

pub record Hope (g : Axis) (u : List ℕ) (t : Pairs) (r : Bool) : Type 0 where
  pub yes : r ≡ true → Hoped g.k t
  pub no : r ≡ false → (s : List ℕ) → Received g s u → HoldsOn g s t → Refuted g s u t.entered
