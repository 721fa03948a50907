-- The lines of a mark as the decoder holds them: symbols s and doubts u, a message w and a cost v, over an axis c.
--
--   Answer c s u w v    w is the line's answer, and v its cost
--   Known c s u w v     where a cost v is known, w is the line's answer, and v its cost
--   Answered c s u w v
--     good              the message is a row of numbers below p
--     handed            its leading coefficient, with the doubt v, is what the line hands on
--     strip             where v is under the line's radius, w is the line's answer, and v its cost
--   KnownRows, AnsweredRows g t left u ws vs
--                       the same of each row of what is left, at the degree t
--   kept e z v R        a cost v under the radius R is kept where the coefficient e is the one found, z; else none is known
--
-- What this file is for: at each degree step only the lines whose answer is not known are read.
use Rattle.std.specs.Prelude.{◌≡◌, true, cond, Option, Some, None, List, ℕ, ◌-◌, ◌<◌, eqb, ltb, length, get_or}
use Rattle.bounded.specs.Bounded.{at}
use Rattle.field.specs.Row.{Row}
use Rattle.polynomial.specs.Powers.{Rows}
use Rattle.polynomial.specs.declared.Grid.{Grid}
use Rattle.reed_solomon.specs.declared.axis.Axis.{Axis}
use Rattle.reed_solomon.specs.Axis.{strip_radius}
use Rattle.reed_solomon.specs.Strip.{Strip}
use Rattle.grid.specs.Axes.{line_axis}
use Rattle.grid.specs.Line.{HandsOn}
use Rattle.grid.specs.Loops.{line}

abbrev pub Answer : (c : Axis) (s u w : List ℕ) (v : ℕ) → Type 0
Answer c s u w v = Strip (c.modulus.p - 1) c.full c.n c.k (at c.x) (at s) (at u) true (at w) v

pub record Known (c : Axis) (s u w : List ℕ) (v : Option ℕ) : Type 0 where
  pub good : Row c.modulus.p w
  pub strip : (n : ℕ) → v ≡ Some n → Answer c s u w n

pub record Answered (c : Axis) (s u w : List ℕ) (v : ℕ) : Type 0 where
  pub good : Row c.modulus.p w
  pub handed : HandsOn (c.modulus.p - 1) c.full c.n c.k (at c.x) (at s) (at u) (at w c.k) v
  pub strip : v < strip_radius c → Answer c s u w v

pub record KnownRows (g : Grid) (t : ℕ) (left u ws : List (List ℕ)) (vs : List (Option ℕ)) : Type 0 where
  pub size : length vs ≡ 16
  pub rows : Rows g.modulus.p ws
  pub known : (r : ℕ) → r < g.a → Known (line_axis g t) (line left r) (line u r) (line ws r) (get_or vs r None)

pub record AnsweredRows (g : Grid) (t : ℕ) (left u ws : List (List ℕ)) (vs : List ℕ) : Type 0 where
  pub size : length vs ≡ 16
  pub rows : Rows g.modulus.p ws
  pub answered : (r : ℕ) → r < g.a → Answered (line_axis g t) (line left r) (line u r) (line ws r) (at vs r)

abbrev pub kept : (e z v R : ℕ) → Option ℕ
kept e z v R = cond (eqb e z) (cond (ltb v R) (Some v) None) None
