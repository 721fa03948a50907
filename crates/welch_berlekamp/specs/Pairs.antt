-- The two pairs of rows that the decoder keeps, and what its functions do to them, modulo p.
--
--   pairs d1 .. entered two pairs by their parts: the first pair d1, e1 of degree a, the second d2, e2 of degree b; a + b cells
--                       have entered, and `entered` is 1 at these, else 0
--   Ratio p a b r       r is - a / b: a + r b is 0
--   Formed p f          the rows of the pair f are rows modulo p
--   Shaped p t          the rows and marks of the two pairs have their sizes and ranges
--   State p n k x y t   the pairs interpolate the symbols y of the cells that have entered
--   Holds p n k x y t   the same, with shape, and no cell from n on has entered
--   Times p w f g       the row g is f multiplied by w
--   Plus p c f g h      the row h is f + c g
--   Multiplied p w f g  the pair g is f multiplied by w, of a degree one higher
--   Freed p c f g h     the pair h is f with c times g added, of the same degree
--   Lifts p w r f g f' g'
--                       where the pair f is 0 at r, g was multiplied; else it was freed of its value there by a multiple of
--                       f, and f was multiplied
--   Enters p k x r t t' the cell r has entered
--
-- What this file is for: the contracts of the interpolation.
use Rattle.std.specs.Prelude.{◌≡◌, List, ℕ, ◌+◌, ◌*◌, ◌-◌, ◌%◌, ◌≤◌, ◌<◌, length, set}
use Rattle.bounded.specs.Bounded.{at}
use Rattle.field.specs.Congruence.{Cong}
use Rattle.field.specs.Row.{row, Row}
use Rattle.welch_berlekamp.specs.declared.interpolation.Pair.{Pair}
use Rattle.welch_berlekamp.specs.declared.interpolation.Pairs.{Pairs}
use Rattle.welch_berlekamp.specs.Interpolation.{Interpolates}

abbrev pub pairs : (d1 e1 d2 e2 : List ℕ) (a b : ℕ) (entered : List ℕ) → Pairs
pairs d1 e1 d2 e2 a b entered = record {
  first = record { d = d1; e = e1; degree = a };
  second = record { d = d2; e = e2; degree = b };
  entered = entered;
}

pub record Ratio (p a b r : ℕ) : Type 0 where
  pub below : r < p
  pub zero : Cong (p - 1) (a + r * b) 0

pub record Formed (p : ℕ) (f : Pair) : Type 0 where
  pub d : Row p f.d
  pub e : Row p f.e

pub record Shaped (p : ℕ) (t : Pairs) : Type 0 where
  pub first : Formed p t.first
  pub second : Formed p t.second
  pub size : length t.entered ≡ 16

abbrev pub State : (p n k : ℕ) (x y : List ℕ) (t : Pairs) → Type 0
State p n k x y t = Interpolates (p - 1) n k (at x) (at y) (at t.entered) t.first.degree t.second.degree
    (at t.first.d) (at t.first.e) (at t.second.d) (at t.second.e)

pub record Holds (p n k : ℕ) (x y : List ℕ) (t : Pairs) : Type 0 where
  pub shaped : Shaped p t
  pub beyond : (j : ℕ) → n ≤ j → at t.entered j ≡ 0
  pub state : State p n k x y t

abbrev pub Times : (p : ℕ) (w f g : List ℕ) → Type 0
Times p w f g = g ≡ row λ j. at f j * at w j % p

abbrev pub Plus : (p c : ℕ) (f g h : List ℕ) → Type 0
Plus p c f g h = h ≡ row λ j. (at f j + c * at g j) % p

pub record Multiplied (p : ℕ) (w : List ℕ) (f g : Pair) : Type 0 where
  pub d : Times p w f.d g.d
  pub e : Times p w f.e g.e
  pub degree : g.degree ≡ f.degree + 1

pub record Freed (p c : ℕ) (f g h : Pair) : Type 0 where
  pub d : Plus p c f.d g.d h.d
  pub e : Plus p c f.e g.e h.e
  pub degree : h.degree ≡ f.degree

pub data Lifts (p : ℕ) (w : List ℕ) (r : ℕ) (f g f' g' : Pair) : Type 0 where
  kept : at f.d r ≡ 0 → f' ≡ f → Multiplied p w g g' → Lifts p w r f g f' g'
  freed : (c : ℕ) → Ratio p (at g.d r) (at f.d r) c → Multiplied p w f f' → Freed p c g f g' → Lifts p w r f g f' g'

pub record Enters (p k : ℕ) (x : List ℕ) (r : ℕ) (t t' : Pairs) : Type 0 where
  pub marks : t'.entered ≡ set t.entered r 1
  pub holds : (n : ℕ) (y : List ℕ) → n ≤ 16 → r < n → at t.entered r ≡ 0 → Holds p n k x y t → Holds p n k x y t'
