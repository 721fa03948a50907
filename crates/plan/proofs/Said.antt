-- A sound plan and its struct.
--
--   points_loaded   sixteen bytes from byte a on, loaded, are the row of the points there
--   point_at        a point of that row is the plan's
--   fits            the numbers of a sound plan's grid fit together
--   says            the struct says what its bytes do
--   bytes_are       a struct that says what the bytes of a plan do has these bytes
--
-- What this file is for: what is above takes the struct, and what is proved of it is said of the plan's bytes. Assumes nothing.
use mathlib.Core.Path.{◌≡◌, refl, sym, ap, ◌∙◌}
use mathlib.Core.List.{List, [], ◌∷◌, ◌++◌}
use Prim.Native.Nat.{ℕ, ◌+◌, ◌*◌, ◌-◌, ◌/◌, ◌%◌, ◌<◌}
use native.Mathlib.Omega.{arith}
use native.Mathlib.Nat.{mod-add-div'}
use lib.ListN.{length, take, drop, get_or-append}
use lib.Seq.{get_or-append-add}
use Rattle.bounded.specs.Bounded.{at, tab}
use Rattle.bounded.proofs.Tab.{tab-is, tab-eq}
use Rattle.bounded.proofs.Part.{part_at}
use Rattle.field.specs.Row.{row, Row}
use Rattle.field.proofs.Row.{row_at}
use Rattle.polynomial.specs.Eval.{Apart}
use Rattle.polynomial.specs.Fits.{Fits}
use Rattle.polynomial.specs.declared.Grid.{Grid}
use Rattle.definitions.specs.Plan.{season, modulus, rows, columns, degree, row_point, column_point, side, point}
use Rattle.definitions.specs.Cost.{full_in, full}
use Rattle.definitions.specs.Sound.{Sound}
use Rattle.definitions.proofs.Plan.{plan-side, plan-apart}
use Rattle.definitions.proofs.Full.{full-most}
use Rattle.plan.specs.declared.season.Plan.{Plan}
use Rattle.plan.specs.Bytes.{said}
use Rattle.plan.specs.Says.{bytes_of, Says}
use Rattle.plan.proofs.Residues.{points-row}

pub points_loaded : (a : ℕ) (P : List ℕ) {x : List ℕ} → x ≡ row (at (take (a + 16 - a) (drop a P))) → x ≡ row (λ i. at P (a + i))
points_loaded a P e = e ∙ tab-eq 16 λ i l. part_at a 16 P i l

module _ {P : List ℕ} (S : Sound P) where
  pub point_at : (i j : ℕ) → j < side P i → at (row (point P i)) j ≡ point P i j
  point_at i j l = row_at (point P i) j (omega (arith, (plan-side S i).most))

  apart : (i : ℕ) → Apart (modulus P - 1) (side P i) (at (row (point P i)))
  apart i = record {
    cancel = λ j r b l k h. (plan-apart S i).cancel j r b l k (rw (point_at i j (omega arith), point_at i r k) at h);
  }

  pub fits : {p a b d f : ℕ} {x y : List ℕ} → p ≡ modulus P → x ≡ row (row_point P) → a ≡ rows P → y ≡ row (column_point P) →
      b ≡ columns P → d ≡ degree P → f ≡ full P → Fits p x a y b d f
  fits p x a y b d f = rw (p, x, a, y, b, d, f) (record {
    prime = S.prime;
    rows = S.tall.most;
    columns = S.wide.most;
    row_points = points-row S 0;
    column_points = points-row S 1;
    rows_apart = apart 0;
    columns_apart = apart 1;
    low = omega (arith, S.low);
    narrow = omega (arith, S.low);
    full = omega (arith, full-most P);
  })

pub says : (plan : Plan) → Says (bytes_of plan) plan
unfolding said full
says plan =
    let g = plan.grid in
    let s = plan.season in
    let head : List ℕ = s / 256 ∷ s % 256 ∷ g.modulus.p ∷ g.a ∷ g.b ∷ g.d ∷ [] in
    let last : List ℕ = 0 ∷ 0 ∷ [] in
    let x = g.fit.row_points in
    let y = g.fit.column_points in
    let season_is : s ≡ s / 256 * 256 + s % 256 = omega (arith, mod-add-div' s 256) in
    record {
      sound = plan.sound;
      season = season_is;
      modulus = refl;
      rows = refl;
      columns = refl;
      degree = refl;
      row_points = tab-is 16 _ g.x x.size λ i l.
          sym (get_or-append-add head (g.x ++ (g.y ++ last)) i 0 ∙ get_or-append g.x (g.y ++ last) 0 i (omega (arith, x.size)));
      column_points = tab-is 16 _ g.y y.size λ i l.
          sym (ap (λ n. at (head ++ (g.x ++ (g.y ++ last))) n) (omega arith)
          ∙ get_or-append-add head (g.x ++ (g.y ++ last)) (16 + i) 0
          ∙ ap (λ n. at (g.x ++ (g.y ++ last)) (n + i)) (sym x.size)
          ∙ get_or-append-add g.x (g.y ++ last) i 0
          ∙ get_or-append g.y last 0 i (omega (arith, y.size)));
      full = plan.scale ∙ ap full_in season_is;
    }

pub bytes_are : {P : List ℕ} → Sound P → at P 1 < 256 → {s : ℕ} (g : Grid) → s ≡ season P → g.modulus.p ≡ modulus P →
    g.a ≡ rows P → g.b ≡ columns P → g.d ≡ degree P → g.x ≡ row (row_point P) → g.y ≡ row (column_point P) → said s g ≡ P
unfolding said tab
bytes_are {P} S small {s} g e p a b d x y =
    let high : s / 256 ≡ at P 0 = omega (arith, e, small) in
    let low : s % 256 ≡ at P 1 = omega (arith, e, small) in
    let zero : at P 38 ≡ 0 = S.spare 38 (omega arith) (omega arith) in
    let last : at P 39 ≡ 0 = S.spare 39 (omega arith) (omega arith) in
    rw (high, low, p, a, b, d, x, y) (sym (tab-is 40 (at P) P S.whole (λ i l. refl) ∙ rw (zero, last) refl))
