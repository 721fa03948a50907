-- What is known of a real date.
--
--   month_some     every month has a day
--   other_month    a month that is no February has 30 days or 31
--   is_real        its year, month and day are within their bounds
--   unreal         a date of which they are not is none
--   real-day       in a year of the calendar the day decides
--   real-is        a date within the bounds is real
--
-- What this file is for: the test of a date, part by part, as the code makes it, and as numbers. Assumes nothing.
use mathlib.Core.Path.{◌≡◌, refl, sym, ap, ◌∙◌}
use mathlib.Core.Bool.{Bool, true, false, not, cond, ◌&&◌}
use mathlib.Core.List.{◌∷◌}
use mathlib.Core.Logic.{◌≢◌}
use Prim.Native.Nat.{ℕ, ◌≤◌, ◌<◌}
use native.Mathlib.Omega.{arith}
use native.Mathlib.Decide.{dec_lt, ℕ_discrete}
use lib.Dec.{eqb, ltb, leb}
use lib.ListN.{get_or-eq_default}
use borrow.Author.Tests.{leb-true, le-leb, ltb-false, eqb-true, ne_eqb, not-false}
use Rattle.bounded.specs.Bounded.{at, any}
use Rattle.bounded.proofs.Any.{any_none}
use Rattle.bounded.proofs.Parts.{both, each-true, not_both}
use Rattle.calendar.specs.Dates.{leap, months, short, days_in, real}
use Rattle.calendar.specs.Calendar.{IsReal}
use Rattle.calendar.specs.declared.Date.{Date}

module _ (b : Bool) where
  abbrev days : ℕ → ℕ
  days m = at (0 ∷ months b) m

  none : (m : ℕ) → 13 ≤ m → days m ≡ 0
  none m l = get_or-eq_default (0 ∷ months b) 0 l

  some : (m : ℕ) → 1 ≤ days m → (1 ≤ m) × (m ≤ 12)
  some m h = (
    elim (ℕ_discrete m 0) [ yes e ↦ absurd (omega (arith, h, ap days e)) | no n ↦ omega arith ],
    elim (dec_lt m 13) [ yes l ↦ omega arith | no l ↦ absurd (omega (arith, h, none m (omega arith))) ],
  )

-- what a test says of each of the months that there are, and of month 0
tried : (f : Bool → ℕ → Bool) → any 13 (f true) ≡ false → any 13 (f false) ≡ false → (b : Bool) (m : ℕ) → m < 13 → f b m ≡ false
tried f e h true m l = any_none 13 (f true) e m l
tried f e h false m l = any_none 13 (f false) h m l

most : (b : Bool) (m : ℕ) → days b m ≤ 31
unfolding any
most b m = elim (dec_lt m 13) [
  | yes l ↦ ltb-false _ _ (tried (λ b i. ltb 31 (days b i)) refl refl b m l)
  | no l ↦ omega (arith, none b m (omega arith))
]

pub month_some : (y m : ℕ) → 1 ≤ m → m ≤ 12 → 1 ≤ days_in y m
unfolding any
month_some y m l h = leb-true _ _ (not-false _ (not_both _ _
    (tried (λ b i. leb 1 i && not (leb 1 (days b i))) refl refl (leap y) m (omega arith)) (le-leb 1 m l)))

pub other_month : (y m : ℕ) → 1 ≤ m → m ≤ 12 → m ≢ 2 → days_in y m ≡ cond (short m) 30 31
unfolding any
other_month y m l h n = eqb-true _ _ (not-false _ (not_both _ _
    (tried (λ b i. (leb 1 i && not (eqb i 2)) && not (eqb (days b i) (cond (short i) 30 31))) refl refl (leap y) m (omega arith))
    (each-true (le-leb 1 m l) (ap not (ne_eqb m 2 n)))))

pub is_real : (t : Date) → real t ≡ true → IsReal t
unfolding real
is_real t e =
    let (era, in_month) = both (leb 1900 t.year && leb t.year 2199) _ e in
    let (from, to) = both (leb 1900 t.year) _ era in
    let (first, last) = both (leb 1 t.day) _ in_month in
    let d : 1 ≤ t.day = leb-true 1 t.day first in
    let l : t.day ≤ days_in t.year t.month = leb-true _ _ last in
    let m = some (leap t.year) t.month (omega arith) in record {
      from = leb-true 1900 t.year from;
      to = leb-true t.year 2199 to;
      january = m.0;
      december = m.1;
      first = d;
      last = l;
      most = omega (arith, l, most (leap t.year) t.month);
    }

pub unreal : (t : Date) → (IsReal t → ⊥) → false ≡ real t
unreal t n = go (real t) refl
  where
    go : (b : Bool) → real t ≡ b → false ≡ real t
    go true e = absurd (n (is_real t e))
    go false e = sym e

-- in a year of the calendar it is the day that counts
pub real-day : (t : Date) → 1900 ≤ t.year → t.year ≤ 2199 → {r : ℕ} → r ≡ days_in t.year t.month →
    (leb 1 t.day && leb t.day r) ≡ real t
unfolding real
real-day t from to e = rw (e, le-leb 1900 t.year from, le-leb t.year 2199 to)

pub real-is : (t : Date) → 1900 ≤ t.year → t.year ≤ 2199 → 1 ≤ t.day → t.day ≤ days_in t.year t.month → real t ≡ true
real-is t from to first last =
    sym (real-day t from to refl) ∙ each-true (le-leb 1 t.day first) (le-leb t.day (days_in t.year t.month) last)
