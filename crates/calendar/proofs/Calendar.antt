-- The calendar's laws.
--
--   year_days          how many real dates a year has
--   all_days           and all years together
--   real-exactly       which dates are real
--   in_order           the order of real dates
--   next-day           every real date but the last has a next one, and the order agrees with it
--   real-cases         dates that are real and dates that are not
--   following-cases    the day after, at the ends of months and years
--
-- What this file is for: that the definitions of dates are those of the Gregorian calendar. Assumes nothing.
use mathlib.Core.Path.{◌≡◌, refl, sym, ap, ap₂, ◌∙◌}
use mathlib.Core.Bool.{Bool, true, false, not, cond, ◌&&◌, ◌||◌}
use mathlib.Core.List.{List, [], ◌∷◌, ◌++◌, map}
use mathlib.Core.Logic.{◌≢◌, ◌↔◌, ◌⊎◌, inl, inr}
use Prim.Native.Nat.{ℕ, ◌+◌, ◌*◌, ◌%◌, ◌≤◌, ◌<◌}
use native.Mathlib.Omega.{arith}
use native.Mathlib.Decide.{dec_lt}
use lib.Dec.{eqb, ltb, leb}
use lib.ListN.{replicate}
use borrow.Author.Tests.{lt-ltb, le-ltb, eq-eqb, ne_eqb}
use Rattle.bounded.specs.Bounded.{at, sum}
use Rattle.bounded.proofs.Sum.{sum-eq}
use Rattle.bounded.proofs.Parts.{each-true, both_false, first-false, first-true, nor}
use Rattle.calendar.specs.Dates.{leap, months, days_in, real, earlier, key}
use Rattle.calendar.specs.Calendar.{date, IsReal, days_of, YearDays, first_date, last_date, following, InOrder, IsNext}
use Rattle.calendar.specs.declared.Date.{Date}
use Rattle.calendar.proofs.Real.{month_some, is_real, real-is, real-day}
use Rattle.calendar.proofs.Order.{key-same, earlier-key, earlier_by, on_or_before_by}

-- the days of a year's months, counted day by day
abbrev counted : Bool → ℕ
counted b = sum 13 λ m. sum 32 λ d. cond (leb 1 d && leb d (at (0 ∷ months b) m)) 1 0

counted_by : (y : ℕ) → 1900 ≤ y → y ≤ 2199 → days_of y ≡ cond (leap y) 366 365
counted_by y from to = sum-eq 13 (λ m _. sum-eq 32 λ d _. ap (λ b. cond b 1 0) (sym (real-day (date y m d) from to refl)))
    ∙ counts (leap y)
  where
    counts : (b : Bool) → counted b ≡ cond b 366 365
    counts true = refl
    counts false = refl

-- which years are leap years
module _ (y : ℕ) where
  leap-none : y % 4 ≢ 0 → leap y ≡ false
  leap-none n = first-false (eqb (y % 4) 0) _ (ne_eqb (y % 4) 0 n)

  leap-fourth : y % 4 ≡ 0 → y % 100 ≢ 0 → leap y ≡ true
  leap-fourth e n = each-true (eq-eqb (y % 4) 0 e) (first-true (not (eqb (y % 100) 0)) _ (ap not (ne_eqb (y % 100) 0 n)))

  leap-hundredth : y % 100 ≡ 0 → y % 400 ≢ 0 → leap y ≡ false
  leap-hundredth e n =
      both_false (eqb (y % 4) 0) _ λ _. nor (ap not (eq-eqb (y % 100) 0 e)) (ne_eqb (y % 400) 0 n)

  leap-four_hundredth : y % 400 ≡ 0 → leap y ≡ true
  leap-four_hundredth e =
      let f : y % 4 ≡ 0 = omega arith in
      let h : y % 100 ≡ 0 = omega arith in
      each-true (eq-eqb (y % 4) 0 f) (ap₂ (λ a b. not a || b) (eq-eqb (y % 100) 0 h) (eq-eqb (y % 400) 0 e))

pub year_days : (y : ℕ) → 1900 ≤ y → y ≤ 2199 → YearDays y
year_days y from to = record {
  common = λ n. days (leap-none y n);
  fourth = λ e n. days (leap-fourth y e n);
  hundredth = λ e n. days (leap-hundredth y e n);
  four_hundredth = λ e. days (leap-four_hundredth y e);
}
  where
    days : {b : Bool} → leap y ≡ b → days_of y ≡ cond b 366 365
    days e = counted_by y from to ∙ ap (λ b. cond b 366 365) e

pub real-exactly : (t : Date) → (real t ≡ true) ↔ IsReal t
real-exactly t = (is_real t, λ r. real-is t r.from r.to r.first r.last)

pub all_days : sum 300 (λ i. days_of (1900 + i)) ≡ 109573
all_days = sum-eq 300 (λ i l. counted_by (1900 + i) (omega arith) (omega arith)) ∙ refl

pub in_order : InOrder
unfolding earlier real
in_order = record {
  never = λ t. rw (alike t.year, alike t.month, alike t.day, eq-eqb t.year t.year refl)
      (ap (λ b. b && false) (eq-eqb t.month t.month refl));
  through = λ t u v r s q e h. earlier_by t v r q (omega (arith, earlier-key t u r s e, earlier-key u v s q h));
  either = λ t u r s. by t u r s (dec_lt (key t) (key u)) (dec_lt (key u) (key t));
  first = λ t r. let a = is_real t r in on_or_before_by first_date t refl r (omega (arith, a.from, a.january, a.first));
  last = λ t r. let a = is_real t r in on_or_before_by t last_date r refl (omega (arith, a.to, a.december, a.most));
}
  where
    alike : (n : ℕ) → ltb n n ≡ false
    alike n = le-ltb n n (omega arith)

    by : (t u : Date) → real t ≡ true → real u ≡ true → Dec (key t < key u) → Dec (key u < key t) →
        (earlier t u ≡ true) ⊎ ((t ≡ u) ⊎ (earlier u t ≡ true))
    by t u r s (yes l) m = inl (earlier_by t u r s l)
    by t u r s (no l) (yes m) = inr (inr (earlier_by u t s r m))
    by t u r s (no l) (no m) = inr (inl (key-same t u r s (omega arith)))

module _ (t : Date) (r : real t ≡ true) where
  abbrev a : IsReal t
  a = is_real t r

  -- a date after the last day of a month is in a later month
  over : days_in t.year t.month ≤ t.day → (u : Date) (s : real u ≡ true) → earlier t u ≡ true →
      t.year * 16 + t.month < u.year * 16 + u.month
  over h u s e = go (dec_lt (t.year * 16 + t.month) (u.year * 16 + u.month))
    where
      b : IsReal u
      b = is_real u s

      l : key t < key u
      l = earlier-key t u r s e

      go : Dec (t.year * 16 + t.month < u.year * 16 + u.month) → t.year * 16 + t.month < u.year * 16 + u.month
      go (yes m) = m
      go (no m) =
          let y : u.year ≡ t.year = omega (arith, l, m, a.first, a.december, b.december, b.most) in
          let k : u.month ≡ t.month = omega (arith, l, m, y, a.first, b.most) in
          absurd (omega (arith, l, y, k, h, rw (y, k) at b.last))

  -- the first day of another month is next to the last of this one, if no month lies between them
  turns : days_in t.year t.month ≤ t.day → (n : Date) → real n ≡ true → n.day ≡ 1 →
      t.year * 16 + t.month < n.year * 16 + n.month →
      ((u : Date) → real u ≡ true → t.year * 16 + t.month < u.year * 16 + u.month →
      n.year * 16 + n.month ≤ u.year * 16 + u.month) → IsNext t n
  turns h n q e l m = record {
    there = q;
    later = earlier_by t n r q (omega (arith, l, e, a.most));
    none = λ u s f. on_or_before_by n u q s (omega (arith, m u s (over h u s f), e, (is_real u s).first));
  }

  -- the last day of December, but for the last year's
  december : t ≢ last_date → 12 ≤ t.month → days_in t.year t.month ≤ t.day → t.year < 2199
  unfolding real
  december z m h = elim (dec_lt t.year 2199) [
    | yes l ↦ l
    | no l ↦ absurd (z (key-same t last_date r refl (omega (arith, a.to, a.december, a.most, rw e at h))))
  ]
    where
      e : t.month ≡ 12
      e = omega (arith, a.december)

  pub next-day : t ≢ last_date → IsNext t (following t)
  next-day z = in_month (dec_lt t.day (days_in t.year t.month)) (dec_lt t.month 12)
    where
      in_month : Dec (t.day < days_in t.year t.month) → Dec (t.month < 12) → IsNext t (following t)
      in_month (yes l) m =
          let q : real (date t.year t.month (t.day + 1)) ≡ true =
          real-is _ a.from a.to (omega arith) (omega arith) in
          rw (lt-ltb _ _ l) (record {
            there = q;
            later = earlier_by t _ r q (omega arith);
            none = λ u s e. on_or_before_by _ u q s (omega (arith, earlier-key t u r s e));
          })
      in_month (no l) (yes m) =
          let h : days_in t.year t.month ≤ t.day = omega arith in
          let k = month_some t.year (t.month + 1) (omega arith) (omega arith) in
          let q : real (date t.year (t.month + 1) 1) ≡ true = real-is _ a.from a.to (omega arith) k in
          rw (le-ltb _ _ h, lt-ltb _ _ m) (turns h _ q refl (omega arith) λ u s k. omega arith)
      in_month (no l) (no m) =
          let h : days_in t.year t.month ≤ t.day = omega arith in
          let y : t.year < 2199 = december z (omega arith) h in
          let k = month_some (t.year + 1) 1 (omega arith) (omega arith) in
          let q : real (date (t.year + 1) 1 1) ≡ true = real-is _ (omega (arith, a.from)) (omega arith) (omega arith) k in
          let d : 12 ≤ t.month = omega arith in
          rw (le-ltb _ _ h, le-ltb _ _ d) (turns h _ q refl (omega (arith, a.december)) λ u s k.
          omega (arith, a.december, d, (is_real u s).january, (is_real u s).december))

-- January to December; the months of 31 days; all but February; and all
abbrev twelve : List ℕ
twelve = 1 ∷ 2 ∷ 3 ∷ 4 ∷ 5 ∷ 6 ∷ 7 ∷ 8 ∷ 9 ∷ 10 ∷ 11 ∷ 12 ∷ []

abbrev long : List Bool
long = true ∷ false ∷ true ∷ false ∷ true ∷ false ∷ true ∷ true ∷ false ∷ true ∷ false ∷ true ∷ []

abbrev but_february : List Bool
but_february = true ∷ false ∷ replicate 10 true

abbrev all : List Bool
all = replicate 12 true

-- 29 February in years with and without one; in the leap year 2028 and in 2026 day 31, 30, 29 and 28 of each month; month 0 and
-- 13, day 0 and 32; the ends of 1899 and 2199 and the days after; numbers that a byte or two do not hold
pub real-cases :
    map (λ y. real (date y 2 29)) (1904 ∷ 1996 ∷ 2000 ∷ 2004 ∷ 2028 ∷ 2196 ∷ [])
    ++ map (λ y. real (date y 2 29)) (1900 ∷ 1902 ∷ 2023 ∷ 2026 ∷ 2100 ∷ 2199 ∷ [])
    ++ map (λ m. real (date 2028 m 31)) twelve ++ map (λ m. real (date 2026 m 31)) twelve
    ++ map (λ m. real (date 2028 m 30)) twelve ++ map (λ m. real (date 2026 m 30)) twelve
    ++ map (λ m. real (date 2028 m 29)) twelve ++ map (λ m. real (date 2026 m 29)) twelve
    ++ map (λ m. real (date 2028 m 28)) twelve ++ map (λ m. real (date 2026 m 28)) twelve
    ++ map real (date 2026 0 1 ∷ date 2026 13 1 ∷ date 2026 1 0 ∷ date 2026 1 32 ∷ [])
    ++ map real (date 1899 12 31 ∷ date 1900 1 1 ∷ date 2199 12 31 ∷ date 2200 1 1 ∷ [])
    ++ map real (date 67562 1 1 ∷ date 2026 257 1 ∷ date 2026 1 257 ∷ date 4294967295 4294967295 4294967295 ∷ [])
    ≡ true ∷ true ∷ true ∷ true ∷ true ∷ true
    ∷ false ∷ false ∷ false ∷ false ∷ false ∷ false
    ∷ long ++ long ++ but_february ++ but_february ++ all ++ but_february ++ all ++ all
    ++ false ∷ false ∷ false ∷ false
    ∷ false ∷ true ∷ true ∷ false
    ∷ false ∷ false ∷ false ∷ false ∷ []
unfolding real
real-cases = refl

-- in a month; at the end of one of 30 days, of February in three years, and of a year
pub following-cases :
    map following (date 2026 11 15 ∷ date 2026 6 30 ∷ date 2026 2 28 ∷ date 2000 2 28 ∷ date 2100 2 28 ∷ date 2026 12 31 ∷ [])
    ≡ date 2026 11 16 ∷ date 2026 7 1 ∷ date 2026 3 1 ∷ date 2000 2 29 ∷ date 2100 3 1 ∷ date 2027 1 1 ∷ []
following-cases = refl
