-- The order of real dates, by their keys.
--
--   key-earlier, key-on_or_before    two real dates are in the order of their keys
--   same-date                        dates with the same year, month and day are one date
--   key-same                         real dates with one key are one date
--   earlier-key, on_or_before-key    what the order says, in numbers
--   earlier_by, on_or_before_by      and back
--
-- What this file is for: the code compares keys, and laws of the order are laws of numbers. Assumes nothing.
use mathlib.Core.Path.{◌≡◌, sym, ap, ◌∙◌}
use mathlib.Core.Bool.{true, not, ◌&&◌, ◌||◌}
use Prim.Native.Nat.{ℕ, ◌≤◌, ◌<◌}
use native.Mathlib.Omega.{arith}
use native.Mathlib.Decide.{dec_lt}
use lib.Dec.{eqb, ltb, leb}
use borrow.Author.Tests.{ltb-true, leb-true, lt-ltb, le-ltb, lt-leb, le-leb, eq-eqb, ne_eqb}
use Rattle.calendar.specs.Dates.{real, earlier, on_or_before, key}
use Rattle.calendar.specs.Calendar.{date, IsReal}
use Rattle.calendar.specs.declared.Date.{Date}
use Rattle.calendar.proofs.Real.{is_real}

pub same-date : {y m d y' m' d' : ℕ} → y ≡ y' → m ≡ m' → d ≡ d' → date y m d ≡ date y' m' d'
same-date y m d = rw (y, m, d)

module _ (t u : Date) (r : real t ≡ true) (s : real u ≡ true) where
  abbrev a : IsReal t
  a = is_real t r

  abbrev b : IsReal u
  b = is_real u s

  pub key-earlier : earlier t u ≡ ltb (key t) (key u)
  unfolding earlier
  key-earlier = by_year (dec_lt t.year u.year) (dec_lt u.year t.year)
    where
      by_day : t.year ≡ u.year → t.month ≡ u.month → Dec (t.day < u.day) → ltb t.day u.day ≡ ltb (key t) (key u)
      by_day e h (yes l) = rw (lt-ltb t.day u.day l) (sym (lt-ltb (key t) (key u) (omega arith)))
      by_day e h (no l) = rw (le-ltb t.day u.day (omega arith)) (sym (le-ltb (key t) (key u) (omega arith)))

      by_month : t.year ≡ u.year → Dec (t.month < u.month) → Dec (u.month < t.month) →
          (ltb t.month u.month || (eqb t.month u.month && ltb t.day u.day)) ≡ ltb (key t) (key u)
      by_month e (yes l) m = rw (lt-ltb t.month u.month l) (sym (lt-ltb (key t) (key u) (omega (arith, a.most))))
      by_month e (no l) (yes m) =
          rw (le-ltb t.month u.month (omega arith), ne_eqb t.month u.month λ h. omega arith)
          (sym (le-ltb (key t) (key u) (omega (arith, b.most))))
      by_month e (no l) (no m) =
          let h : t.month ≡ u.month = omega arith in
          rw (le-ltb t.month u.month (omega arith), eq-eqb t.month u.month h) (by_day e h (dec_lt t.day u.day))

      by_year : Dec (t.year < u.year) → Dec (u.year < t.year) → earlier t u ≡ ltb (key t) (key u)
      by_year (yes l) m =
          rw (lt-ltb t.year u.year l) (sym (lt-ltb (key t) (key u) (omega (arith, a.december, a.most))))
      by_year (no l) (yes m) =
          rw (le-ltb t.year u.year (omega arith), ne_eqb t.year u.year λ e. omega arith)
          (sym (le-ltb (key t) (key u) (omega (arith, b.december, b.most))))
      by_year (no l) (no m) =
          let e : t.year ≡ u.year = omega arith in
          rw (le-ltb t.year u.year (omega arith), eq-eqb t.year u.year e)
          (by_month e (dec_lt t.month u.month) (dec_lt u.month t.month))

  pub key-same : key t ≡ key u → t ≡ u
  key-same e =
      let y : t.year ≡ u.year = omega (arith, e, a.december, a.most, b.december, b.most) in
      let m : t.month ≡ u.month = omega (arith, e, y, a.most, b.most) in
      let d : t.day ≡ u.day = omega (arith, e, y, m) in
      same-date y m d

  -- as numbers
  pub earlier-key : earlier t u ≡ true → key t < key u
  earlier-key e = ltb-true (key t) (key u) (sym key-earlier ∙ e)

  pub earlier_by : key t < key u → earlier t u ≡ true
  earlier_by l = key-earlier ∙ lt-ltb (key t) (key u) l

-- the same of the order with its end
module _ (t u : Date) (r : real t ≡ true) (s : real u ≡ true) where
  pub key-on_or_before : on_or_before t u ≡ leb (key t) (key u)
  key-on_or_before = ap not (key-earlier u t s r) ∙ go (dec_lt (key u) (key t))
    where
      go : Dec (key u < key t) → not (ltb (key u) (key t)) ≡ leb (key t) (key u)
      go (yes l) = rw (lt-ltb (key u) (key t) l) (sym (lt-leb (key t) (key u) l))
      go (no l) = rw (le-ltb (key u) (key t) (omega arith)) (sym (le-leb (key t) (key u) (omega arith)))

  pub on_or_before-key : on_or_before t u ≡ true → key t ≤ key u
  on_or_before-key e = leb-true (key t) (key u) (sym key-on_or_before ∙ e)

  pub on_or_before_by : key t ≤ key u → on_or_before t u ≡ true
  on_or_before_by l = key-on_or_before ∙ le-leb (key t) (key u) l
