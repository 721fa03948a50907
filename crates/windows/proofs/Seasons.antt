-- What the belt relies on of season windows.
--
--   shared_exactly    the test by end days means that some real day lies in both windows
--   season-exactly    which number is given, by the bytes of the file and the date
--   one-window        where neither 14 nor 15 applies and the date is real and in a window, it is in one alone, which is found
--   season-given      where a season is given, the date is real and in one window alone
--
-- What this file is for: the sentences of request 7, from the rows of its refusals. Assumes nothing.
use mathlib.Core.Path.{◌≡◌, refl, sym, ap, ◌∙◌}
use mathlib.Core.Logic.{◌≢◌, ◌↔◌}
use mathlib.Core.Bool.{Bool, true, false, not, true≢false}
use mathlib.Core.List.{List}
use Prim.Native.Nat.{ℕ, ◌%◌, ◌≤◌, ◌<◌}
use native.Mathlib.Omega.{arith}
use native.Mathlib.Decide.{dec_le, dec_lt, ℕ_discrete}
use lib.Dec.{eqb, ltb}
use lib.ListN.{length}
use borrow.Author.Tests.{ltb-false, le-ltb, eqb-true, not-true, not-false}
use Rattle.bounded.specs.Bounded.{at, any}
use Rattle.bounded.proofs.Any.{any_none, none_any, some-any}
use Rattle.bounded.proofs.Index.{index-within, index-holds}
use Rattle.bounded.proofs.Parts.{both, each-true, nor}
use Rattle.calendar.specs.Dates.{real, earlier, on_or_before, key}
use Rattle.calendar.specs.declared.Date.{Date}
use Rattle.calendar.proofs.Order.{on_or_before-key, on_or_before_by}
use Rattle.definitions.specs.Plan.{season}
use Rattle.definitions.specs.Windows.{windows, window_at, first_day, last_day, has, faulty, meet, clashing, first_with}
use Rattle.definitions.specs.Windows.{season_rows, season_number, season_found}
use Rattle.definitions.specs.Seasons.{Window, IsWindow, HasDay, SharedDay, Readable, Apart, SeasonExactly, OneWindow}
use Rattle.definitions.proofs.Sound.{filled-no}
use Rattle.definitions.proofs.Windows.{season-at}
use Rattle.definitions.proofs.Refusals.{◌&◌, equal, holds, turned_true}
use Rattle.windows.proofs.EndDays.{is-window}

-- a window that is as it should be is without fault
window-is : (W : List ℕ) → IsWindow W → faulty W ≡ false
window-is W S = nor (ap not S.first) (nor (ap not S.last)
    (nor (not-true (earlier (last_day W) (first_day W)) S.order) (filled-no W 10 2 zero)))
  where
    zero : (i : ℕ) → 10 ≤ i → i < 12 → at W i ≡ 0
    zero i l m = elim (dec_lt i 11) [
      | yes h ↦ let e : i ≡ 10 = omega arith in rw e S.zeros.0
      | no h ↦ let e : i ≡ 11 = omega arith in rw e S.zeros.1
    ]

-- the later of the first days lies in both
module _ (W W' : List ℕ) (S : IsWindow W) (S' : IsWindow W') where
  later : key (first_day W) ≤ key (first_day W') → meet W W' ≡ true → SharedDay W W'
  later l e =
      let (_, h) = both (on_or_before (first_day W) (last_day W')) _ e in (
        first_day W',
        S'.first,
        (on_or_before_by (first_day W) (first_day W') S.first S'.first l, h),
        (on_or_before_by (first_day W') (first_day W') S'.first S'.first (omega arith), S'.order),
      )

  meeting : SharedDay W W' → meet W W' ≡ true
  meeting (t, r, (a, b), (c, d)) =
      let e = on_or_before-key (first_day W) t S.first r a in
      let f = on_or_before-key t (last_day W) r S.last b in
      let g = on_or_before-key (first_day W') t S'.first r c in
      let h = on_or_before-key t (last_day W') r S'.last d in
      each-true (on_or_before_by (first_day W) (last_day W') S.first S'.last (omega (arith, e, h)))
      (on_or_before_by (first_day W') (last_day W) S'.first S.last (omega (arith, f, g)))

turned : (W W' : List ℕ) → meet W W' ≡ true → meet W' W ≡ true
turned W W' e = let (a, b) = both (on_or_before (first_day W) (last_day W')) _ e in each-true b a

swapped : (W W' : List ℕ) → SharedDay W W' → SharedDay W' W
swapped W W' (t, r, a, b) = (t, r, b, a)

pub shared_exactly : (W W' : List ℕ) → IsWindow W → IsWindow W' → (meet W W' ≡ true) ↔ SharedDay W W'
shared_exactly W W' S S' = (go (dec_le (key (first_day W)) (key (first_day W'))), meeting W W' S S')
  where
    go : Dec (key (first_day W) ≤ key (first_day W')) → meet W W' ≡ true → SharedDay W W'
    go (yes l) e = later W W' S S' l e
    go (no l) e = swapped W' W (later W' W S' S (omega arith) (turned W W' e))

module _ (file : List ℕ) where
  at_place : (k : ℕ) (W : List ℕ) → Window file k W → k < windows file
  at_place k W w = omega (arith, w.inside)

  the-window : (k : ℕ) → k < windows file → Window file k (window_at file k)
  the-window k l = record { inside = omega arith; bytes = refl }

  abbrev any_faulty : Bool
  any_faulty = any (windows file) λ k. faulty (window_at file k)

  -- rows 0 to 2 as facts, and back
  readable : not (eqb (length file % 12) 0) ≡ false → ltb 64 (windows file) ≡ false → any_faulty ≡ false → Readable file
  readable a b c =
      let e = eqb-true (length file % 12) 0 (not-false _ a) in
      let l = ltb-false 64 (windows file) b in record {
        whole = e;
        few = omega arith;
        each = λ k W w. rw w.bytes (is-window (window_at file k) (any_none (windows file) _ c k (at_place k W w)));
      }

  module _ (R : Readable file) where
    sound : (k : ℕ) → k < windows file → IsWindow (window_at file k)
    sound k l = R.each k (window_at file k) (the-window k l)

    few : ltb 64 (windows file) ≡ false
    few = le-ltb 64 (windows file) (omega (arith, R.few))

    unfaulty : any_faulty ≡ false
    unfaulty = none_any (windows file) _ λ k l. window-is (window_at file k) (sound k l)

    -- row 3 as a fact, and back
    unshared : clashing file ≡ false → (j k : ℕ) → j < k → k < windows file → ¬ (SharedDay (window_at file j) (window_at file k))
    unshared e j k l m s =
        let h = any_none k (λ j. meet (window_at file j) (window_at file k)) (any_none (windows file) _ e k m) j l in
        true≢false (sym ((shared_exactly _ _ (sound j (omega arith)) (sound k m)).1 s) ∙ h)

    apart : clashing file ≡ false → Apart file
    apart e j k W W' w w' s = go (dec_lt j k) (dec_lt k j)
      where
        s' : SharedDay (window_at file j) (window_at file k)
        s' = rw (w.bytes, w'.bytes) at s

        go : Dec (j < k) → Dec (k < j) → j ≡ k
        go (yes l) m = absurd (unshared e j k l (at_place k W' w') s')
        go (no l) (yes m) = absurd (unshared e k j m (at_place j W w) (swapped (window_at file j) (window_at file k) s'))
        go (no l) (no m) = omega arith

    unclashing : Apart file → clashing file ≡ false
    unclashing A =
        none_any (windows file) _ λ k m. none_any k _ λ j l. go k m j l (meet (window_at file j) (window_at file k)) refl
      where
        go : (k : ℕ) → k < windows file → (j : ℕ) → j < k → (b : Bool) → meet (window_at file j) (window_at file k) ≡ b →
            meet (window_at file j) (window_at file k) ≡ false
        go k m j l true e =
            let h : j < windows file = omega arith in
            let s = (shared_exactly _ _ (sound j h) (sound k m)).0 e in
            absurd (omega (arith, A j k _ _ (the-window j h) (the-window k m) s))
        go k m j l false e = e

    -- the first rows do not refuse
    module _ (t : Date) where
      shared_number : clashing file ≡ true → season_number file t ≡ 15
      unfolding season_rows
      shared_number e = sym (season-at file t 3 (equal _ _ R.whole & few & unfaulty & e))

      module _ (A : Apart file) where
        unreal-number : real t ≡ false → season_number file t ≡ 16
        unfolding season_rows
        unreal-number e = sym (season-at file t 4 (equal _ _ R.whole & few & unfaulty & unclashing A & turned_true e))

        abbrev somewhere : Bool
        somewhere = any (windows file) λ k. has (window_at file k) t

        outside-number : real t ≡ true → somewhere ≡ false → season_number file t ≡ 16
        unfolding season_rows
        outside-number r e = sym (season-at file t 5
            (equal _ _ R.whole & few & unfaulty & unclashing A & ap not r & turned_true e))

        found_number : real t ≡ true → somewhere ≡ true → season_number file t ≡ 0
        unfolding season_rows
        found_number r e = sym (season-at file t 6
            (equal _ _ R.whole & few & unfaulty & unclashing A & ap not r & ap not e & tt))

        -- the window that is found, and that no other has the day
        found-window : real t ≡ true → somewhere ≡ true → OneWindow file t
        unfolding season_found
        found-window r e = record {
          k = first_with file t;
          W = window_at file (first_with file t);
          there = the-window (first_with file t) l;
          day = both _ _ (index-holds (windows file) _ l);
          only = λ j W w d. A j (first_with file t) W _ w (the-window (first_with file t) l)
              (t, r, d, both _ _ (index-holds (windows file) _ l));
          number = found_number r e;
          season = rw (found_number r e);
        }
          where
            l : first_with file t < windows file
            l = index-within (windows file) _ e

  has-day : (t : Date) (k : ℕ) (W : List ℕ) → Window file k W → HasDay W t →
      any (windows file) (λ k. has (window_at file k) t) ≡ true
  has-day t k W w d = some-any (windows file) _ k (at_place k W w) (rw w.bytes at (each-true d.0 d.1))

  no-day : (t : Date) → ((k : ℕ) (W : List ℕ) → Window file k W → ¬ (HasDay W t)) →
      any (windows file) (λ k. has (window_at file k) t) ≡ false
  no-day t n = none_any (windows file) _ λ k l. go k l (has (window_at file k) t) refl
    where
      go : (k : ℕ) → k < windows file → (b : Bool) → has (window_at file k) t ≡ b → has (window_at file k) t ≡ false
      go k l true e = absurd (n k (window_at file k) (the-window k l) (both _ _ e))
      go k l false e = e

module _ (file : List ℕ) (t : Date) where
  -- where 14 is not given the file is readable, and where 15 is not given its windows are apart
  readable_by : season_number file t ≢ 14 → Readable file
  unfolding season_rows
  readable_by n = go (not (eqb (length file % 12) 0)) refl (ltb 64 (windows file)) refl (any_faulty file) refl
    where
      go : (a : Bool) → not (eqb (length file % 12) 0) ≡ a → (b : Bool) → ltb 64 (windows file) ≡ b → (c : Bool) →
          any_faulty file ≡ c → Readable file
      go true d b e c f = absurd (n (sym (season-at file t 0 d)))
      go false d true e c f = absurd (n (sym (season-at file t 1 (d & e))))
      go false d false e true f = absurd (n (sym (season-at file t 2 (d & e & f))))
      go false d false e false f = readable file d e f

  apart_by : Readable file → season_number file t ≢ 15 → Apart file
  apart_by R n = go (clashing file) refl
    where
      go : (b : Bool) → clashing file ≡ b → Apart file
      go true e = absurd (n (shared_number file R t e))
      go false e = apart file R e

  -- a day in a window, in just one
  in_one : Readable file → Apart file → real t ≡ true → (k : ℕ) (W : List ℕ) → Window file k W → HasDay W t → OneWindow file t
  in_one R A r k W w d = found-window file R t A r (has-day file t k W w d)

  pub season-exactly : SeasonExactly file t
  season-exactly = record {
    fourteen = fourteen (ℕ_discrete (season_number file t) 14);
    fifteen = λ R. fifteen R (ℕ_discrete (season_number file t) 15);
    unreal = λ R A n. unreal-number file R t A (not_so n);
    outside = λ R A n. outside R A n (real t) refl;
    found = λ R A r k W w d.
        let o = in_one R A r k W w d in
        (o.number, o.season ∙ ap season (o.there.bytes ∙ ap (window_at file) (sym (o.only k W w d)) ∙ sym w.bytes));
  }
    where
      fourteen : Dec (season_number file t ≡ 14) → ¬ (Readable file) → season_number file t ≡ 14
      fourteen (yes e) n = e
      fourteen (no h) n = absurd (n (readable_by h))

      fifteen : Readable file → Dec (season_number file t ≡ 15) → ¬ (Apart file) → season_number file t ≡ 15
      fifteen R (yes e) n = e
      fifteen R (no h) n = absurd (n (apart_by R h))

      not_so : real t ≢ true → real t ≡ false
      not_so n = not-true (real t) (holds (not (real t)) λ e. n (not-false (real t) e))

      outside : Readable file → Apart file → ((k : ℕ) (W : List ℕ) → Window file k W → ¬ (HasDay W t)) → (b : Bool) →
          real t ≡ b → season_number file t ≡ 16
      outside R A n true r = outside-number file R t A r (no-day file t n)
      outside R A n false r = unreal-number file R t A r

  pub one-window : season_number file t ≢ 14 → season_number file t ≢ 15 → real t ≡ true → (k : ℕ) (W : List ℕ) →
      Window file k W → HasDay W t → OneWindow file t
  one-window a b = let R = readable_by a in in_one R (apart_by R b)

  pub season-given : season_number file t ≡ 0 → (real t ≡ true) × OneWindow file t
  season-given e = go (real t) refl (any (windows file) λ k. has (window_at file k) t) refl
    where
      R : Readable file
      R = readable_by λ h. omega (arith, e, h)

      A : Apart file
      A = apart_by R λ h. omega (arith, e, h)

      go : (b : Bool) → real t ≡ b → (c : Bool) → any (windows file) (λ k. has (window_at file k) t) ≡ c →
          (real t ≡ true) × OneWindow file t
      go true r true h = (r, found-window file R t A r h)
      go true r false h = absurd (omega (arith, e, outside-number file R t A r h))
      go false r c h = absurd (omega (arith, e, unreal-number file R t A r))
