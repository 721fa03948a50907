-- Windows by the keys of their end days.
--
--   found-real                a date that was read and found real
--   Days W f l                the dates of the window W are real, and have the keys f and l
--   fault_order, fault_zeros, no-fault
--                             what is read of such a window, test by test
--   err_of, ok_of             what a refusal and an outcome tell of the test between them
--   is-window                 a window without fault is as it should be
--   has_by, meet_by           that it has a day, and that two of them meet, by keys
--   meet_front                the spans before one
--   meet_two_lem              whether two windows of a file meet, by their spans
--   place-some, place-none    the first window that has a day
--
-- What this file is for: the code compares keys, the definitions dates. Assumes nothing.
use mathlib.Core.Path.{◌≡◌, refl, sym, ap, ap₂, ◌∙◌}
use mathlib.Core.Bool.{Bool, true, false, cond, ◌&&◌}
use mathlib.Core.List.{List}
use Prim.Native.Nat.{ℕ, ◌-◌, ◌≤◌, ◌<◌}
use native.Mathlib.Omega.{arith}
use lib.Dec.{leb, ltb}
use lib.ListN.{length, take, drop}
use lib.Seq.{get_or-take, length-take-le}
use borrow.Author.Tests.{not-true, not-false, ltb-false}
use Rattle.std.specs.Prelude.{Some, None, Ok, Err, position}
use Rattle.std.specs.List.{position_or_len}
use Rattle.std.proofs.lemmas.List.Quantifiers.{position-Some}
use Rattle.std.proofs.lemmas.List.Sums.{fails_before_first}
use Rattle.bounded.specs.Bounded.{any, index}
use Rattle.bounded.proofs.Any.{any-eq, none_any}
use Rattle.bounded.proofs.Index.{index_is}
use Rattle.bounded.proofs.Parts.{neither}
use Rattle.bounded.proofs.Part.{part_any}
use Rattle.field.specs.Word.{reached}
use Rattle.calendar.specs.Dates.{real, earlier, key}
use Rattle.calendar.specs.declared.Date.{Date}
use Rattle.calendar.proofs.Order.{key-on_or_before, earlier_by, on_or_before_by}
use Rattle.definitions.specs.declared.Refusal.TheVariants.{WindowFile}
use Rattle.definitions.specs.Windows.{first_day, last_day, has, faulty, meet}
use Rattle.definitions.specs.Seasons.{IsWindow}
use Rattle.definitions.proofs.Sound.{zeros}
use Rattle.definitions.proofs.Refusals.{turned_true}
use Rattle.windows.specs.Spans.{window_of, span_at, has_key, meet_keys, meet_any, meet_two, read, AreSpans}
use Rattle.windows.specs.declared.Span.{Span}

-- a date that was read and found real
pub found-real : {t u : Date} {r : Bool} → t ≡ u → r ≡ real t → r ≡ true → real u ≡ true
found-real e f h = ap real (sym e) ∙ sym f ∙ h

-- a window W of real dates, whose keys are f and l
pub record Days (W : List ℕ) (f l : ℕ) : Type 0 where
  pub first : real (first_day W) ≡ true
  pub last : real (last_day W) ≡ true
  pub first_key : f ≡ key (first_day W)
  pub last_key : l ≡ key (last_day W)

-- what is read of it
module _ {W : List ℕ} {f l : ℕ} (D : Days W f l) where
  pub fault_order : l < f → Err WindowFile ≡ read W
  fault_order h =
      let m : key (last_day W) < key (first_day W) = omega (arith, D.first_key, D.last_key) in
      rw (D.first, D.last, earlier_by (last_day W) (first_day W) D.last D.first m)

  abbrev ordered : f ≤ l → earlier (last_day W) (first_day W) ≡ false
  ordered h =
      let m : key (first_day W) ≤ key (last_day W) = omega (arith, D.first_key, D.last_key) in
      not-true (earlier (last_day W) (first_day W)) (on_or_before_by (first_day W) (last_day W) D.first D.last m)

  -- what is answered of its last two bytes
  module _ (h : f ≤ l) (w : length W ≡ 12) {z : Bool} (e : z ≡ reached 1 (take (12 - 10) (drop 10 W))) where
    pub fault_zeros : z ≡ true → Err WindowFile ≡ read W
    fault_zeros y = rw (D.first, D.last, ordered h, sym (part_any 10 2 W (leb 1) (omega arith)) ∙ sym e ∙ y)

    pub no-fault : z ≡ false → Ok (record { first = f; last = l }) ≡ read W
    no-fault n = rw (D.first, D.last, ordered h, sym (part_any 10 2 W (leb 1) (omega arith)) ∙ sym e ∙ n, D.first_key, D.last_key)

-- what a refusal and an outcome tell of the test that decides between them
pub err_of : {A E : Type 0} (b : Bool) (e : E) (a : A) {r : E} → cond b (Err e) (Ok a) ≡ Err r → (b ≡ true) × (r ≡ e)
err_of true e a h = (refl, cc)
err_of false e a h = absurd cc

pub ok_of : {A E : Type 0} (b : Bool) (e : E) (a : A) {x : A} → cond b (Err e) (Ok a) ≡ Ok x → (b ≡ false) × (x ≡ a)
ok_of true e a h = absurd cc
ok_of false e a h = (refl, cc)

-- a window without fault is as it should be
pub is-window : (W : List ℕ) → faulty W ≡ false → IsWindow W
is-window W e =
    let (a, rest) = neither _ _ e in
    let (b, rest) = neither _ _ rest in
    let (c, d) = neither (earlier (last_day W) (first_day W)) _ rest in record {
      first = not-false _ a;
      last = not-false _ b;
      order = turned_true c;
      zeros = (zeros W 10 2 d 10 (omega arith) (omega arith), zeros W 10 2 d 11 (omega arith) (omega arith));
    }

pub has_by : (W : List ℕ) (t : Date) → IsWindow W → real t ≡ true →
    has W t ≡ (leb (key (first_day W)) (key t) && leb (key t) (key (last_day W)))
has_by W t S r = ap₂ ◌&&◌ (key-on_or_before (first_day W) t S.first r) (key-on_or_before t (last_day W) r S.last)

pub meet_by : (W W' : List ℕ) → IsWindow W → IsWindow W' →
    meet W W' ≡ (leb (key (first_day W)) (key (last_day W')) && leb (key (first_day W')) (key (last_day W)))
meet_by W W' S S' =
    ap₂ ◌&&◌ (key-on_or_before (first_day W) (last_day W') S.first S'.last)
    (key-on_or_before (first_day W') (last_day W) S'.first S.last)

-- the spans before one
pub meet_front : (l : List Span) (s : Span) (k : ℕ) → k ≤ length l → meet_any (take k l) s (length (take k l)) ≡ meet_any l s k
meet_front l s k h = rw (length-take-le k l h) (any-eq k λ j i. ap (λ t. meet_keys t s) (get_or-take k l j _ i))

-- n windows that are as they should be, and their spans
module _ (W : List (List ℕ)) (l : List Span)
    (sound : (k : ℕ) → k < length l → IsWindow (window_of W k)) (s : AreSpans W l) where
  pub meet_two_lem : meet_two l (length l) ≡ any (length l) λ k. any k λ j. meet (window_of W j) (window_of W k)
  meet_two_lem = any-eq (length l) λ k m. any-eq k λ j i.
      let h : j < length l = omega arith in
      rw (s.each k m, s.each j h) (sym (meet_by (window_of W j) (window_of W k) (sound j h) (sound k m)))

  has_lem : (t : Date) → real t ≡ true → (k : ℕ) → k < length l → has_key (key t) (span_at l k) ≡ has (window_of W k) t
  has_lem t r k m = rw (s.each k m) (sym (has_by (window_of W k) t (sound k m) r))

  -- the place of the first window that has the day
  pub place-some : (t : Date) → real t ≡ true → {k : ℕ} → position (has_key (key t)) l ≡ Some k →
      (index (length l) (λ k. has (window_of W k) t) ≡ k) × (k < length l)
  place-some t r {k} e =
      let (m, h, b) = position-Some (has_key (key t)) l k (record { first = 0; last = 0 }) e in
      let none = none_any k _ λ j i. sym (has_lem t r j (omega arith)) ∙ b j i in
      (index_is (length l) _ k m none (sym (has_lem t r k m) ∙ h), m)

  pub place-none : (t : Date) → real t ≡ true → position (has_key (key t)) l ≡ None →
      any (length l) (λ k. has (window_of W k) t) ≡ false
  place-none t r e = none_any (length l) _ λ k m.
      sym (has_lem t r k m) ∙ fails_before_first (has_key (key t)) l k (record { first = 0; last = 0 }) (omega (arith, beyond))
    where
      beyond : length l ≤ position_or_len (has_key (key t)) l
      beyond = go (ltb (position_or_len (has_key (key t)) l) (length l)) refl e
        where
          go : (b : Bool) → ltb (position_or_len (has_key (key t)) l) (length l) ≡ b →
              cond b (Some (position_or_len (has_key (key t)) l)) None ≡ None → length l ≤ position_or_len (has_key (key t)) l
          go true h e = absurd cc
          go false h e = ltb-false _ _ h
