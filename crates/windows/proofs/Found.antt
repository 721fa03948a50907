-- The rows of a file's refusals, as the code finds them.
--
--   Cut file W             the file is cut into its windows W
--   Read file W l          they are read, and have the spans l
--   whole, cut-by          a file of whole windows, and not too many
--   broken, many           one that is broken, or of too many
--   at_fault, at_clash     a faulty window, or two that share a day
--   no-season-beside       a refusal has no season
--   unreal, nowhere        a date that is unreal, or in no window
--   somewhere, its-season  the first window that has the day, and the season that is found
--
-- What this file is for: the tests of the code are the rows of the definition, one for one. Assumes nothing.
use mathlib.Core.Path.{◌≡◌, sym, ap, ap₂, ◌∙◌}
use mathlib.Core.Bool.{Bool, true, false}
use mathlib.Core.List.{List}
use Prim.Native.Nat.{ℕ, ◌%◌, ◌≤◌, ◌<◌}
use native.Mathlib.Omega.{arith}
use lib.Dec.{eqb, ltb}
use lib.ListN.{length}
use borrow.Author.Tests.{lt-ltb, le-ltb, eqb-true, eqb-false}
use Rattle.std.specs.Prelude.{Some, None, position}
use Rattle.std.specs.Simd.{first_chunks}
use Rattle.bounded.specs.Bounded.{any, index}
use Rattle.bounded.proofs.Any.{any_none, any-eq}
use Rattle.bounded.proofs.Index.{index-eq, index-some}
use Rattle.bounded.proofs.Part.{chunk-at}
use Rattle.calendar.specs.Dates.{real, key}
use Rattle.calendar.specs.declared.Date.{Date}
use Rattle.definitions.specs.Plan.{season}
use Rattle.definitions.specs.Windows.{windows, window_at, faulty, has, meet, clashing, first_with, season_rows}
use Rattle.definitions.specs.Windows.{season_number, season_found}
use Rattle.definitions.specs.Seasons.{IsWindow}
use Rattle.definitions.proofs.Windows.{season-at, no-season}
use Rattle.definitions.proofs.Refusals.{◌&◌, equal, unequal, not-true, turned_true}
use Rattle.windows.specs.Spans.{window_of, has_key, meet_two, any_faulty, AreSpans}
use Rattle.windows.specs.declared.Span.{Span}
use Rattle.windows.proofs.EndDays.{is-window, meet_two_lem, place-some, place-none}

-- a file of at most 64 whole windows W
pub record Cut (file : List ℕ) (W : List (List ℕ)) : Type 0 where
  pub whole : length file % 12 ≡ 0
  pub parts : W ≡ first_chunks 12 (windows file) file
  pub number : length W ≡ windows file
  pub few : length W ≤ 64

-- none of them is faulty, and they have the spans l
pub record Read (file : List ℕ) (W : List (List ℕ)) (l : List Span) : Type 0 where
  pub cut : Cut file W
  pub clear : any_faulty W (length W) ≡ false
  pub spans : AreSpans W l

-- what is left over of the file tells whether its windows are whole
module _ (file : List ℕ) {r : ℕ} {b : Bool} (e : r ≡ length file % 12) (a : b ≡ eqb r 0) (h : b ≡ true) where
  pub whole : length file % 12 ≡ 0
  whole = sym e ∙ eqb-true _ _ (sym a ∙ h)

  pub cut-by : {W : List (List ℕ)} → W ≡ first_chunks 12 (windows file) file → length W ≡ windows file →
      length W ≤ 64 → Cut file W
  cut-by p n f = record { whole = whole; parts = p; number = n; few = f }

module _ (file : List ℕ) (t : Date) where
  pub broken : {r : ℕ} {b : Bool} → r ≡ length file % 12 → b ≡ eqb r 0 → b ≡ false → 14 ≡ season_number file t
  unfolding season_rows
  broken e a h = season-at file t 0 (unequal _ _ λ z. eqb-false _ _ (sym a ∙ h) (e ∙ z))

  pub many : length file % 12 ≡ 0 → 64 < windows file → 14 ≡ season_number file t
  unfolding season_rows
  many e l = season-at file t 1 (equal _ _ e & lt-ltb _ _ l)

  pub no-season-beside : {n : ℕ} → n ≡ season_number file t → (n ≡ 0 → ⊥) → 0 ≡ season_found file t
  no-season-beside e n = sym (no-season file t λ z. n (e ∙ z))

  module _ {W : List (List ℕ)} (C : Cut file W) where
    each : (k : ℕ) → k < windows file → window_of W k ≡ window_at file k
    each k l = ap (λ V. window_of V k) C.parts ∙ chunk-at 12 (windows file) k file l

    fault : any_faulty W (length W) ≡ any (windows file) λ k. faulty (window_at file k)
    fault = ap (any_faulty W) C.number ∙ any-eq (windows file) λ k l. ap faulty (each k l)

    few : ltb 64 (windows file) ≡ false
    few = le-ltb _ _ (omega (arith, C.number, C.few))

    pub at_fault : any_faulty W (length W) ≡ true → 14 ≡ season_number file t
    unfolding season_rows
    at_fault e = season-at file t 2 (equal _ _ C.whole & few & sym fault ∙ e)

  module _ {W : List (List ℕ)} {l : List Span} (R : Read file W l) where
    abbrev n : length l ≡ windows file
    n = R.spans.number ∙ R.cut.number

    window : (k : ℕ) → k < windows file → window_of W k ≡ window_at file k
    window = each R.cut

    clear : any (windows file) (λ k. faulty (window_at file k)) ≡ false
    clear = sym (fault R.cut) ∙ R.clear

    sound : (k : ℕ) → k < length l → IsWindow (window_of W k)
    sound k i = is-window (window_of W k) (any_none (length W) _ R.clear k (omega (arith, R.spans.number)))

    clash : meet_two l (length l) ≡ clashing file
    clash = meet_two_lem W l sound R.spans ∙ ap (λ b. any b λ k. any k λ j. meet (window_of W j) (window_of W k)) n
        ∙ any-eq (windows file) λ k i. any-eq k λ j h. ap₂ meet (window j (omega arith)) (window k i)

    pub at_clash : meet_two l (length l) ≡ true → 15 ≡ season_number file t
    unfolding season_rows
    at_clash e = season-at file t 3 (equal _ _ R.cut.whole & few R.cut & clear & sym clash ∙ e)

    -- no two of them share a day
    module _ (apart : meet_two l (length l) ≡ false) where
      pub unreal : real t ≡ false → 16 ≡ season_number file t
      unfolding season_rows
      unreal e = season-at file t 4 (equal _ _ R.cut.whole & few R.cut & clear & sym clash ∙ apart & turned_true e)

      -- and the date is real
      module _ (r : real t ≡ true) where
        has_lem : (k : ℕ) → k < windows file → has (window_of W k) t ≡ has (window_at file k) t
        has_lem k i = ap (λ V. has V t) (window k i)

        pub nowhere : position (has_key (key t)) l ≡ None → 16 ≡ season_number file t
        unfolding season_rows
        nowhere e =
            let none = rw n at (place-none W l sound R.spans t r e) in
            season-at file t 5 (equal _ _ R.cut.whole & few R.cut & clear & sym clash ∙ apart
            & not-true r & turned_true (sym (any-eq (windows file) has_lem) ∙ none))

        module _ {k : ℕ} (e : position (has_key (key t)) l ≡ Some k) where
          within : k < windows file
          within = omega (arith, (place-some W l sound R.spans t r e).1, n)

          first : first_with file t ≡ k
          first = sym (index-eq (windows file) has_lem) ∙ ap (λ b. index b λ k. has (window_of W k) t) (sym n)
              ∙ (place-some W l sound R.spans t r e).0

          pub somewhere : 0 ≡ season_number file t
          unfolding season_rows
          somewhere =
              let some = index-some (windows file) (λ k. has (window_at file k) t) λ z. omega (arith, first, within, z) in
              season-at file t 6 (equal _ _ R.cut.whole & few R.cut & clear & sym clash ∙ apart & not-true r & not-true some & tt)

          pub its-season : {s : ℕ} → s ≡ season (window_of W k) → s ≡ season_found file t
          unfolding season_found
          its-season h = rw (← somewhere, first) (h ∙ ap season (window k within))
