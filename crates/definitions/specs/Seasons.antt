-- What the belt relies on when it learns the season from the date, as statements over the definitions of windows.
--
--   Window file k W             W is window k of the file, whole
--   IsWindow W                  its dates are real, the last is not before the first, and its last two bytes are 0
--   HasDay W t                  the day t is not before the window's first day and not after its last
--   SharedDay W W'              some real day lies in both windows
--   Readable file               the file has whole windows, at most 64, and each is as it should be
--   Apart file                  no two windows of the file share a day
--   SeasonExactly file t        which number is given: 14 where the file is not readable, else 15 where two windows share a day,
--                               else 16 where the date is unreal or in no window, else 0 with the season of a window that has it
--   OneWindow file t            exactly one window of the file has the day, and its season is returned
--   shown d, Digits d           ten bytes that show a date, by its eight digits
--   DateTaken                   `trayseason` takes such bytes, and no others, for the numbers that they show
--   SeasonPrinted w input       it prints the season's digits, or REFUSED and the number, and nothing where its argument has
--                               not that form
--
-- What this file is for: the sentences of request 7 that a user relies on. The crate `traymark` proves them.
use Rattle.std.specs.Prelude.{◌≡◌, List, [], ◌∷◌, ◌++◌, true, false, ◌≢◌, ℕ, ◌+◌, ◌*◌, ◌%◌, ◌≤◌, ◌<◌, length, take, drop}
use Rattle.bounded.specs.Bounded.{at}
use Rattle.calendar.specs.Dates.{real, on_or_before}
use Rattle.calendar.specs.Calendar.{date}
use Rattle.calendar.specs.declared.Date.{Date}
use Rattle.definitions.specs.Plan.{season}
use Rattle.definitions.specs.Windows.{first_day, last_day, season_number, season_found}
use Rattle.definitions.specs.Printed.{decimal, refused_line}
use Rattle.definitions.specs.Dated.{dated, asked_date, season_text}

pub record Window (file : List ℕ) (k : ℕ) (W : List ℕ) : Type 0 where
  pub inside : k * 12 + 12 ≤ length file
  pub bytes : W ≡ take 12 (drop (k * 12) file)

pub record IsWindow (W : List ℕ) : Type 0 where
  pub first : real (first_day W) ≡ true
  pub last : real (last_day W) ≡ true
  pub order : on_or_before (first_day W) (last_day W) ≡ true
  pub zeros : (at W 10 ≡ 0) × (at W 11 ≡ 0)

abbrev pub HasDay : List ℕ → Date → Type 0
HasDay W t = (on_or_before (first_day W) t ≡ true) × (on_or_before t (last_day W) ≡ true)

abbrev pub SharedDay : (W W' : List ℕ) → Type 0
SharedDay W W' = (t : Date) × (real t ≡ true) × HasDay W t × HasDay W' t

pub record Readable (file : List ℕ) : Type 0 where
  pub whole : length file % 12 ≡ 0
  pub few : length file ≤ 64 * 12
  pub each : (k : ℕ) (W : List ℕ) → Window file k W → IsWindow W

abbrev pub Apart : List ℕ → Type 0
Apart file = (j k : ℕ) (W W' : List ℕ) → Window file j W → Window file k W' → SharedDay W W' → j ≡ k

pub record SeasonExactly (file : List ℕ) (t : Date) : Type 0 where
  pub fourteen : ¬ (Readable file) → season_number file t ≡ 14
  pub fifteen : Readable file → ¬ (Apart file) → season_number file t ≡ 15
  pub unreal : Readable file → Apart file → real t ≢ true → season_number file t ≡ 16
  pub outside : Readable file → Apart file → ((k : ℕ) (W : List ℕ) → Window file k W → ¬ (HasDay W t)) → season_number file t ≡ 16
  pub found : Readable file → Apart file → real t ≡ true → (k : ℕ) (W : List ℕ) → Window file k W → HasDay W t →
      (season_number file t ≡ 0) × (season_found file t ≡ season W)

pub record OneWindow (file : List ℕ) (t : Date) : Type 0 where
  pub k : ℕ
  pub W : List ℕ
  pub there : Window file k W
  pub day : HasDay W t
  pub only : (j : ℕ) (W' : List ℕ) → Window file j W' → HasDay W' t → j ≡ k
  pub number : season_number file t ≡ 0
  pub season : season_found file t ≡ season W

-- the digits d 0 to d 7 as a date: the byte of a digit is 48 and more, and that of '-' is 45
abbrev pub shown : (ℕ → ℕ) → List ℕ
shown d =
    (48 + d 0) ∷ (48 + d 1) ∷ (48 + d 2) ∷ (48 + d 3) ∷ 45 ∷ (48 + d 4) ∷ (48 + d 5) ∷ 45 ∷ (48 + d 6) ∷ (48 + d 7) ∷ []

abbrev pub Digits : (ℕ → ℕ) → Type 0
Digits d = (i : ℕ) → d i < 10

pub record DateTaken : Type 0 where
  pub form : (d : ℕ → ℕ) → Digits d → dated (shown d) ≡ true
  pub only : (w : List ℕ) → dated w ≡ true → (d : ℕ → ℕ) × Digits d × (w ≡ shown d)
  pub numbers : (d : ℕ → ℕ) →
      asked_date (shown d) ≡ date (d 0 * 1000 + d 1 * 100 + d 2 * 10 + d 3) (d 4 * 10 + d 5) (d 6 * 10 + d 7)

pub record SeasonPrinted (w input : List ℕ) : Type 0 where
  pub season : dated w ≡ true → season_number input (asked_date w) ≡ 0 →
      season_text w input ≡ decimal (season_found input (asked_date w)) ++ 10 ∷ []
  pub refused : dated w ≡ true → season_number input (asked_date w) ≢ 0 →
      season_text w input ≡ refused_line (season_number input (asked_date w))
  pub usage : dated w ≡ false → season_text w input ≡ []
