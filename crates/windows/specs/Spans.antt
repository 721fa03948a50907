-- Windows by the keys of their end days, as the code compares them.
--
--   span_of W          the keys of the end days of the window W
--   span_at l k        span k of the list l; beyond its end there is none
--   has_key x s        the span s has the day with the key x
--   meet_keys s t      neither of two spans is over before the other begins
--   meet_any l s n     one of the first n spans of l meets the span s
--   meet_two l n       two of the first n spans of l meet
--   read W             what is read of the window W: its span, or a refusal where it is faulty
--   window_of W k      window k of a file that is cut into the windows W
--   any_faulty W n     one of the first n windows is faulty
--   AreSpans W l       l has the spans of the windows W
--   season_of r        the season of an outcome, 0 where it is a refusal
--
-- What this file is for: the contracts of the functions between the file's bytes and the answer.
use Rattle.std.specs.Prelude.{◌≡◌, Bool, ◌&&◌, cond, List, [], ℕ, ◌<◌, leb, length, get_or, Result, Ok, Err}
use Rattle.bounded.specs.Bounded.{any}
use Rattle.calendar.specs.Dates.{key}
use Rattle.definitions.specs.declared.Refusal.{Refusal}
use Rattle.definitions.specs.declared.Refusal.TheVariants.{WindowFile}
use Rattle.definitions.specs.Windows.{first_day, last_day, faulty}
use Rattle.windows.specs.declared.Span.{Span}

abbrev pub span_of : List ℕ → Span
span_of W = record { first = key (first_day W); last = key (last_day W) }

abbrev pub span_at : List Span → ℕ → Span
span_at l k = get_or l k (record { first = 0; last = 0 })

abbrev pub has_key : ℕ → Span → Bool
has_key x s = leb s.first x && leb x s.last

abbrev pub meet_keys : Span → Span → Bool
meet_keys s t = leb s.first t.last && leb t.first s.last

abbrev pub meet_any : List Span → Span → ℕ → Bool
meet_any l s n = any n λ j. meet_keys (span_at l j) s

abbrev pub meet_two : List Span → ℕ → Bool
meet_two l n = any n λ k. meet_any l (span_at l k) k

abbrev pub read : List ℕ → Result Span Refusal
read W = cond (faulty W) (Err WindowFile) (Ok (span_of W))

abbrev pub window_of : List (List ℕ) → ℕ → List ℕ
window_of W k = get_or W k []

abbrev pub any_faulty : List (List ℕ) → ℕ → Bool
any_faulty W n = any n λ k. faulty (window_of W k)

pub record AreSpans (W : List (List ℕ)) (l : List Span) : Type 0 where
  pub number : length l ≡ length W
  pub each : (k : ℕ) → k < length l → span_at l k ≡ span_of (window_of W k)

abbrev pub season_of : Result ℕ Refusal → ℕ
season_of (Ok s) = s
season_of (Err r) = 0
