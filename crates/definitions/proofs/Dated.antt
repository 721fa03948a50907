-- What `trayseason` prints.
--
--   date-taken                   an argument that shows a date, and no other, is taken for its numbers
--   undated, dated-length        an argument of another length than ten has not that form
--   dated-text, undated_text     what is printed for an argument that has it, and for another
--   dated_by, asked_by           an argument by its digits, two at a time
--   season_printed               what is printed, by the number
--   print_season, print_refused  the same, as a program comes to it
--   room-season                  one byte more than 64 windows decides, for any input, what is printed
--
-- What this file is for: the program's answer, by that of the call. Assumes nothing.
use mathlib.Core.Path.{◌≡◌, refl, sym, ap₂, ◌∙◌}
use mathlib.Core.Logic.{◌≢◌}
use mathlib.Core.Bool.{Bool, true, false, ◌&&◌}
use mathlib.Core.List.{List, [], ◌∷◌}
use Prim.Native.Nat.{ℕ, zero, suc, ◌+◌, ◌*◌, ◌-◌, ◌%◌, ◌<◌}
use native.Mathlib.Omega.{arith}
use native.Mathlib.Decide.{ℕ_discrete}
use lib.Dec.{eqb, leb, lit<}
use lib.ListN.{length, take}
use borrow.Author.Tests.{le-leb, lt-ltb, eq-eqb, ne_eqb, eqb-true, leb-true}
use Rattle.bounded.specs.Bounded.{at, tab}
use Rattle.bounded.proofs.Tab.{tab-is}
use Rattle.bounded.proofs.Parts.{both, each-true}
use Rattle.calendar.specs.Calendar.{date}
use Rattle.calendar.specs.declared.Date.{Date}
use Rattle.calendar.proofs.Order.{same-date}
use Rattle.definitions.specs.Room.{HoldsFirst}
use Rattle.definitions.specs.Printed.{digit, minus, refused_line}
use Rattle.definitions.specs.Windows.{windows, season_rows, season_number, season_found}
use Rattle.definitions.specs.Dated.{is_digit, digits_from, dated, asked_date, season_line, date_text, season_text}
use Rattle.definitions.specs.Seasons.{shown, Digits, DateTaken, SeasonPrinted}
use Rattle.definitions.proofs.Room.{room_decides}
use Rattle.definitions.proofs.Windows.{season-at}
use Rattle.definitions.proofs.Refusals.{◌&◌, equal, unequal, otherwise}

digit-is : (a : ℕ) → a < 10 → is_digit (48 + a) ≡ true
digit-is a l = each-true (le-leb 48 (48 + a) (omega arith)) (le-leb (48 + a) 57 (omega arith))

-- a byte that is a digit
digit-of : (b : ℕ) → is_digit b ≡ true → (b ≡ 48 + (b - 48)) × (b - 48 < 10)
digit-of b e =
    let (l, m) = both (leb 48 b) (leb b 57) e in
    let h = leb-true 48 b l in
    (omega (arith, h), omega (arith, h, leb-true b 57 m))

abbrev Each : List ℕ → Type 0
Each [] = Unit
Each (a ∷ l) = (a < 10) × Each l

each-digit : (l : List ℕ) → Each l → Digits (at l)
each-digit [] h i = omega arith
each-digit (a ∷ l) h zero = h.0
each-digit (a ∷ l) h (suc i) = each-digit l h.1 i

-- n bytes that are digits
digit-from : (w : List ℕ) (a n : ℕ) → digits_from w a n ≡ true → (i : ℕ) → i < n → is_digit (at w (a + i)) ≡ true
digit-from w a zero e i l = absurd (omega arith)
digit-from w a (suc n) e i l =
    let (before, last) = both (digits_from w a n) _ e in
    elim (ℕ_discrete i n) [ yes h ↦ rw h last | no h ↦ digit-from w a n before i (omega arith) ]

-- the eight digits of ten bytes
abbrev value : (w : List ℕ) (i : ℕ) → ℕ
value w i = at w i - 48

abbrev eight : List ℕ → List ℕ
eight w = value w 0 ∷ value w 1 ∷ value w 2 ∷ value w 3 ∷ value w 5 ∷ value w 6 ∷ value w 8 ∷ value w 9 ∷ []

-- bytes one by one
infixr 3 ◌then◌
◌then◌ : {a b : ℕ} {l m : List ℕ} → a ≡ b → l ≡ m → (a ∷ l) ≡ (b ∷ m)
e then h = ap₂ ◌∷◌ e h

only-shown : (w : List ℕ) → dated w ≡ true → (d : ℕ → ℕ) × Digits d × (w ≡ shown d)
unfolding dated tab
only-shown w e =
    let (l, parts) = both (eqb (length w) 10) _ e in
    let (year, rest) = both (digits_from w 0 4) _ parts in
    let (month, day) = both (eqb (at w 4) minus && digits_from w 5 2) _ rest in
    let (hyphen, months) = both (eqb (at w 4) minus) _ month in
    let (hyphen', days) = both (eqb (at w 7) minus) _ day in
    let a = digit-of (at w 0) (digit-from w 0 4 year 0 (lit< tt)) in
    let b = digit-of (at w 1) (digit-from w 0 4 year 1 (lit< tt)) in
    let c = digit-of (at w 2) (digit-from w 0 4 year 2 (lit< tt)) in
    let d = digit-of (at w 3) (digit-from w 0 4 year 3 (lit< tt)) in
    let f = digit-of (at w 5) (digit-from w 5 2 months 0 (lit< tt)) in
    let g = digit-of (at w 6) (digit-from w 5 2 months 1 (lit< tt)) in
    let h = digit-of (at w 8) (digit-from w 8 2 days 0 (lit< tt)) in
    let i = digit-of (at w 9) (digit-from w 8 2 days 1 (lit< tt)) in
    let m = eqb-true (at w 4) 45 hyphen in
    let n = eqb-true (at w 7) 45 hyphen' in (
      at (eight w),
      each-digit (eight w) (a.1, (b.1, (c.1, (d.1, (f.1, (g.1, (h.1, (i.1, tt)))))))),
      tab-is 10 (at w) w (eqb-true (length w) 10 l) (λ _ _. refl)
          ∙ (a.0 then b.0 then c.0 then d.0 then m then f.0 then g.0 then n then h.0 then i.0 then refl),
    )

pub date-taken : DateTaken
unfolding dated asked_date
date-taken = record {
  form = λ d h.
      let k : (i : ℕ) → is_digit (48 + d i) ≡ true = λ i. digit-is (d i) (h i) in
      each-true (each-true (each-true (each-true (k 0) (k 1)) (k 2)) (k 3))
      (each-true (each-true (k 4) (k 5)) (each-true (k 6) (k 7)));
  only = only-shown;
  numbers = λ d. same-date (omega arith) (omega arith) (omega arith);
}

-- an argument by its parts, two digits at a time
module _ (w : List ℕ) where
  pub undated : length w ≢ 10 → false ≡ dated w
  unfolding dated
  undated n = rw (ne_eqb (length w) 10 n)

  pub dated-length : dated w ≡ true → length w ≡ 10
  unfolding dated
  dated-length e = eqb-true (length w) 10 (both (eqb (length w) 10) _ e).0

  pub dated-text : dated w ≡ true → (input : List ℕ) → season_text w input ≡ date_text (asked_date w) input
  unfolding season_text
  dated-text e input = rw e

  pub undated_text : dated w ≡ false → (input : List ℕ) → season_text w input ≡ []
  unfolding season_text
  undated_text e input = rw e

  abbrev digit_pair : ℕ → Bool
  digit_pair a = is_digit (at w a) && is_digit (at w (a + 1))

  abbrev pair_number : ℕ → ℕ
  pair_number a = (at w a - digit 0) * 10 + (at w (a + 1) - digit 0)

  pub dated_by : length w ≡ 10 → {b c d e : Bool} → b ≡ digit_pair 0 → c ≡ digit_pair 2 → d ≡ digit_pair 5 → e ≡ digit_pair 8 →
      (b && c) && ((eqb (at w 4) minus && d) && (eqb (at w 7) minus && e)) ≡ dated w
  unfolding dated
  dated_by l f g h i = rw (f, g, h, i, eq-eqb (length w) 10 l) (ap₂ ◌&&◌ (four (is_digit (at w 0)) (is_digit (at w 1)) _ _) refl)
    where
      four : (a b c d : Bool) → (a && b) && (c && d) ≡ ((a && b) && c) && d
      four true true c d = refl
      four true false c d = refl
      four false b c d = refl

  pub asked_by : {c y m d : ℕ} → c ≡ pair_number 0 → y ≡ pair_number 2 → m ≡ pair_number 5 → d ≡ pair_number 8 →
      date (c * 100 + y) m d ≡ asked_date w
  unfolding asked_date
  asked_by f g h i = same-date (omega (arith, f, g)) (omega (arith, h)) (omega (arith, i))

-- by the number of the call
pub print_season : (t : Date) (file : List ℕ) {k y : ℕ} → k ≡ season_number file t → k ≡ 0 → y ≡ season_found file t →
    season_line y ≡ date_text t file
unfolding date_text
print_season t file e z s = rw (s, ← e, z)

pub print_refused : (t : Date) (file : List ℕ) {k : ℕ} → k ≡ season_number file t → k ≢ 0 → refused_line k ≡ date_text t file
unfolding date_text
print_refused t file {k} e n = rw (← e) (sym (otherwise k _ _ n))

pub season_printed : (w input : List ℕ) → SeasonPrinted w input
season_printed w input = record {
  season = λ d z. dated-text w d input ∙ sym (print_season (asked_date w) input refl z refl);
  refused = λ d n. dated-text w d input ∙ sym (print_refused (asked_date w) input refl n);
  usage = λ d. undated_text w d input;
}

-- a file of more than 64 windows
too_long : (file : List ℕ) (t : Date) → 64 * 12 < length file → 14 ≡ season_number file t
unfolding season_rows
too_long file t l = elim (ℕ_discrete (length file % 12) 0) [
  | yes e ↦ let h : 64 < windows file = omega arith in season-at file t 1 (equal _ _ e & lt-ltb _ _ h)
  | no n ↦ season-at file t 0 (unequal _ _ n)
]

long_text : (w a b : List ℕ) → 64 * 12 < length a → 64 * 12 < length b → season_text w a ≡ season_text w b
unfolding season_text date_text
long_text w a b l m = rw (← too_long a (asked_date w) l, ← too_long b (asked_date w) m)

pub room-season : (w input room : List ℕ) (came : ℕ) → 64 * 12 < length room → HoldsFirst input room came →
    season_text w (take came room) ≡ season_text w input
room-season w = room_decides (season_text w) 0 (64 * 12) (omega arith) λ a b _ l m. long_text w a b l m
