-- Sets of photographs over time: what a set holds after any calls, and what is promised of it.
--
--   Holding            a plan, and for each number the symbols of its photograph, or none
--   empty P            a set of the plan P that holds no photograph
--   with H k o         H with o under the number k
--   Call               a call on a set, with its arguments
--   answer c S         its number
--   after c S          the memory after it
--   changes c H        what is held after it, where it is accepted: it starts anew, adds one or withdraws one; combining and
--                      reading change nothing
--   keeps c S H        what is held after it, where H was held before: a refused one changes nothing
--   run h S, kept h S H   the memory, and what is held, after the calls h, one after another
--   flag_of, symbol_at  the flag of a number, and its symbol of cell c, by what is held under it
--   byte_of H i, memory H   byte i of a set that holds H, and its memory
--   shown H c          the symbols of cell c in the photographs held, 255 where a number has none
--   fresh_symbols, fresh_doubts H  the combination made afresh from them
--   Stored P k s       k is a number to 8, and s are symbols of the plan P, one for each cell
--   Holds H S          the plan is sound, each photograph is `Stored`, and S is the memory of H
--   StartsUnread P     with none held all cells are unread, at the full doubt
--   AddsExactly H S k s u
--                      which number adding gives, by what is held, in the season's scale; `Fits` has the lengths. Otherwise the
--                      doubts are not used: with others that are accepted the memory is the same
--   WithdrawsExactly H S k
--                      which number withdrawing gives; the number k can be used again
--   Combines H S B D   6 where a buffer has not its length, else 0, and the buffers have the combination made afresh
--   SetReads H S B     the reading is that of the combination made afresh, and for it demand 3 holds; its number is 6 where the
--                      buffer has not its length, else 0 or 10
--
-- What this file is for: whatever the history, the combination is the one made afresh from the photographs held then.
use Rattle.std.specs.Prelude.{◌≡◌, cond, List, [], ◌∷◌, ◌≢◌, ◌⊎◌, ℕ, ◌-◌, ◌/◌, ◌%◌, ◌<◌, eqb, ltb, length}
use Rattle.std.proofs.Math.Option.{Option, some, none}
use Rattle.bounded.specs.Bounded.{at, tab}
use Rattle.votes.specs.Votes.{symbol_of, doubt_of}
use Rattle.definitions.specs.Refusals.{accepted}
use Rattle.definitions.specs.Plan.{check_number}
use Rattle.definitions.specs.Code.{oblong, size, cells}
use Rattle.definitions.specs.Cost.{full, unread}
use Rattle.definitions.specs.Calls.{read_reading, read_buffer}
use Rattle.definitions.specs.Sound.{Sound}
use Rattle.definitions.specs.Photograph.{SymbolsFit, DoubtsFit, Photograph}
use Rattle.definitions.specs.Demands.{Nearest}
use Rattle.definitions.specs.Sets.{set_bytes, start_memory, add_number, add_memory, withdraw_number, withdraw_memory}
use Rattle.definitions.specs.Sets.{combine_number, combine_symbols, combine_doubts, set_number, set_reading, set_record}

pub record Holding : Type 0 where
  pub plan : List ℕ
  pub photo : ℕ → Option (List ℕ)

abbrev pub empty : List ℕ → Holding
empty P = record { plan = P; photo = λ k. none }

abbrev pub with : Holding → ℕ → Option (List ℕ) → Holding
with H k o = record { plan = H.plan; photo = λ j. cond (eqb j k) o (H.photo j) }

pub data Call : Type 0 where
  start : (P : List ℕ) → Call
  add : (k : ℕ) (s u : List ℕ) → Call
  withdraw : (k : ℕ) → Call
  combine : (B D : List ℕ) → Call
  read : (B : List ℕ) → Call

abbrev pub answer : Call → List ℕ → ℕ
answer (start P) S = check_number P
answer (add k s u) S = add_number S k s u
answer (withdraw k) S = withdraw_number S k
answer (combine B D) S = combine_number S B D
answer (read B) S = set_number S B

abbrev pub after : Call → List ℕ → List ℕ
after (start P) S = start_memory P S
after (add k s u) S = add_memory S k s u
after (withdraw k) S = withdraw_memory S k
after (combine B D) S = S
after (read B) S = S

abbrev pub changes : Call → Holding → Holding
changes (start P) H = empty P
changes (add k s u) H = with H k (some s)
changes (withdraw k) H = with H k none
changes (combine B D) H = H
changes (read B) H = H

abbrev pub keeps : Call → List ℕ → Holding → Holding
keeps c S H = accepted (answer c S) (changes c H) H

abbrev pub run : List Call → List ℕ → List ℕ
run [] S = S
run (c ∷ h) S = run h (after c S)

abbrev pub kept : List Call → List ℕ → Holding → Holding
kept [] S H = H
kept (c ∷ h) S H = kept h (after c S) (keeps c S H)

-- byte i: of the plan, a flag, or a symbol
abbrev pub flag_of : Option (List ℕ) → ℕ
flag_of none = 0
flag_of (some s) = 1

abbrev pub symbol_at : Option (List ℕ) → ℕ → ℕ
symbol_at none c = unread
symbol_at (some s) c = cond (ltb c (length s)) (at s c) unread

abbrev pub byte_of : Holding → ℕ → ℕ
byte_of H i = cond (ltb i 40) (at H.plan i) (cond (ltb i 49) (flag_of (H.photo (i - 40)))
    (symbol_at (H.photo ((i - 49) / 256)) ((i - 49) % 256)))

unfoldable pub memory : Holding → List ℕ
memory H = tab set_bytes (byte_of H)

abbrev pub shown : Holding → ℕ → List ℕ
shown H c = tab 9 λ k. symbol_at (H.photo k) c

unfoldable pub fresh_symbols : Holding → List ℕ
fresh_symbols H = tab (cells oblong H.plan) λ c. symbol_of (shown H c) 9

unfoldable pub fresh_doubts : Holding → List ℕ
fresh_doubts H = tab (cells oblong H.plan) λ c. doubt_of (full H.plan) (shown H c) 9

pub record Stored (P : List ℕ) (k : ℕ) (s : List ℕ) : Type 0 where
  pub low : k < 9
  pub whole : length s ≡ cells oblong P
  pub symbols : SymbolsFit oblong P s

pub record Holds (H : Holding) (S : List ℕ) : Type 0 where
  pub sound : Sound H.plan
  pub stored : (k : ℕ) (s : List ℕ) → H.photo k ≡ some s → Stored H.plan k s
  pub memory-is : S ≡ memory H

abbrev pub StartsUnread : List ℕ → Type 0
StartsUnread P = (c : ℕ) → c < cells oblong P →
    (at (fresh_symbols (empty P)) c ≡ unread) × (at (fresh_doubts (empty P)) c ≡ full P)

abbrev pub Fits : Holding → (s u : List ℕ) → Type 0
Fits H s u = (length s ≡ cells oblong H.plan) × (length u ≡ cells oblong H.plan)

-- each where no row before it is broken
pub record AddsExactly (H : Holding) (S : List ℕ) (k : ℕ) (s u : List ℕ) : Type 0 where
  pub six : ¬ (Fits H s u) → add_number S k s u ≡ 6
  pub high : Fits H s u → 8 < k → add_number S k s u ≡ 17
  pub there : Fits H s u → H.photo k ≢ none → add_number S k s u ≡ 17
  pub seven : Fits H s u → k < 9 → H.photo k ≡ none → ¬ (SymbolsFit oblong H.plan s) → add_number S k s u ≡ 7
  pub eight : Fits H s u → k < 9 → H.photo k ≡ none → SymbolsFit oblong H.plan s →
      ¬ (DoubtsFit (full H.plan) oblong H.plan s u) → add_number S k s u ≡ 8
  pub zero : Fits H s u → k < 9 → H.photo k ≡ none → SymbolsFit oblong H.plan s →
      DoubtsFit (full H.plan) oblong H.plan s u → add_number S k s u ≡ 0
  -- the doubts are not used otherwise
  pub unused : (v : List ℕ) → add_number S k s u ≡ 0 → add_number S k s v ≡ 0 → add_memory S k s u ≡ add_memory S k s v

pub record WithdrawsExactly (H : Holding) (S : List ℕ) (k : ℕ) : Type 0 where
  pub eighteen : H.photo k ≡ none → withdraw_number S k ≡ 18
  pub zero : H.photo k ≢ none → withdraw_number S k ≡ 0
  -- any photograph of the plan can then come under the same number
  pub again : H.photo k ≢ none → (s u : List ℕ) → Photograph oblong H.plan s u → add_number (withdraw_memory S k) k s u ≡ 0

pub record Combines (H : Holding) (S B D : List ℕ) : Type 0 where
  pub six : ¬ (Fits H B D) → combine_number S B D ≡ 6
  pub zero : Fits H B D → combine_number S B D ≡ 0
  pub symbols : Fits H B D → combine_symbols S B D ≡ fresh_symbols H
  pub doubts : Fits H B D → combine_doubts S B D ≡ fresh_doubts H

pub record SetReads (H : Holding) (S B : List ℕ) : Type 0 where
  pub reading : set_reading S B ≡ read_reading oblong H.plan (fresh_symbols H) (fresh_doubts H) B
  pub buffer : set_record S B ≡ read_buffer oblong H.plan (fresh_symbols H) (fresh_doubts H) B
  pub six : length B ≢ size oblong H.plan → set_number S B ≡ 6
  pub numbers : length B ≡ size oblong H.plan → (set_number S B ≡ 0) ⊎ (set_number S B ≡ 10)
  pub nearest : length B ≡ size oblong H.plan → Nearest oblong H.plan (fresh_symbols H) (fresh_doubts H) B
