-- What the programs print, byte for byte, in ASCII: numbers, the lines of `trayread` and of `traywhy`, and any refusal.
--
--   decimal n       the digits of n, the most significant first; 0 has one digit, and no other number begins with 0
--   signed z        the same of a signed number, with '-' in front where it is below 0
--   spaced ns       the numbers ns, each after a space
--   costs r         how a line ends that has a cost: the cost of the reading r and its margin
--   read_line y r   READ, the season y and five numbers of the reading r
--   record_line F   RECORD, the coefficients F
--   answer_line r   ANSWER, the cost and the margin of the reading r
--   number_line w k  a word w and the number k: `other_line`, `none_line` and `refused_line` for OTHER, NONE and REFUSED
--   tray_text input  what `trayread` prints for an input: READ and RECORD, or REFUSED
--   why_text input  what `traywhy` prints for an input: ANSWER, or OTHER and RECORD, or NONE, or REFUSED
--
-- What this file is for: the one answer of `trayread` is `tray_text` of all that came in, whatever its length, and that of
-- `traywhy` is `why_text`.
use Rattle.std.specs.Prelude.{List, [], ◌∷◌, ◌++◌, ℕ, zero, suc, ◌+◌, ◌/◌, ◌%◌, ℤ, pos, negsuc}
use Rattle.definitions.specs.declared.Reading.{Reading}
use Rattle.definitions.specs.declared.Reason.{Reason}
use Rattle.definitions.specs.declared.Reason.TheVariants.{Refused, Answer, Other, Nothing}
use Rattle.definitions.specs.Refusals.{accepted}
use Rattle.definitions.specs.Plan.{season}
use Rattle.definitions.specs.Tray.{plan_of, tray_reading, tray_record}
use Rattle.definitions.specs.Why.{why_reason, why_other, why_reading}

abbrev pub digit : ℕ → ℕ
digit d = 48 + d

-- the digits of n, at most k of them, and none for 0; proofs/Printed.antt has the equations that a reader expects
abbrev pub digits : (k n : ℕ) → List ℕ
digits zero n = []
digits (suc k) zero = []
digits (suc k) (suc m) = digits k (suc m / 10) ++ (digit (suc m % 10) ∷ [])

unfoldable pub decimal : ℕ → List ℕ
decimal zero = digit 0 ∷ []
decimal (suc m) = digits (suc m) (suc m)

abbrev pub minus : ℕ
minus = 45

unfoldable pub signed : ℤ → List ℕ
signed (pos n) = decimal n
signed (negsuc n) = minus ∷ decimal (suc n)

abbrev pub newline : ℕ
newline = 10

abbrev pub space : ℕ
space = 32

unfoldable pub spaced : List ℕ → List ℕ
spaced [] = []
spaced (n ∷ ns) = space ∷ decimal n ++ spaced ns

-- "READ", "RECORD", "ANSWER", "OTHER", "NONE", "REFUSED"
abbrev pub read_word : List ℕ
read_word = 82 ∷ 69 ∷ 65 ∷ 68 ∷ []

abbrev pub record_word : List ℕ
record_word = 82 ∷ 69 ∷ 67 ∷ 79 ∷ 82 ∷ 68 ∷ []

abbrev pub answer_word : List ℕ
answer_word = 65 ∷ 78 ∷ 83 ∷ 87 ∷ 69 ∷ 82 ∷ []

abbrev pub other_word : List ℕ
other_word = 79 ∷ 84 ∷ 72 ∷ 69 ∷ 82 ∷ []

abbrev pub none_word : List ℕ
none_word = 78 ∷ 79 ∷ 78 ∷ 69 ∷ []

abbrev pub refused_word : List ℕ
refused_word = 82 ∷ 69 ∷ 70 ∷ 85 ∷ 83 ∷ 69 ∷ 68 ∷ []

unfoldable pub costs : Reading → List ℕ
costs r = spaced (r.cost ∷ []) ++ space ∷ signed r.margin ++ newline ∷ []

unfoldable pub read_line : (y : ℕ) (r : Reading) → List ℕ
read_line y r = read_word ++ spaced (y ∷ r.changed ∷ r.unread ∷ r.class ∷ []) ++ costs r

unfoldable pub record_line : List ℕ → List ℕ
record_line F = record_word ++ spaced F ++ newline ∷ []

unfoldable pub answer_line : Reading → List ℕ
answer_line r = answer_word ++ costs r

unfoldable pub number_line : (w : List ℕ) (k : ℕ) → List ℕ
number_line w k = w ++ spaced (k ∷ []) ++ newline ∷ []

abbrev pub other_line : ℕ → List ℕ
other_line c = number_line other_word c

abbrev pub none_line : ℕ → List ℕ
none_line e = number_line none_word e

abbrev pub refused_line : ℕ → List ℕ
refused_line k = number_line refused_word k

-- a reading of the season y with its record F, or a refusal
unfoldable pub answer_text : (y : ℕ) (r : Reading) (F : List ℕ) → List ℕ
answer_text y r F = accepted r.number (read_line y r ++ record_line F) (refused_line r.number)

unfoldable pub tray_text : List ℕ → List ℕ
tray_text input = answer_text (season (plan_of input)) (tray_reading input) (tray_record input)

-- the reason x of an expected record, which has the reading r, with the other record F
abbrev pub reason_text : (x : Reason) (r : Reading) (F : List ℕ) → List ℕ
reason_text (Refused k) r F = refused_line k
reason_text Answer r F = answer_line r
reason_text (Other c) r F = other_line c ++ record_line F
reason_text (Nothing e) r F = none_line e

unfoldable pub why_text : List ℕ → List ℕ
why_text input = reason_text (why_reason input) (why_reading input) (why_other input)
