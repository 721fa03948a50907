-- EXPLAINING why a record that was expected did not come up: what the call returns, and what it leaves in the buffer lent for
-- another record. It is given a plan P, symbols s, doubts u, the expected record F and the buffer B.
--
--   explain_rows, explain_number  the plan's refusals, and 6 to 9; 6 is for the buffer too
--   different C P F G            two records are different when some coefficient is
--   differing_place C P F G      the lowest place at which the marks of two records differ
--   reason_for C P s u F found   the reason, by what a reading finds: a record or none
--   explain_reason               what the call returns: the refusal, or the reason for the expected record
--   leaves r G B                 what the reason r leaves in the buffer: the other record G, or B as it was
--   explain_buffer               what the buffer then holds
--   values_of r                   number, reason, place and excess of each case: what C is handed
--
-- What this file is for: the contracts of explaining are equalities with these. What a reading finds is `nearest` of Calls.
use Rattle.std.specs.Prelude.{Bool, not, cond, List, [], ◌∷◌, ◌++◌, ℕ, ◌-◌, eqb}
use Rattle.std.proofs.Math.Option.{Option, some, none}
use Rattle.bounded.specs.Bounded.{at, any, index}
use Rattle.definitions.specs.declared.Reason.{Reason}
use Rattle.definitions.specs.declared.Reason.TheVariants.{Refused, Answer, Other, Nothing}
use Rattle.definitions.specs.declared.Explanation.{Explanation}
use Rattle.definitions.specs.Refusals.{Refusal, first, accepted}
use Rattle.definitions.specs.Plan.{modulus, plan_rows}
use Rattle.definitions.specs.Code.{Code, size, cells, mark}
use Rattle.definitions.specs.Cost.{full, radius}
use Rattle.definitions.specs.Calls.{length_row, record_row, photo_tests, cost_of, nearest, the}

unfoldable pub explain_rows : Code → (P s u F B : List ℕ) → List Refusal
explain_rows C P s u F B = plan_rows P
    ++ length_row B (size C P) ∷ photo_tests (modulus P) (full P) s u F (cells C P) (size C P) ++ record_row C P F ∷ []

unfoldable pub explain_number : Code → (P s u F B : List ℕ) → ℕ
explain_number C P s u F B = first (explain_rows C P s u F B)

abbrev pub different : Code → (P F G : List ℕ) → Bool
different C P F G = any (size C P) λ k. not (eqb (at F k) (at G k))

abbrev pub differing_place : Code → (P F G : List ℕ) → ℕ
differing_place C P F G = index (cells C P) λ c. not (eqb (at (mark C P F) c) (at (mark C P G) c))

abbrev pub reason_for : Code → (P s u F : List ℕ) → Option (List ℕ) → Reason
reason_for C P s u F (some G) = cond (different C P F G) (Other (differing_place C P F G)) Answer
reason_for C P s u F none = Nothing (cost_of C P s u F - radius C P)

unfoldable pub explain_reason : Code → (P s u F B : List ℕ) → Reason
explain_reason C P s u F B = accepted (explain_number C P s u F B) (reason_for C P s u F (nearest C P s u))
    (Refused (explain_number C P s u F B))

abbrev pub leaves : Reason → (G B : List ℕ) → List ℕ
leaves (Refused k) G B = B
leaves Answer G B = B
leaves (Other c) G B = G
leaves (Nothing e) G B = B

unfoldable pub explain_buffer : Code → (P s u F B : List ℕ) → List ℕ
explain_buffer C P s u F B = leaves (explain_reason C P s u F B) (the (nearest C P s u)) B

abbrev pub values_of : Reason → Explanation
values_of (Refused k) = record { number = k; reason = 0; place = 0; excess = 0 }
values_of Answer = record { number = 0; reason = 1; place = 0; excess = 0 }
values_of (Other c) = record { number = 0; reason = 2; place = c; excess = 0 }
values_of (Nothing e) = record { number = 0; reason = 3; place = 0; excess = e }
