-- What a call's number says of what it hands back.
--
--   write_keeps, write_fills           a refused writing leaves the buffer, an accepted one fills it
--   write-unsound                      so where the plan itself is refused
--   measure-refuses, measure-gives     a refused measuring is zeros, an accepted one the reading of the record
--   measure-unsound                    so where the plan itself is refused
--   read-refuses, read_takes           refusals of the plan and 6 to 8 of a reading; where none applies, the
--                                      photograph is taken
--   read-unsound                       so where the plan itself is refused
--   read_keeps, read-gives             a refused reading is zeros and leaves the buffer; an accepted one is of the record in it
--   explain-keeps                      a refused explaining is the refusal and leaves the buffer
--   handed_reading, handed_reason      the reading and the reason of a refusal that a `?` hands on
--
-- What this file is for: the calls test a number, the definitions choose by it. Assumes nothing.
use mathlib.Core.Path.{◌≡◌, refl, sym, ap, ◌∙◌}
use mathlib.Core.List.{List}
use Prim.Native.Nat.{ℕ, zero, suc}
use Rattle.std.specs.Prelude.{Result, Ok, Err, IsErrAnd}
use Rattle.definitions.specs.declared.Reading.{Reading}
use Rattle.definitions.specs.declared.Reason.{Reason}
use Rattle.definitions.specs.declared.Refusal.{Refusal}
use Rattle.definitions.specs.Numbers.{number, answered, reason_of}
use Rattle.definitions.specs.Refusals.{first, accepted}
use Rattle.definitions.specs.Plan.{check_number}
use Rattle.definitions.specs.Code.{Code, mark}
use Rattle.definitions.specs.Calls.{refused, reading_of, photo_rows, write_number, write_buffer, measure_number, measure_reading}
use Rattle.definitions.specs.Calls.{read_number, read_reading, read_buffer}
use Rattle.definitions.specs.declared.Reason.TheVariants.{Refused}
use Rattle.definitions.specs.Explaining.{explain_number, explain_reason, explain_buffer}
use Rattle.definitions.specs.Reads.{Reads}
use Rattle.definitions.proofs.Refusals.{otherwise}
use Rattle.definitions.proofs.Nearest.{reads_refused}
use Rattle.definitions.proofs.Accepted.{photo-refused, write-refused, measure-refused}
use Rattle.definitions.proofs.Explaining.{explains_refused}
use Rattle.reading.specs.Loading.{Taken}
use Rattle.reading.proofs.Loading.{taken}

module _ (C : Code) (P F B : List ℕ) {k : ℕ} (e : k ≡ write_number C P F B) where
  pub write_keeps : (k ≡ 0 → ⊥) → B ≡ write_buffer C P F B
  unfolding write_buffer
  write_keeps h = sym (otherwise k (mark C P F) B h) ∙ ap (λ k. accepted k (mark C P F) B) e

  pub write_fills : k ≡ 0 → mark C P F ≡ write_buffer C P F B
  unfolding write_buffer
  write_fills z = ap (λ k. accepted k (mark C P F) B) (sym z ∙ e)

pub write-unsound : (C : Code) (P F B : List ℕ) {k : ℕ} → k ≡ check_number P → (k ≡ 0 → ⊥) →
    (k ≡ write_number C P F B) × (B ≡ write_buffer C P F B)
write-unsound C P F B {k} e h = let n = write-refused C P F B k e h in (n, write_keeps C P F B n h)

module _ (C : Code) (P s u F : List ℕ) {k : ℕ} (e : k ≡ measure_number C P s u F) where
  pub measure-refuses : (k ≡ 0 → ⊥) → refused k ≡ measure_reading C P s u F
  unfolding measure_reading
  measure-refuses h =
      sym (otherwise k (reading_of C P s u F) (refused k) h) ∙ ap (λ k. accepted k (reading_of C P s u F) (refused k)) e

  pub measure-gives : k ≡ 0 → reading_of C P s u F ≡ measure_reading C P s u F
  unfolding measure_reading
  measure-gives z = ap (λ k. accepted k (reading_of C P s u F) (refused k)) (sym z ∙ e)

pub measure-unsound : (C : Code) (P s u F : List ℕ) {k : ℕ} → k ≡ check_number P → (k ≡ 0 → ⊥) →
    refused k ≡ measure_reading C P s u F
measure-unsound C P s u F {k} e h =
    measure-refuses C P s u F (measure-refused C P s u F k (photo-refused C P s u F k e h) h) h

module _ (C : Code) (P s u B : List ℕ) {k : ℕ} (e : k ≡ first (photo_rows C P s u B)) where
  pub read-refuses : (k ≡ 0 → ⊥) → Reads C P s u B (refused k) B
  read-refuses h = go k e h
    where
      go : (k : ℕ) → k ≡ first (photo_rows C P s u B) → (k ≡ 0 → ⊥) → Reads C P s u B (refused k) B
      go zero e h = absurd (h refl)
      go (suc k) e h = reads_refused C P s u B k (sym e)

  pub read_takes : k ≡ 0 → Taken C P s u B
  read_takes z = taken C P s u B (sym e ∙ z)

pub read-unsound : (C : Code) (P s u B : List ℕ) {k : ℕ} → k ≡ check_number P → (k ≡ 0 → ⊥) → Reads C P s u B (refused k) B
read-unsound C P s u B {k} e h = read-refuses C P s u B (photo-refused C P s u B k e h) h

pub read_keeps : (C : Code) (P s u B : List ℕ) → (read_number C P s u B ≡ 0 → ⊥) →
    (read_reading C P s u B ≡ refused (read_number C P s u B)) × (read_buffer C P s u B ≡ B)
unfolding read_reading read_buffer
read_keeps C P s u B h = (otherwise (read_number C P s u B) _ _ h, otherwise (read_number C P s u B) _ _ h)

-- the reading is that of the record in the buffer
pub read-gives : (C : Code) (P s u B : List ℕ) → read_number C P s u B ≡ 0 →
    read_reading C P s u B ≡ reading_of C P s u (read_buffer C P s u B)
unfolding read_reading read_buffer
read-gives C P s u B e = rw e

pub explain-keeps : (C : Code) (P s u F B : List ℕ) → (explain_number C P s u F B ≡ 0 → ⊥) →
    (explain_reason C P s u F B ≡ Refused (explain_number C P s u F B)) × (explain_buffer C P s u F B ≡ B)
explain-keeps C P s u F B n = let h = explains_refused C P s u F B _ refl n in (sym h.reason, sym h.buffer)

-- a `?` hands a refusal on as it is
pub handed_reading : (r : Result Reading Refusal) (e : Refusal) → IsErrAnd r (λ d. d ≡ e) → answered r ≡ refused (number e)
handed_reading (Ok x) e h = absurd h
handed_reading (Err d) e h = ap (λ d. refused (number d)) h

pub handed_reason : (r : Result Reason Refusal) (e : Refusal) → IsErrAnd r (λ d. d ≡ e) → reason_of r ≡ Refused (number e)
handed_reason (Ok x) e h = absurd h
handed_reason (Err d) e h = ap (λ d. Refused (number d)) h
