-- What a call that is not refused knows of its arguments, and the number of one that is.
--
--   accepted_measuring            measuring: a photograph of a sound plan, and a record
--   accepted-reading              reading: a photograph
--   accepted_writing              writing: what it asks of its arguments
--   accepted_masking              masking: the same
--   accepted_explaining           explaining: a photograph, a record of its plan and room for another
--   photo-refused, photo_passes   the plan's own number; past the plan, that of the tests of a photograph
--   write-refused, write_passes   the same of writing
--   mask-refused, mask_passes     and of masking
--   measure-refused, measure-at   the photograph's number; that of the test after it
--   read-refused                  the photograph's number
--   explain-refused               the plan's own number
--   explain-short, explain-measured   past the plan, 6 for the buffer, else the number of measuring
--   explain-six                   so 6 where any length is wrong
--   writing_accepted              a record of a sound plan is written into a buffer of its length
--   masking_accepted              and put on symbols of the plan
--   measuring_accepted            a photograph and a record of its plan are measured
--   explaining_accepted           and explained, where there is room for another record
--   plan-first                    a plan that is refused has its own number in every call
--   written-exactly, taken-exactly, masks_exactly, explains_exactly
--                                 under a sound plan, 6 to 9 by what is wrong with the other arguments
--
-- What this file is for: the calls test in order, and each case of theirs is one law. Assumes nothing.
use mathlib.Core.Path.{◌≡◌, refl, sym, ap, ◌∙◌}
use mathlib.Core.Bool.{Bool, true, false, not}
use mathlib.Core.List.{List, [], ◌∷◌, ◌++◌}
use Prim.Native.Nat.{ℕ}
use native.Mathlib.Omega.{arith}
use native.Mathlib.Decide.{ℕ_discrete}
use lib.Dec.{eqb}
use lib.ListN.{length}
use borrow.Author.Tests.{leb-false, lt-leb, eqb-true, not-false}
use Rattle.bounded.proofs.Any.{any_none, none_any}
use Rattle.definitions.specs.Refusals.{Refusal, ◌when◌, first}
use Rattle.definitions.specs.Plan.{modulus, plan_rows, check_number}
use Rattle.definitions.specs.Code.{Code, oblong, size, cells, IsRecord}
use Rattle.definitions.specs.Cost.{full}
use Rattle.definitions.specs.Calls.{length_row, overflowing, record_row, photo_tests, photo_rows}
use Rattle.definitions.specs.Calls.{write_tests, write_rows, write_number, measure_rows, measure_number}
use Rattle.definitions.specs.Calls.{nearest, missing, read_rows, read_number}
use Rattle.definitions.specs.Masking.{mask_tests, mask_rows, mask_number}
use Rattle.definitions.specs.Explaining.{explain_rows, explain_number}
use Rattle.definitions.specs.Sets.{set_plan, combined_symbols, combined_doubts}
use Rattle.definitions.specs.Photograph.{Photograph}
use Rattle.definitions.specs.Accepted.{Writing, Masking, Expecting}
use Rattle.definitions.specs.Demands.{PlanFirst, LengthsFit, WrittenExactly, TakenExactly, ExplainsExactly}
use Rattle.definitions.specs.Masks.{MaskLengths, MaskExactly}
use Rattle.definitions.proofs.Refusals.{test_at, first-clear, first_both, Stops, number_at, first-at, first-refuses}
use Rattle.definitions.proofs.Refusals.{first_passes, ◌&◌, equal, unequal, holds}
use Rattle.definitions.proofs.Sound.{sound, checked}
use Rattle.definitions.proofs.Photograph.{symbols-fit, fit-symbols, doubts-fit}
use Rattle.definitions.proofs.Photograph.{photo-accepted, accepted-photo, accepted-buffer}
use Rattle.definitions.proofs.Sets.{add-refused, combine-refused}

-- one row that does not apply
passed : (k : ℕ) (b : Bool) → b ≡ false → first ((k when b) ∷ []) ≡ 0
unfolding first
passed k b e = rw e

module _ (C : Code) (P : List ℕ) where
  -- a record whose coefficients the test of refusal 9 passes, and that of a call that row 9 does not refuse
  record-fits : (F : List ℕ) → length F ≡ size C P → overflowing (modulus P) F (size C P) ≡ false → IsRecord C P F
  record-fits F e t = record { size = e; below = λ i l. leb-false _ _ (any_none _ _ t i l) }

  record_is : (F : List ℕ) → length F ≡ size C P → first (record_row C P F ∷ []) ≡ 0 → IsRecord C P F
  record_is F e h = record-fits F e (first-clear (record_row C P F ∷ []) tt h 0)

  pub accepted_measuring : (s u F : List ℕ) → measure_number C P s u F ≡ 0 → Photograph C P s u × IsRecord C P F
  unfolding measure_number measure_rows photo_rows plan_rows
  accepted_measuring s u F e =
      let b = first_both (photo_rows C P s u F) (record_row C P F ∷ []) tt e in
      (accepted-photo C P s u F b.0, record_is F (accepted-buffer C P s u F b.0) b.1)

  pub accepted-reading : (s u B : List ℕ) → read_number C P s u B ≡ 0 → Photograph C P s u
  unfolding read_number read_rows photo_rows plan_rows
  accepted-reading s u B e =
      accepted-photo C P s u B (first_both (photo_rows C P s u B) ((10 when missing (nearest C P s u)) ∷ []) tt e).0

  pub accepted_writing : (F B : List ℕ) → write_number C P F B ≡ 0 → Writing C P F B
  unfolding write_number write_rows plan_rows check_number first
  accepted_writing F B e = record {
    sound = sound P b.0;
    given = record_is F (eqb-true _ _ (not-false _ (c 0))) (rest (c 2));
    room = eqb-true _ _ (not-false _ (c 1));
  }
    where
      b : (first (plan_rows P) ≡ 0) × (first (write_tests (modulus P) F B (cells C P) (size C P)) ≡ 0)
      b = first_both (plan_rows P) (write_tests (modulus P) F B (cells C P) (size C P)) tt e

      c : (i : ℕ) → test_at (write_tests (modulus P) F B (cells C P) (size C P)) i ≡ false
      c = first-clear (write_tests (modulus P) F B (cells C P) (size C P)) tt b.1

      rest : test_at (write_tests (modulus P) F B (cells C P) (size C P)) 2 ≡ false → first (record_row C P F ∷ []) ≡ 0
      rest t = passed 9 (overflowing (modulus P) F (size C P)) t

  -- a number that is the plan's, and that of one of the tests after it
  module _ (s u F : List ℕ) where
    pub photo-refused : (k : ℕ) → k ≡ check_number P → (k ≡ 0 → ⊥) → k ≡ first (photo_rows C P s u F)
    unfolding photo_rows plan_rows check_number
    photo-refused k e h = first-refuses (plan_rows P) (photo_tests (modulus P) (full P) s u F (cells C P) (size C P)) tt k e h

    pub photo_passes : check_number P ≡ 0 →
        first (photo_tests (modulus P) (full P) s u F (cells C P) (size C P)) ≡ first (photo_rows C P s u F)
    unfolding photo_rows plan_rows check_number
    photo_passes = first_passes (plan_rows P) (photo_tests (modulus P) (full P) s u F (cells C P) (size C P)) tt

  module _ (F B : List ℕ) where
    pub write-refused : (k : ℕ) → k ≡ check_number P → (k ≡ 0 → ⊥) → k ≡ write_number C P F B
    unfolding write_number write_rows plan_rows check_number
    write-refused k e h = first-refuses (plan_rows P) (write_tests (modulus P) F B (cells C P) (size C P)) tt k e h

    pub write_passes : check_number P ≡ 0 →
        first (write_tests (modulus P) F B (cells C P) (size C P)) ≡ write_number C P F B
    unfolding write_number write_rows plan_rows check_number
    write_passes = first_passes (plan_rows P) (write_tests (modulus P) F B (cells C P) (size C P)) tt

    pub writing_accepted : Writing C P F B → write_number C P F B ≡ 0
    writing_accepted w = sym (write_passes (checked P w.sound))
        ∙ sym (first-at (write_tests (modulus P) F B (cells C P) (size C P)) 3
        (equal _ _ w.given.size, (equal _ _ w.room, (none_any _ _ (λ i l. lt-leb _ _ (w.given.below i l)), tt))))

  -- measuring: the photograph's number, and the test after it
  module _ (s u F : List ℕ) where
    pub measure-refused : (k : ℕ) → k ≡ first (photo_rows C P s u F) → (k ≡ 0 → ⊥) → k ≡ measure_number C P s u F
    unfolding measure_number measure_rows photo_rows plan_rows
    measure-refused k e n = first-refuses (photo_rows C P s u F) (record_row C P F ∷ []) tt k e n

    pub measure-at : {m k : ℕ} (i : ℕ) → m ≡ first (photo_rows C P s u F) → m ≡ 0 → k ≡ size C P →
        Stops ((9 when overflowing (modulus P) F k) ∷ []) i →
        number_at ((9 when overflowing (modulus P) F k) ∷ []) i ≡ measure_number C P s u F
    unfolding measure_number measure_rows photo_rows plan_rows
    measure-at {k} i e z f h = first-at ((9 when overflowing (modulus P) F k) ∷ []) i h
        ∙ rw f (first_passes (photo_rows C P s u F) (record_row C P F ∷ []) tt (sym e ∙ z))

    -- a photograph and a record of its plan are measured
    pub measuring_accepted : Photograph C P s u → IsRecord C P F → measure_number C P s u F ≡ 0
    measuring_accepted h r =
        sym (measure-at 1 refl (photo-accepted C P s u F h r.size) refl (none_any _ _ (λ i l. lt-leb _ _ (r.below i l)), tt))

    pub read-refused : (k : ℕ) → k ≡ first (photo_rows C P s u F) → (k ≡ 0 → ⊥) → k ≡ read_number C P s u F
    unfolding read_number read_rows photo_rows plan_rows
    read-refused k e n = first-refuses (photo_rows C P s u F) ((10 when missing (nearest C P s u)) ∷ []) tt k e n

module _ (C : Code) (P : List ℕ) (e : check_number P ≡ 0) where
  pub written-exactly : (F B : List ℕ) → WrittenExactly C P F B
  written-exactly F B = record {
    six = λ n. six n (not (eqb (length F) (size C P))) refl;
    nine = λ f b n. at_row 2 (equal _ _ f & equal _ _ b & holds _ λ t. n (record-fits C P F f t));
  }
    where
      at_row : (i : ℕ) → Stops (write_tests (modulus P) F B (cells C P) (size C P)) i →
          write_number C P F B ≡ number_at (write_tests (modulus P) F B (cells C P) (size C P)) i
      at_row i h = sym (first-at (write_tests (modulus P) F B (cells C P) (size C P)) i h ∙ write_passes C P F B e)

      six : ¬ ((length F ≡ size C P) × (length B ≡ cells C P)) → (b : Bool) → not (eqb (length F) (size C P)) ≡ b →
          write_number C P F B ≡ 6
      six n true t = at_row 0 t
      six n false t = at_row 1 (t & holds _ λ f. n (eqb-true _ _ (not-false _ t), eqb-true _ _ (not-false _ f)))

  module _ (s u F : List ℕ) where
    abbrev tests : List Refusal
    tests = photo_tests (modulus P) (full P) s u F (cells C P) (size C P)

    -- both calls stop where the tests of a photograph do
    stopped : (i : ℕ) → Stops tests i → (number_at tests i ≡ 0 → ⊥) →
        (measure_number C P s u F ≡ number_at tests i) × (read_number C P s u F ≡ number_at tests i)
    stopped i h n =
        let k = first-at tests i h ∙ photo_passes C P s u F e in
        sym (measure-refused C P s u F _ k n) & sym (read-refused C P s u F _ k n)

    pub taken-exactly : TakenExactly C P s u F
    taken-exactly = record {
      six = λ n. six n (not (eqb (length s) (cells C P))) (not (eqb (length u) (cells C P))) refl refl;
      seven = λ (a, (b, c)) n.
          stopped 3 (equal _ _ a & equal _ _ b & equal _ _ c & holds _ λ t. n (symbols-fit C P s u t)) (λ z. omega arith);
      eight = λ (a, (b, c)) y n. stopped 4
          (equal _ _ a & equal _ _ b & equal _ _ c & fit-symbols C P s u y & holds _ λ t. n (doubts-fit C P s u t))
          (λ z. omega arith);
      nine = λ h f n.
          sym (measure-at C P s u F 0 refl (photo-accepted C P s u F h f) refl (holds _ λ t. n (record-fits C P F f t)));
    }
      where
        six : ¬ (LengthsFit C P s u F) → (a b : Bool) → not (eqb (length s) (cells C P)) ≡ a →
            not (eqb (length u) (cells C P)) ≡ b → (measure_number C P s u F ≡ 6) × (read_number C P s u F ≡ 6)
        six n true b f g = stopped 0 f (λ z. omega arith)
        six n false true f g = stopped 1 (f & g) (λ z. omega arith)
        six n false false f g = stopped 2
            (f & g & holds _ λ t. n (eqb-true _ _ (not-false _ f), (eqb-true _ _ (not-false _ g), eqb-true _ _ (not-false _ t))))
            (λ z. omega arith)

module _ (C : Code) (P F s : List ℕ) where
  abbrev masking : List Refusal
  masking = mask_tests (modulus P) F s (cells C P) (size C P)

  pub mask-refused : (k : ℕ) → k ≡ check_number P → (k ≡ 0 → ⊥) → k ≡ mask_number C P F s
  unfolding mask_number mask_rows plan_rows check_number
  mask-refused k e h = first-refuses (plan_rows P) masking tt k e h

  pub mask_passes : check_number P ≡ 0 → first masking ≡ mask_number C P F s
  unfolding mask_number mask_rows plan_rows check_number
  mask_passes = first_passes (plan_rows P) masking tt

  pub masking_accepted : Masking C P F s → mask_number C P F s ≡ 0
  masking_accepted m = sym (mask_passes (checked P m.sound)) ∙ sym (first-at masking 4
      (equal _ _ m.given.size & equal _ _ m.whole & fit-symbols C P s [] m.symbol
      & none_any _ _ (λ i l. lt-leb _ _ (m.given.below i l)) & tt))

  pub accepted_masking : mask_number C P F s ≡ 0 → Masking C P F s
  unfolding mask_number mask_rows plan_rows check_number
  accepted_masking e =
      let b = first_both (plan_rows P) masking tt e in
      let clear = first-clear masking tt b.1 in
      record {
        sound = sound P b.0;
        given = record-fits C P F (eqb-true _ _ (not-false _ (clear 0))) (clear 3);
        whole = eqb-true _ _ (not-false _ (clear 1));
        symbol = symbols-fit C P s [] (clear 2);
      }

  pub masks_exactly : check_number P ≡ 0 → MaskExactly C P F s
  masks_exactly e = record {
    six = λ n. six n (not (eqb (length F) (size C P))) refl;
    seven = λ (a, b) n. at_row 2 (equal _ _ a & equal _ _ b & holds _ λ t. n (symbols-fit C P s [] t));
    nine = λ (a, b) y n. at_row 3
        (equal _ _ a & equal _ _ b & fit-symbols C P s [] y & holds _ λ t. n (record-fits C P F a t));
    zero = λ (a, b) y r. masking_accepted (record { sound = sound P e; given = r; whole = b; symbol = y });
  }
    where
      at_row : (i : ℕ) → Stops masking i → mask_number C P F s ≡ number_at masking i
      at_row i h = sym (first-at masking i h ∙ mask_passes e)

      six : ¬ (MaskLengths C P F s) → (b : Bool) → not (eqb (length F) (size C P)) ≡ b → mask_number C P F s ≡ 6
      six n true t = at_row 0 t
      six n false t = at_row 1 (t & holds _ λ f. n (eqb-true _ _ (not-false _ t), eqb-true _ _ (not-false _ f)))

module _ (C : Code) (P s u F B : List ℕ) where
  -- the rows of measuring after the plan's, and those of explaining
  abbrev measured : List Refusal
  measured = photo_tests (modulus P) (full P) s u F (cells C P) (size C P) ++ record_row C P F ∷ []

  abbrev explained : List Refusal
  explained = length_row B (size C P) ∷ measured

  pub explain-refused : (k : ℕ) → k ≡ check_number P → (k ≡ 0 → ⊥) → k ≡ explain_number C P s u F B
  unfolding explain_number explain_rows plan_rows check_number
  explain-refused k e h = first-refuses (plan_rows P) explained tt k e h

  module _ (e : check_number P ≡ 0) where
    passes : first explained ≡ explain_number C P s u F B
    unfolding explain_number explain_rows plan_rows check_number
    passes = first_passes (plan_rows P) explained tt e

    pub explain-short : (length B ≡ size C P → ⊥) → 6 ≡ explain_number C P s u F B
    explain-short h = first-at explained 0 (unequal _ _ h) ∙ passes

    pub explain-measured : length B ≡ size C P → measure_number C P s u F ≡ explain_number C P s u F B
    unfolding measure_number measure_rows photo_rows plan_rows check_number
    explain-measured h =
        let fits = sym (first-at (length_row B (size C P) ∷ []) 1 (equal _ _ h, tt)) in
        sym (first_passes (plan_rows P) measured tt e) ∙ first_passes (length_row B (size C P) ∷ []) measured tt fits ∙ passes

    pub explain-six : ¬ (LengthsFit C P s u F × (length B ≡ size C P)) → explain_number C P s u F B ≡ 6
    explain-six n = elim (ℕ_discrete (length B) (size C P)) [
      | yes h ↦ sym (explain-measured h) ∙ ((taken-exactly C P e s u F).six (λ f. n (f, h))).0
      | no h ↦ sym (explain-short h)
    ]

    pub explains_exactly : ExplainsExactly C P s u F B
    explains_exactly = record { six = explain-six; measured = λ h. sym (explain-measured h) }

  pub explaining_accepted : Expecting C P s u F B → explain_number C P s u F B ≡ 0
  explaining_accepted x = sym (explain-measured (checked P x.photo.sound) x.room)
      ∙ measuring_accepted C P s u F x.photo x.given

  pub accepted_explaining : explain_number C P s u F B ≡ 0 → Expecting C P s u F B
  unfolding explain_number explain_rows plan_rows check_number
  accepted_explaining z =
      let b = first_both (plan_rows P) explained tt z in
      let room = eqb-true _ _ (not-false _ (first-clear explained tt b.1 0)) in
      let h = accepted_measuring C P s u F (explain-measured b.0 room ∙ z) in
      record { photo = h.0; given = h.1; room = room }

pub plan-first : (P : List ℕ) → PlanFirst P
plan-first P = record {
  write = λ C F B n. sym (write-refused C P F B _ refl n);
  measure = λ C s u F n. sym (measure-refused C P s u F _ (photo-refused C P s u F _ refl n) n);
  read = λ C s u B n. sym (read-refused C P s u B _ (photo-refused C P s u B _ refl n) n);
  mask = λ C F s n. sym (mask-refused C P F s _ refl n);
  explain = λ C s u F B n. sym (explain-refused C P s u F B _ refl n);
  set_add = λ S k s u e n. sym (add-refused S k s u _ (sym (ap check_number e)) n);
  set_combine = λ S B D e n. sym (combine-refused S B D _ (sym (ap check_number e)) n);
  set_read = λ S B e n.
      sym (read-refused oblong (set_plan S) (combined_symbols S) (combined_doubts S) B _
      (photo-refused oblong (set_plan S) (combined_symbols S) (combined_doubts S) B _ (sym (ap check_number e)) n) n);
}
