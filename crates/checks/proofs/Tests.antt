-- The checks as rows of the table: what each step has answered, and the number that comes out.
--
--   writes, masks, photographs, adds, combines
--                       under a sound plan, a check by the rows of a call has the call's number
--   measures            past a photograph, the same of measuring
--   strange-said, cells-said, overflowing-said
--                       what a test of whole buffers has answered, where they have their lengths
--
-- What this file is for: the checks give the definitions' numbers. Assumes nothing.
use mathlib.Core.Path.{◌≡◌, refl, sym, ◌∙◌}
use mathlib.Core.Bool.{Bool, true, false, not}
use mathlib.Core.Logic.{inl, inr}
use mathlib.Core.List.{List, [], ◌∷◌}
use Prim.Native.Nat.{ℕ}
use lib.Dec.{eqb}
use lib.ListN.{length}
use borrow.Author.Tests.{eqb-true, not-false}
use Rattle.field.specs.Word.{reached}
use Rattle.definitions.specs.Refusals.{Refusal as Row, ◌when◌, first}
use Rattle.definitions.specs.Plan.{modulus, plan_rows, check_number}
use Rattle.definitions.specs.Code.{Code, oblong, size, cells}
use Rattle.definitions.specs.Cost.{full}
use Rattle.definitions.specs.Calls.{strange, misdoubted, overflowing, photo_tests, photo_rows, write_tests, write_number}
use Rattle.definitions.specs.Calls.{record_row, measure_rows, measure_number}
use Rattle.definitions.specs.Masking.{mask_tests, mask_number}
use Rattle.definitions.specs.Sets.{set_plan, add_tests, add_number, combine_tests, combine_number}
use Rattle.definitions.proofs.Numbers.{Ends, ends, told}
use Rattle.definitions.proofs.Refusals.{first_passes}
use Rattle.definitions.proofs.Sound.{checked}
use Rattle.definitions.proofs.Photograph.{accepted-buffer}
use Rattle.definitions.proofs.Accepted.{photo_passes, write_passes, mask_passes}
use Rattle.definitions.proofs.Sets.{add_passes, combine_passes}
use Rattle.plan.specs.declared.season.Plan.{Plan}
use Rattle.plan.specs.Says.{bytes_of}
use Rattle.plan.proofs.Said.{says}

module _ (C : Code) (plan : Plan) where
  abbrev P : List ℕ
  P = bytes_of plan

  -- a check that ends in these tests, for n cells and k coefficients, has the given number x
  abbrev Gives : (n k x : ℕ) → ((p f n k : ℕ) → List Row) → ℕ → Type 0
  Gives n k x tests given =
      n ≡ cells C P → k ≡ size C P → Ends x (tests plan.grid.modulus.p plan.grid.full n k) → x ≡ given

  gives : {n k x : ℕ} (tests : (p f n k : ℕ) → List Row) {given : ℕ} →
      (check_number P ≡ 0 → first (tests (modulus P) (full P) (cells C P) (size C P)) ≡ given) → Gives n k x tests given
  gives {n} {k} {x} tests passes e h t =
      ends x (tests plan.grid.modulus.p plan.grid.full n k) t
      ∙ simp (e, h, (says plan).modulus, (says plan).full) (passes (checked P plan.sound))

  pub photographs : (s u F : List ℕ) {n k x : ℕ} → Gives n k x (λ p f. photo_tests p f s u F) (first (photo_rows C P s u F))
  photographs s u F = gives (λ p f. photo_tests p f s u F) (photo_passes C P s u F)

  -- past a photograph, measuring looks at the record's coefficients
  pub measures : (s u F : List ℕ) (x : ℕ) → first (photo_rows C P s u F) ≡ 0 →
      Ends x ((9 when overflowing plan.grid.modulus.p F (length F)) ∷ []) → x ≡ measure_number C P s u F
  unfolding measure_number measure_rows photo_rows plan_rows
  measures s u F x e t = ends x (record_row C P F ∷ []) (simp ((says plan).modulus, accepted-buffer C P s u F e) at t)
      ∙ first_passes (photo_rows C P s u F) (record_row C P F ∷ []) tt e

  pub writes : (F B : List ℕ) {n k x : ℕ} → Gives n k x (λ p f. write_tests p F B) (write_number C P F B)
  writes F B = gives (λ p f. write_tests p F B) (write_passes C P F B)

  pub masks : (F s : List ℕ) {n k x : ℕ} → Gives n k x (λ p f. mask_tests p F s) (mask_number C P F s)
  masks F s = gives (λ p f. mask_tests p F s) (mask_passes C P F s)

-- of sets: the plan is the one in the memory
module _ (S : List ℕ) (plan : Plan) (own : bytes_of plan ≡ set_plan S) where
  pub adds : (k : ℕ) (s u : List ℕ) {n c x : ℕ} →
      Gives oblong plan n c x (λ p f n _. add_tests p f S k s u n) (add_number S k s u)
  adds k s u = gives oblong plan (λ p f n _. add_tests p f S k s u n) (rw own (add_passes S k s u))

  pub combines : (B D : List ℕ) {n c x : ℕ} → Gives oblong plan n c x (λ p f n _. combine_tests B D n) (combine_number S B D)
  combines B D = gives oblong plan (λ p f n _. combine_tests B D n) (rw own (combine_passes S B D))

pub strange-said : (p : ℕ) (s : List ℕ) (n : ℕ) {r : Bool} → not (eqb (length s) n) ≡ false → r ≡ strange p s (length s) →
    strange p s n ≡ r
strange-said p s n e h = rw (eqb-true _ _ (not-false _ e)) at (sym h)

pub cells-said : (p f : ℕ) (s u : List ℕ) (n : ℕ) {x : ℕ} → not (eqb (length s) n) ≡ false →
    x ≡ first ((7 when strange p s (length s)) ∷ (8 when misdoubted f s u (length s)) ∷ []) →
    Ends x ((7 when strange p s n) ∷ (8 when misdoubted f s u n) ∷ [])
cells-said p f s u n e h = told _ _ (rw (eqb-true _ _ (not-false _ e)) at h)

pub overflowing-said : (p : ℕ) (F : List ℕ) (n : ℕ) {r : Bool} → not (eqb (length F) n) ≡ false → r ≡ reached p F →
    overflowing p F n ≡ r
overflowing-said p F n e h = rw (eqb-true _ _ (not-false _ e)) at (sym h)
