-- The plan's refusals and 6 to 8 do not apply exactly to the photographs of a sound plan with a record buffer of the right
-- length.
--
--   symbols-fit, fit-symbols          refusal 7 as facts, and back
--   doubts-fit, fit-doubts            refusal 8 as facts, and back
--   photo-accepted                    of a photograph and such a buffer the number is 0
--   accepted-photo, accepted-buffer   where it is 0, it is a photograph, and the buffer has its length
--
-- What this file is for: what a call that is not refused may rely on. Assumes nothing.
use mathlib.Core.Path.{◌≡◌, refl, sym, ap, ◌∙◌}
use mathlib.Core.Logic.{◌⊎◌, inl, inr}
use mathlib.Core.Bool.{Bool, true, false, not, ◌&&◌, true≢false}
use mathlib.Core.List.{List}
use Prim.Native.Nat.{ℕ, zero, suc, ◌<◌}
use lib.Dec.{eqb, ltb, leb}
use lib.ListN.{length}
use borrow.Author.Tests.{eqb-true, ltb-false, leb-false, eq-eqb, le-ltb, lt-leb, not-false}
use Rattle.bounded.specs.Bounded.{at}
use Rattle.bounded.proofs.Any.{any_none, none_any}
use Rattle.bounded.proofs.Parts.{both_false, not_both, neither}
use Rattle.definitions.specs.Refusals.{Refusal, first, accepted}
use Rattle.definitions.specs.Plan.{modulus, plan_rows, check_number}
use Rattle.definitions.specs.Code.{Code, cells, size}
use Rattle.definitions.specs.Cost.{full, unread}
use Rattle.definitions.specs.Calls.{strange, misdoubted, photo_tests, photo_rows}
use Rattle.definitions.specs.Photograph.{SymbolsFit, DoubtsFit, Photograph}
use Rattle.definitions.proofs.Sound.{checked, sound}
use Rattle.definitions.proofs.Refusals.{first-append, first-at, first-clear, test_at, ◌&◌, equal}

module _ (C : Code) (P s u : List ℕ) where
  pub symbols-fit : strange (modulus P) s (cells C P) ≡ false → SymbolsFit C P s
  symbols-fit e c m = one (leb (modulus P) (at s c)) refl (any_none _ _ e c m)
    where
      one : (b : Bool) → leb (modulus P) (at s c) ≡ b → b && not (eqb (at s c) unread) ≡ false →
          (at s c < modulus P) ⊎ (at s c ≡ unread)
      one true t h = inr (eqb-true _ _ (not-false _ h))
      one false t h = inl (leb-false _ _ t)

  pub fit-symbols : SymbolsFit C P s → strange (modulus P) s (cells C P) ≡ false
  fit-symbols h = none_any _ _ λ c m. one c (h c m)
    where
      one : (c : ℕ) → (at s c < modulus P) ⊎ (at s c ≡ unread) → leb (modulus P) (at s c) && not (eqb (at s c) unread) ≡ false
      one c (inl k) = both_false (leb (modulus P) (at s c)) (not (eqb (at s c) unread)) λ t.
          absurd (true≢false (sym t ∙ lt-leb _ _ k))
      one c (inr k) = both_false (leb (modulus P) (at s c)) (not (eqb (at s c) unread)) λ t. equal (at s c) unread k

  pub doubts-fit : misdoubted (full P) s u (cells C P) ≡ false → DoubtsFit (full P) C P s u
  doubts-fit e c m =
      let d = neither (ltb (full P) (at u c)) (eqb (at s c) unread && not (eqb (at u c) (full P))) (any_none _ _ e c m) in
      (ltb-false _ _ d.0, λ k. eqb-true _ _ (not-false _ (not_both _ _ d.1 (eq-eqb _ _ k))))

  pub fit-doubts : DoubtsFit (full P) C P s u → misdoubted (full P) s u (cells C P) ≡ false
  fit-doubts h = none_any _ _ λ c m.
      let (most, erased) = h c m in
      rw (le-ltb _ _ most) (both_false _ _ λ t. equal _ _ (erased (eqb-true _ _ t)))

module _ (C : Code) (P s u B : List ℕ) where
  -- the rows after the plan's
  abbrev rest : List Refusal
  rest = photo_tests (modulus P) (full P) s u B (cells C P) (size C P)

  split : first (photo_rows C P s u B) ≡ accepted (check_number P) (first rest) (check_number P)
  unfolding photo_rows check_number plan_rows
  split = first-append (plan_rows P) rest tt

  pub photo-accepted : Photograph C P s u → length B ≡ size C P → first (photo_rows C P s u B) ≡ 0
  photo-accepted h l = split ∙ ap (λ k. accepted k (first rest) k) (checked P h.sound) ∙ sym (first-at rest 5
      (equal _ _ h.symbols & equal _ _ h.doubts & equal _ _ l & fit-symbols C P s u h.symbol
      & fit-doubts C P s u h.doubt & tt))

  module _ (e : first (photo_rows C P s u B) ≡ 0) where
    passed : check_number P ≡ 0
    passed = go (check_number P) (sym split ∙ e)
      where
        go : (k : ℕ) → accepted k (first rest) k ≡ 0 → k ≡ 0
        go zero h = refl
        go (suc k) h = h

    clear : (i : ℕ) → test_at rest i ≡ false
    clear = first-clear rest tt (sym (split ∙ ap (λ k. accepted k (first rest) k) passed) ∙ e)

    pub accepted-photo : Photograph C P s u
    accepted-photo = record {
      sound = sound P passed;
      symbols = eqb-true _ _ (not-false _ (clear 0));
      doubts = eqb-true _ _ (not-false _ (clear 1));
      symbol = symbols-fit C P s u (clear 3);
      doubt = doubts-fit C P s u (clear 4);
    }

    pub accepted-buffer : length B ≡ size C P
    accepted-buffer = eqb-true _ _ (not-false _ (clear 2))
