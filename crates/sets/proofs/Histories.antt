-- Sets over any history of calls.
--
--   holds-plan          the plan in the memory is the one held
--   adds_exactly        which number adding gives; the doubts are not used otherwise
--   withdraws_exactly   which number withdrawing gives; the number can be used again
--   holds_after         whatever was called, the memory is that of what is then held
--   holds-from          so it is after any calls from a start, whatever bytes were there
--
-- What this file is for: a set holds the photographs that arrived and were not withdrawn. Assumes nothing.
use mathlib.Core.Path.{◌≡◌, refl, sym, ap, ◌∙◌}
use mathlib.Core.Logic.{◌≢◌}
use mathlib.Core.Bool.{Bool, true, false, not}
use mathlib.Core.List.{List, [], ◌∷◌}
use mathlib.Core.Option.{Option, some, none, none-ne-some, some-injective}
use Prim.Native.Nat.{ℕ, zero, suc, ◌≤◌, ◌<◌}
use native.Mathlib.Omega.{arith}
use native.Mathlib.Decide.{dec_lt, ℕ_discrete}
use lib.Dec.{eqb}
use lib.ListN.{length}
use borrow.Author.Tests.{eqb-true, ltb-false, not-false, lt-ltb, le-ltb, eq-eqb, ne_eqb}
use Rattle.bounded.specs.Bounded.{at}
use Rattle.definitions.specs.Refusals.{Refusal, first, accepted}
use Rattle.definitions.specs.Plan.{modulus, check_number}
use Rattle.definitions.specs.Code.{oblong, cells}
use Rattle.definitions.specs.Cost.{full}
use Rattle.definitions.specs.Sound.{Sound}
use Rattle.definitions.specs.Sets.{set_plan, flag, held, started, added, withdrawn, start_memory, add_tests, add_number}
use Rattle.definitions.specs.Sets.{add_memory, withdraw_rows, withdraw_number, withdraw_memory, combine_number, set_number}
use Rattle.definitions.specs.Histories.{Holding, empty, with, Call, start, add, withdraw, combine, read, after, keeps, run, kept}
use Rattle.definitions.specs.Histories.{flag_of, memory, Stored, Holds, Fits, AddsExactly, WithdrawsExactly}
use Rattle.definitions.proofs.Refusals.{test_at, first-clear, Stops, number_at, first-at, ◌&◌, equal, unequal, holds, not-true}
use Rattle.definitions.proofs.Refusals.{turned_true}
use Rattle.definitions.proofs.Sound.{sound, checked, cells-most}
use Rattle.definitions.proofs.Photograph.{symbols-fit, fit-symbols, doubts-fit, fit-doubts}
use Rattle.definitions.proofs.Sets.{add_passes, accepted_adding, withdraw-at}
use Rattle.sets.proofs.Held.{memory_parts, memory-plan, started-is, added_is, withdrawn-is}

-- a set that starts
starts : {P : List ℕ} → Sound P → Holds (empty P) (started P)
starts {P} d = record {
  sound = d;
  stored = λ k s e. absurd (none-ne-some s e);
  memory-is = started-is P d.whole;
}

module _ {H : Holding} {S : List ℕ} (h : Holds H S) where
  abbrev P : List ℕ
  P = H.plan

  pub holds-plan : set_plan S ≡ H.plan
  holds-plan = ap set_plan h.memory-is ∙ memory-plan H h.sound.whole

  -- flags
  flag_is : (k : ℕ) → k < 9 → at S (flag k) ≡ flag_of (H.photo k)
  flag_is k l = ap (λ S. at S (flag k)) h.memory-is ∙ (memory_parts H).flags k l

  is_free : (k : ℕ) → k < 9 → H.photo k ≡ none → held S k ≡ false
  is_free k l e = equal _ _ (flag_is k l ∙ ap flag_of e)

  is_held : (k : ℕ) → H.photo k ≢ none → (k < 9) × (held S k ≡ true)
  is_held k n = go (H.photo k) refl
    where
      go : (o : Option (List ℕ)) → H.photo k ≡ o → (k < 9) × (held S k ≡ true)
      go none e = absurd (n e)
      go (some s) e =
          let l = (h.stored k s e).low in
          (l, unequal (at S (flag k)) 0 λ z. omega (arith, z, flag_is k l, ap flag_of e))

  -- another photograph, or none, under the number k
  holds-with : (k : ℕ) (o : Option (List ℕ)) (T : List ℕ) → ((s : List ℕ) → o ≡ some s → Stored P k s) →
      T ≡ memory (with H k o) → Holds (with H k o) T
  holds-with k o T new e = record {
    sound = h.sound;
    stored = λ j s f. elim (ℕ_discrete j k) [
      | yes z ↦ rw z (new s (rw (eq-eqb j k z) at f))
      | no z ↦ h.stored j s (rw (ne_eqb j k z) at f)
    ];
    memory-is = e;
  }

  -- adding
  module _ (k : ℕ) (s u : List ℕ) where
    abbrev tests : List Refusal
    tests = add_tests (modulus P) (full P) S k s u (cells oblong P)

    decided : first tests ≡ add_number S k s u
    decided = rw holds-plan at (add_passes S k s u (rw holds-plan (checked P h.sound)))

    arrives : add_number S k s u ≡ 0 → Holds (with H k (some s)) (added S k s)
    arrives e =
        let (_, stored, clear) = accepted_adding S k s u e in
        let new : Stored P k s = rw holds-plan at stored in
        let room : length s ≤ 256 = omega (arith, new.whole, cells-most oblong h.sound) in
        holds-with k (some s) (added S k s) (λ t f. rw (← some-injective s t f) new)
        (ap (λ S. added S k s) h.memory-is ∙ added_is H k s new.low room (free new.low clear (H.photo k) refl))
      where
        free : k < 9 → at S (flag k) ≡ 0 → (o : Option (List ℕ)) → H.photo k ≡ o → H.photo k ≡ none
        free l z none f = f
        free l z (some t) f = absurd (omega (arith, flag_is k l, ap flag_of f))

    pub adds_exactly : AddsExactly H S k s u
    unfolding add_memory
    adds_exactly = record {
      six = λ n. six n (not (eqb (length s) (cells oblong P))) refl;
      high = λ (a, b) l. at_row 2 (equal _ _ a & equal _ _ b & lt-ltb 8 k l);
      there = λ (a, b) n. let i = is_held k n in at_row 3 (equal _ _ a & equal _ _ b & to_8 i.0 & i.1);
      seven = λ (a, b) l f n.
          at_row 4 (equal _ _ a & equal _ _ b & to_8 l & is_free k l f & holds _ λ t. n (symbols-fit oblong P s u t));
      eight = λ (a, b) l f y n. at_row 5 (equal _ _ a & equal _ _ b & to_8 l & is_free k l f & fit-symbols oblong P s u y
          & holds _ λ t. n (doubts-fit oblong P s u t));
      zero = λ (a, b) l f y d. at_row 6 (equal _ _ a & equal _ _ b & to_8 l & is_free k l f & fit-symbols oblong P s u y
          & fit-doubts oblong P s u d & tt);
      unused = λ v e f. rw (e, f);
    }
      where
        at_row : (i : ℕ) → Stops tests i → add_number S k s u ≡ number_at tests i
        at_row i g = sym (first-at tests i g ∙ decided)

        to_8 : k < 9 → test_at tests 2 ≡ false
        to_8 l = le-ltb 8 k (omega arith)

        six : ¬ (Fits H s u) → (b : Bool) → not (eqb (length s) (cells oblong P)) ≡ b → add_number S k s u ≡ 6
        six n true t = at_row 0 t
        six n false t = at_row 1 (t & holds _ λ f. n (eqb-true _ _ (not-false _ t), eqb-true _ _ (not-false _ f)))

  -- withdrawing
  module _ (k : ℕ) where
    leaves : withdraw_number S k ≡ 0 → Holds (with H k none) (withdrawn S k)
    unfolding withdraw_number
    leaves e = holds-with k none (withdrawn S k) (λ s f. absurd (none-ne-some s f))
        (ap (λ S. withdrawn S k) h.memory-is
        ∙ withdrawn-is H k (omega (arith, ltb-false 8 k (first-clear (withdraw_rows S k) tt e 0))))

    number : H.photo k ≢ none → withdraw_number S k ≡ 0
    number n = let i = is_held k n in sym (withdraw-at S k 2 (le-ltb 8 k (omega (arith, i.0)) & not-true i.1 & tt))

  -- what is held after a call with the number n, which is accepted or not
  decide : (n : ℕ) (G : Holding) (T : List ℕ) → (n ≡ 0 → Holds G T) → Holds (accepted n G H) (accepted n T S)
  decide zero G T f = f refl
  decide (suc n) G T f = h

  unchanged : (n : ℕ) → Holds (accepted n H H) S
  unchanged zero = h
  unchanged (suc n) = h

  step : (c : Call) → Holds (keeps c S H) (after c S)
  unfolding start_memory add_memory withdraw_memory
  step (start Q) = decide (check_number Q) (empty Q) (started Q) λ e. starts (sound Q e)
  step (add k s u) = decide (add_number S k s u) (with H k (some s)) (added S k s) (arrives k s u)
  step (withdraw k) = decide (withdraw_number S k) (with H k none) (withdrawn S k) (leaves k)
  step (combine B D) = unchanged (combine_number S B D)
  step (read B) = unchanged (set_number S B)

pub withdraws_exactly : {H : Holding} {S : List ℕ} → Holds H S → (k : ℕ) → WithdrawsExactly H S k
unfolding withdraw_memory
withdraws_exactly {H} {S} h k = record {
  eighteen = λ e. elim (dec_lt 8 k) [
    | yes l ↦ sym (withdraw-at S k 0 (lt-ltb 8 k l))
    | no l ↦ let m : k < 9 = omega arith in sym (withdraw-at S k 1 (le-ltb 8 k (omega arith) & turned_true (is_free h k m e)))
  ];
  zero = number h k;
  again = λ n s u p. rw (number h k n) ((adds_exactly (leaves h k (number h k n)) k s u).zero (p.symbols, p.doubts)
      (is_held h k n).0 (rw (eq-eqb k k refl)) p.symbol p.doubt);
}

pub holds_after : (c : List Call) (H : Holding) (S : List ℕ) → Holds H S → Holds (kept c S H) (run c S)
holds_after [] H S h = h
holds_after (c ∷ l) H S h = holds_after l (keeps c S H) (after c S) (step h c)

pub holds-from : (P S : List ℕ) → Sound P → (c : List Call) →
    Holds (kept c (start_memory P S) (empty P)) (run c (start_memory P S))
unfolding start_memory
holds-from P S d c = holds_after c (empty P) (start_memory P S) (rw (checked P d) (starts d))
