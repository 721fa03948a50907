-- The reason that explaining gives is the true one.
--
--   lowest-place   the marks of two different records differ first at the place that is given
--   explained      every reason that is given is the true one, with all that is told beside it
--
-- What this file is for: document 02's request 5 in the staff's words. Assumes nothing.
use mathlib.Core.Path.{◌≡◌, refl, sym, ap, ◌∙◌}
use mathlib.Core.Logic.{◌≢◌, inl, inr}
use mathlib.Core.List.{List}
use mathlib.Core.Option as option
use Prim.Native.Nat.{ℕ, ◌-◌, ◌≤◌, ◌<◌}
use native.Mathlib.Omega.{arith}
use native.Mathlib.Decide.{dec_lt}
use borrow.Author.Tests.{eqb-true, eqb-false, not-true, not-false}
use Rattle.bounded.proofs.Any.{any_none}
use Rattle.bounded.proofs.Index.{index-before, index-holds, index-within}
use Rattle.definitions.specs.declared.Reason.{Reason}
use Rattle.definitions.specs.declared.Reason.TheVariants.{Answer, Other, Nothing}
use Rattle.definitions.specs.Code.{Code, cells, IsRecord}
use Rattle.definitions.specs.Cost.{radius}
use Rattle.definitions.specs.Sound.{Sound}
use Rattle.definitions.specs.Calls.{cost_of, nearest, read_reading, read_buffer}
use Rattle.definitions.specs.Explaining.{differing_place, explain_reason, explain_buffer, values_of}
use Rattle.definitions.specs.Accepted.{Expecting}
use Rattle.definitions.specs.Reads.{Reads, Explains}
use Rattle.definitions.specs.Demands.{Shown, Explained}
use Rattle.definitions.proofs.Refusals.{holds}
use Rattle.definitions.proofs.Written.{mark-at}
use Rattle.definitions.proofs.Own.{same-record}
use Rattle.definitions.proofs.Nearest.{cost-within, without_cost, nearest_says}
use Rattle.definitions.proofs.Unique.{at_most_one}
use Rattle.definitions.proofs.Explaining.{explains_answer, read_finds, read-near, explains_other, explains_nothing}

module _ (C : Code) (P s u F : List ℕ) (S : Sound P) (f : IsRecord C P F) where
  pub lowest-place : (G : List ℕ) → IsRecord C P G → F ≢ G → cost_of C P s u G < radius C P →
      Shown C P s u F G (differing_place C P F G)
  lowest-place G g n l =
      let inside : differing_place C P F G < cells C P = index-within _ _ (holds _ λ t. n (same-record P S C F G f g λ c k.
      sym (mark-at C P F c k) ∙ eqb-true _ _ (not-false _ (any_none _ _ t c k)) ∙ mark-at C P G c k)) in
      record {
        given = g;
        other = n;
        near = l;
        inside = inside;
        before = λ c k. eqb-true _ _ (not-false _ (index-before _ _ c k));
        differs = eqb-false _ _ (not-true _ (index-holds _ _ inside));
      }

module _ (C : Code) (P s u F B : List ℕ) (x : Expecting C P s u F B) where
  -- what is told and left, in each of the three cases
  abbrev Told : Reason → List ℕ → Type 0
  Told r b = Explained C P s u F B (values_of r) b

  alone : (G : List ℕ) → IsRecord C P G → cost_of C P s u F < radius C P → cost_of C P s u G < radius C P → F ≡ G
  alone G g k l =
      at_most_one C P s u x.photo F G x.given g (cost-within C P s u F k) (cost-within C P s u G l)

  answer : cost_of C P s u F < radius C P → Told Answer B
  answer l = record {
    number = refl;
    one = inl refl;
    answer = (λ e. l, λ k. refl);
    answered = λ e. (refl, refl, refl);
    other = (λ e. absurd (omega arith), λ (G, g, n, k). absurd (n (alone G g l k)));
    shown = λ e. absurd (omega arith);
    nothing = (λ e. absurd (omega arith), λ h. absurd (omega (arith, l, h F x.given)));
    beyond = λ e. absurd (omega arith);
  }

  other : radius C P ≤ cost_of C P s u F → (G : List ℕ) → IsRecord C P G → cost_of C P s u G < radius C P →
      Told (Other (differing_place C P F G)) G
  other l G g k = record {
    number = refl;
    one = inr (inl refl);
    answer = (λ e. absurd (omega arith), λ h. absurd (omega (arith, l, h)));
    answered = λ e. absurd (omega arith);
    other = (λ e. (G, g, apart, k), λ e. refl);
    shown = λ e. (lowest-place C P s u F x.photo.sound x.given G g apart k, refl);
    nothing = (λ e. absurd (omega arith), λ h. absurd (omega (arith, k, h G g)));
    beyond = λ e. absurd (omega arith);
  }
    where
      apart : F ≢ G
      apart e = omega (arith, l, k, ap (cost_of C P s u) e)

  nothing : ((G : List ℕ) → IsRecord C P G → radius C P ≤ cost_of C P s u G) →
      Told (Nothing (cost_of C P s u F - radius C P)) B
  nothing h = record {
    number = refl;
    one = inr (inr refl);
    answer = (λ e. absurd (omega arith), λ k. absurd (omega (arith, k, h F x.given)));
    answered = λ e. absurd (omega arith);
    other = (λ e. absurd (omega arith), λ (G, g, n, k). absurd (omega (arith, k, h G g)));
    shown = λ e. absurd (omega arith);
    nothing = (λ e. h, λ k. refl);
    beyond = λ e. (omega (arith, h F x.given), refl, refl);
  }

  pub explained : Explained C P s u F B (values_of (explain_reason C P s u F B)) (explain_buffer C P s u F B)
  explained = elim (dec_lt (cost_of C P s u F) (radius C P)) [
    | yes l ↦ is (explains_answer C P s u F B x l) (answer l)
    | no l ↦ elim (read_finds C P s u F B x read) [
      | inl (z, _) ↦
          let (g, k) = read-near C P s u F B x read z in
          is (explains_other C P s u F B x read (omega arith) z) (other (omega arith) (read_buffer C P s u B) g k)
      | inr (t, m, e) ↦ is (explains_nothing C P s u F B x read (λ z. omega (arith, z, t))) (rw e (nothing (none m)))
    ]
  ]
    where
      read : Reads C P s u B (read_reading C P s u B) (read_buffer C P s u B)
      read = record { reading = refl; buffer = refl }

      is : {r : Reason} {b : List ℕ} → Explains C P s u F B r b → Told r b →
          Told (explain_reason C P s u F B) (explain_buffer C P s u F B)
      is h t = rw (← h.reason, ← h.buffer) t

      none : nearest C P s u ≡ option.none → (G : List ℕ) → IsRecord C P G → radius C P ≤ cost_of C P s u G
      none m G g = without_cost C P s u G (rw m at (nearest_says C P s u) G g)
