-- The laws of outcomes: which number a call that tests row by row gives.
--
--   number-some         no refusal has the number 0
--   Ends x rows, ends, told
--                       x is the number of the row that applies first, told row by row, and back
--   handed              the number of a refusal that a `?` hands on
--   ◌then◌              a row that does not apply, before others
--   refused             the row whose refusal that is
--   decided             the last row, whose outcome is the call's
--
-- What this file is for: `Refusal::when` is asked row by row, and what comes out is `first` of the rows. Assumes nothing.
use mathlib.Core.Path.{◌≡◌, refl, ap, ◌∙◌}
use mathlib.Core.Bool.{Bool, true, false}
use mathlib.Core.Logic.{◌⊎◌, inl, inr}
use mathlib.Core.List.{List, [], ◌∷◌}
use Prim.Native.Nat.{ℕ, ◌<◌}
use native.Mathlib.Omega.{arith}
use lib.Dec.{lit<}
use Rattle.std.specs.Prelude.{Result, Ok, Err, MatchResult, IsErrAnd}
use Rattle.definitions.specs.declared.Refusal.{Refusal}
use Rattle.definitions.specs.declared.Refusal.TheVariants.{PlanBytes, Modulus, Rows, Columns, Degree, Points, Length, Held}
use Rattle.definitions.specs.declared.Refusal.TheVariants.{NotHeld, Symbol, Doubt, Coefficient, NoneNear, PlanFile, NoPlan}
use Rattle.definitions.specs.declared.Refusal.TheVariants.{WindowFile, SharedDay, NoWindow}
use Rattle.definitions.specs.Numbers.{number, number_of}
use Rattle.definitions.specs.Refusals.{Refusal as Row, ◌when◌, first}

pub number-some : (r : Refusal) → number r ≡ 0 → ⊥
number-some r e = omega (arith, e, some r)
  where
    some : (r : Refusal) → 0 < number r
    some PlanBytes = lit< tt
    some Modulus = lit< tt
    some Rows = lit< tt
    some Columns = lit< tt
    some Degree = lit< tt
    some Points = lit< tt
    some Length = lit< tt
    some Held = lit< tt
    some NotHeld = lit< tt
    some Symbol = lit< tt
    some Doubt = lit< tt
    some Coefficient = lit< tt
    some NoneNear = lit< tt
    some PlanFile = lit< tt
    some NoPlan = lit< tt
    some WindowFile = lit< tt
    some SharedDay = lit< tt
    some NoWindow = lit< tt

-- x is the number of the first row that applies: each row's test is false, or it is true and x is its number
abbrev pub Ends : ℕ → List Row → Type 0
Ends x [] = x ≡ 0
Ends x ((k when b) ∷ rows) = ((b ≡ true) × (x ≡ k)) ⊎ ((b ≡ false) × Ends x rows)

pub ends : (x : ℕ) (rows : List Row) → Ends x rows → x ≡ first rows
unfolding first
ends x [] h = h
ends x ((k when b) ∷ rows) (inl h) = rw h.0 h.1
ends x ((k when b) ∷ rows) (inr h) = rw h.0 (ends x rows h.1)

pub told : (x : ℕ) (rows : List Row) → x ≡ first rows → Ends x rows
unfolding first
told x [] e = e
told x ((k when true) ∷ rows) e = inl (refl, e)
told x ((k when false) ∷ rows) e = inr (refl, told x rows e)

-- a `?` hands a refusal on as it is
pub handed : {A : Type 0} (r : Result A Refusal) (e : Refusal) → IsErrAnd r (λ d. d ≡ e) → number_of r ≡ number e
handed (Ok x) e h = absurd h
handed (Err d) e h = ap number h

infixr 2 ◌then◌
abbrev pub ◌then◌ : {A B C : Type 0} → A → B → C ⊎ (A × B)
a then b = inr (a, b)

-- t is the row's test, and b the answer to it; k is the row's number, and f the refusal
pub refused : {A B : Type 0} (r : Result A Refusal) {e f : Refusal} {b t : Bool} {k : ℕ} → IsErrAnd r (λ d. d ≡ e) →
    (e ≡ f) × (b ≡ true) → t ≡ b → number f ≡ k → ((t ≡ true) × (number_of r ≡ k)) ⊎ B
refused r h e a n = inl (a ∙ e.1, handed r _ h ∙ ap number e.0 ∙ n)

pub decided : {A : Type 0} (r : Result A Refusal) (f : Refusal) (b : Bool) {t : Bool} {k : ℕ} →
    MatchResult r (λ _. b ≡ false) (λ e. (e ≡ f) × (b ≡ true)) → t ≡ b → number f ≡ k →
    ((t ≡ true) × (number_of r ≡ k)) ⊎ ((t ≡ false) × (number_of r ≡ 0))
decided (Ok x) f b h a n = inr (a ∙ h, refl)
decided (Err e) f b h a n = inl (a ∙ h.1, ap number h.0 ∙ n)
