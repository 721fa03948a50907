-- The winner and the next, and the combined cell.
--
--   winner-below             the winner is a symbol
--   winner-most              it has the most votes
--   winner_top               so none has more
--   winner-first             and of those that have as many it is the smallest
--   next-votes, winner-cast  the next has no more, and the winner no more than are cast
--   winner_voted             where a vote is cast some photograph has the winner
--   combined-none            the combined cell where no vote is cast
--   combined-some            and where one is
--   majority                 it is what the document says
--   combined-fits            of symbols below p or unread it is such a symbol, with a doubt that fits it
--
-- What this file is for: the combined cell is the document's, and a cell of a photograph. Assumes nothing.
use mathlib.Core.Path.{◌≡◌, refl, sym, ◌∙◌}
use mathlib.Core.Bool.{Bool, true, cond, false≢true}
use mathlib.Core.List.{List}
use mathlib.Core.Logic.{◌≢◌, ◌⊎◌, inl, inr, ⊎_elim}
use Prim.Native.Nat.{ℕ, ◌*◌, ◌-◌, ◌/◌, ◌≤◌, ◌<◌}
use native.Mathlib.Omega.{arith}
use native.Mathlib.Nat.{sub-le}
use native.Mathlib.Decide.{dec_lt, ℕ_discrete}
use lib.Dec.{eqb}
use borrow.Author.Tests.{eq-eqb, ne_eqb, eqb-true}
use Rattle.bounded.specs.Bounded.{at, any, index}
use Rattle.bounded.proofs.Any.{some-any}
use Rattle.bounded.proofs.Index.{index-before, index-holds, index-within}
use Rattle.votes.specs.Votes.{votes, cast, most, winner, next, symbol_of, doubt_of}
use Rattle.votes.specs.Majority.{Majority}
use Rattle.votes.proofs.Largest.{most-above, most-below, most-reached}
use Rattle.votes.proofs.Voting.{votes_own, votes-some, votes-cast, cast-some}

module _ (x : List ℕ) (n : ℕ) where
  -- some symbol has the most votes: where all have none, symbol 0 has
  abbrev leads : ℕ → Bool
  leads v = eqb (votes x n v) (most 255 (votes x n))

  some_leads : index 255 leads < 255
  some_leads = index-within 255 leads (⊎_elim none (λ r. some-any 255 leads r.0 r.1 (eq-eqb _ _ r.2))
      (most-reached 255 (votes x n)))
    where
      none : most 255 (votes x n) ≡ 0 → any 255 leads ≡ true
      none z =
          let e : votes x n 0 ≡ most 255 (votes x n) = omega (arith, z, most-above 255 (votes x n) 0 (omega arith)) in
          some-any 255 leads 0 (omega arith) (eq-eqb _ _ e)

  pub winner-below : winner x n < 255
  unfolding winner
  winner-below = some_leads

  pub winner-most : votes x n (winner x n) ≡ most 255 (votes x n)
  unfolding winner
  winner-most = eqb-true _ _ (index-holds 255 leads some_leads)

  pub winner_top : (v : ℕ) → v < 255 → votes x n v ≤ votes x n (winner x n)
  winner_top v l = omega (arith, winner-most, most-above 255 (votes x n) v l)

  pub winner-first : (v : ℕ) → v < 255 → votes x n v ≡ votes x n (winner x n) → winner x n ≤ v
  unfolding winner
  winner-first v l e = elim (dec_lt v (index 255 leads)) [
    | yes h ↦ absurd (false≢true (sym (index-before 255 leads v h) ∙ eq-eqb _ _ (e ∙ winner-most)))
    | no h ↦ omega arith
  ]

  abbrev rest : ℕ → ℕ
  rest v = cond (eqb v (winner x n)) 0 (votes x n v)

  rest-is : (v : ℕ) → v ≢ winner x n → rest v ≡ votes x n v
  rest-is v h = rw (ne_eqb v (winner x n) h)

  pub next-votes : next x n ≤ votes x n (winner x n)
  unfolding next
  next-votes = most-below 255 rest (votes x n (winner x n)) λ v l. elim (ℕ_discrete v (winner x n)) [
    | yes e ↦ rw (eq-eqb v (winner x n) e) (omega arith)
    | no e ↦ rw (rest-is v e) (winner_top v l)
  ]

  pub winner-cast : votes x n (winner x n) ≤ cast x n
  winner-cast = votes-cast x n (winner x n) winner-below

  pub winner_voted : ((i : ℕ) → i < n → at x i ≤ 255) → 0 < cast x n → (i : ℕ) × (i < n) × (at x i ≡ winner x n)
  winner_voted b h =
      let r = cast-some x n h in
      let l : at x r.0 < 255 = omega (arith, r.2, b r.0 r.1) in
      votes-some x n (winner x n) (omega (arith, votes_own x n r.0 r.1, winner_top (at x r.0) l))

  pub combined-none : (f : ℕ) → cast x n ≡ 0 → (symbol_of x n ≡ 255) × (doubt_of f x n ≡ f)
  unfolding symbol_of doubt_of
  combined-none f e = rw (eq-eqb (cast x n) 0 e) (refl, refl)

  pub combined-some : (f : ℕ) → 0 < cast x n → (symbol_of x n ≡ winner x n)
      × (doubt_of f x n ≡ f - f * (votes x n (winner x n) - next x n) / cast x n)
  unfolding symbol_of doubt_of
  combined-some f l = let h : cast x n ≢ 0 = λ z. omega arith in rw (ne_eqb (cast x n) 0 h) (refl, refl)

  pub majority : (f : ℕ) → Majority f x n (symbol_of x n) (doubt_of f x n)
  unfolding next
  majority f = record {
    unread = combined-none f;
    symbol = λ l. rw (combined-some f l).0 winner-below;
    most = λ l v h. rw (combined-some f l).0 (winner_top v h);
    smallest = λ l v h e. rw (combined-some f l).0 (winner-first v h (rw (combined-some f l).0 at e));
    doubt = λ l. rw (combined-some f l).0 (
      next x n,
      (λ v h z. rw (rest-is v z) at (most-above 255 rest v h)),
      ⊎_elim inl reached (most-reached 255 rest),
      (combined-some f l).1,
    );
  }
    where
      reached : (v : ℕ) × (v < 255) × (rest v ≡ next x n) →
          (next x n ≡ 0) ⊎ ((v : ℕ) × (v < 255) × (v ≢ winner x n) × (votes x n v ≡ next x n))
      reached (v, h, e) = elim (ℕ_discrete v (winner x n)) [
        | yes z ↦ inl (sym e ∙ rw (eq-eqb v (winner x n) z))
        | no z ↦ inr (v, h, z, sym (rest-is v z) ∙ e)
      ]

  pub combined-fits : (p f : ℕ) → p < 255 → ((i : ℕ) → i < n → (at x i < p) ⊎ (at x i ≡ 255)) →
      ((symbol_of x n < p) ⊎ (symbol_of x n ≡ 255)) × ((doubt_of f x n ≤ f) × (symbol_of x n ≡ 255 → doubt_of f x n ≡ f))
  combined-fits p f small h = elim (ℕ_discrete (cast x n) 0) [
    | yes e ↦ let r = combined-none f e in (inr r.0, (omega (arith, r.1), λ _. r.1))
    | no e ↦
        let l : 0 < cast x n = omega arith in
        let r = combined-some f l in
        let q = winner_voted (λ i k. ⊎_elim (λ z. omega (arith, z)) (λ z. omega (arith, z)) (h i k)) l in
        let b : symbol_of x n < p = ⊎_elim (λ z. omega (arith, z, q.2, r.0))
        (λ z. absurd (omega (arith, z, q.2, winner-below))) (h q.0 q.1) in
        (inl b, (rw r.1 (sub-le _ _), λ z. absurd (omega arith)))
  ]
