-- What the code's passes over nine photographs find.
--
--   Found m w s    m votes, the symbol w and s votes for the next make the combined cell
--   found          the largest of each column makes it
--
-- What this file is for: the symbol and the doubt that the code works out are the definition's. Assumes nothing.
use mathlib.Core.Path.{◌≡◌, refl, sym, ap, ◌∙◌}
use mathlib.Core.Bool.{cond}
use mathlib.Core.List.{List}
use mathlib.Core.Logic.{◌≢◌}
use Prim.Native.Nat.{ℕ, ◌*◌, ◌-◌, ◌/◌, ◌≤◌, ◌<◌, max}
use native.Mathlib.Omega.{arith}
use native.Mathlib.Nat.{le_antisymm}
use native.Mathlib.Decide.{dec_lt, ℕ_discrete}
use lib.Dec.{eqb}
use borrow.Author.Tests.{eq-eqb, ne_eqb}
use Rattle.bounded.specs.Bounded.{at, tab}
use Rattle.bounded.proofs.Tab.{tab-at}
use Rattle.votes.specs.Votes.{votes, cast, most, winner, next, symbol_of, doubt_of}
use Rattle.votes.specs.Majority.{counted, lowness, other}
use Rattle.votes.proofs.Largest.{most-above, most-below, most-tab, most-is}
use Rattle.votes.proofs.Voting.{votes_own, votes-some, none-cast}
use Rattle.votes.proofs.Winner.{winner-below, winner_top, winner-first, next-votes, winner-cast, winner_voted}
use Rattle.votes.proofs.Winner.{combined-none, combined-some}

-- the nine symbols are bytes
module _ (x : List ℕ) (byte : (k : ℕ) → k < 9 → at x k ≤ 255) where
  abbrev c : List ℕ
  c = tab 9 (counted x)

  abbrev W : ℕ
  W = winner x 9

  -- a photograph that is unread, and one that is not
  silent : (k : ℕ) → k < 9 → at x k ≡ 255 → at c k ≡ 0
  silent k l e = rw (tab-at 9 (counted x) k l, e)

  heard : (k : ℕ) → k < 9 → at x k ≢ 255 → at c k ≡ votes x 9 (at x k)
  heard k l n = rw (tab-at 9 (counted x) k l, ne_eqb (at x k) 255 n)

  read : (k : ℕ) → k < 9 → at x k ≢ 255 → at x k < 255
  read k l n = omega (arith, byte k l, n)

  -- no vote is cast: all nine are unread
  module _ (z : cast x 9 ≡ 0) where
    unread : (k : ℕ) → k < 9 → at x k ≡ 255
    unread = none-cast x 9 z

    none-counted : most 9 (at c) ≡ 0
    none-counted = most-is 9 (at c) 0 0 (λ k l. omega (arith, silent k l (unread k l))) (omega arith)
        (silent 0 (omega arith) (unread 0 (omega arith)))

    none-low : most 9 (lowness x c 0) ≡ 0
    none-low = most-is 9 (lowness x c 0) 0 0 (λ k l. omega (arith, one k l)) (omega arith) (one 0 (omega arith))
      where
        one : (k : ℕ) → k < 9 → lowness x c 0 k ≡ 0
        one k l = rw (silent k l (unread k l), unread k l) refl

    none_other : most 9 (other x c 255) ≡ 0
    none_other = most-is 9 (other x c 255) 0 0 (λ k l. omega (arith, one k l)) (omega arith) (one 0 (omega arith))
      where
        one : (k : ℕ) → k < 9 → other x c 255 k ≡ 0
        one k l = rw (unread k l) refl

  -- a vote is cast: some photograph has the winner
  module _ (h : 0 < cast x 9) where
    has : (i : ℕ) × (i < 9) × (at x i ≡ W)
    has = winner_voted x 9 byte h

    abbrev i : ℕ
    i = has.0

    its : at c i ≡ votes x 9 W
    its = heard i has.1 (λ z. omega (arith, z, has.2, winner-below x 9)) ∙ ap (votes x 9) has.2

    some-counted : most 9 (at c) ≡ votes x 9 W
    some-counted = most-is 9 (at c) (votes x 9 W) i up has.1 its
      where
        up : (k : ℕ) → k < 9 → at c k ≤ votes x 9 W
        up k l = elim (ℕ_discrete (at x k) 255) [
          | yes e ↦ omega (arith, silent k l e)
          | no n ↦ omega (arith, heard k l n, winner_top x 9 (at x k) (read k l n))
        ]

    some-low : most 9 (lowness x c (votes x 9 W)) ≡ 255 - W
    some-low = most-is 9 (lowness x c (votes x 9 W)) (255 - W) i up has.1 (rw (eq-eqb (at c i) (votes x 9 W) its, has.2) refl)
      where
        positive : 0 < votes x 9 W
        positive = rw has.2 at (votes_own x 9 i has.1)

        up : (k : ℕ) → k < 9 → lowness x c (votes x 9 W) k ≤ 255 - W
        up k l = elim (ℕ_discrete (at c k) (votes x 9 W)) [
          | no n ↦ rw (ne_eqb (at c k) (votes x 9 W) n) (omega arith)
          | yes e ↦
              let n : at x k ≢ 255 = λ z. omega (arith, e, silent k l z, positive) in
              rw (eq-eqb (at c k) (votes x 9 W) e)
              (omega (arith, winner-first x 9 (at x k) (read k l n) (sym (heard k l n) ∙ e)))
        ]

    some-other : most 9 (other x c W) ≡ next x 9
    unfolding next
    some-other = le_antisymm (most-below 9 (other x c W) (most 255 rest) up) (most-below 255 rest (most 9 (other x c W)) down)
      where
        rest : ℕ → ℕ
        rest v = cond (eqb v W) 0 (votes x 9 v)

        up : (k : ℕ) → k < 9 → other x c W k ≤ most 255 rest
        up k l = elim (ℕ_discrete (at x k) W) [
          | yes e ↦ rw (eq-eqb (at x k) W e) (omega arith)
          | no n ↦ elim (ℕ_discrete (at x k) 255) [
            | yes e ↦ rw (ne_eqb (at x k) W n) (omega (arith, silent k l e))
            | no r ↦ rw (ne_eqb (at x k) W n, heard k l r)
                (rw (ne_eqb (at x k) W n) at (most-above 255 rest (at x k) (read k l r)))
          ]
        ]

        down : (v : ℕ) → v < 255 → rest v ≤ most 9 (other x c W)
        down v l = elim (ℕ_discrete v W) [
          | yes e ↦ rw (eq-eqb v W e) (omega arith)
          | no n ↦ rw (ne_eqb v W n) (elim (dec_lt 0 (votes x 9 v)) [
            | no z ↦ omega arith
            | yes z ↦
                let (k, m, e) = votes-some x 9 v z in
                let r : at x k ≢ 255 = λ f. omega (arith, e, f) in
                let o : at x k ≢ W = λ f. n (sym e ∙ f) in
                let top = rw (ne_eqb (at x k) W o, heard k m r) at (most-above 9 (other x c W) k m) in
                omega (arith, top, ap (votes x 9) e)
          ])
        ]

  -- what the passes found: m, w and s
  pub record Found (m w s : ℕ) : Type 0 where
    pub order : (s ≤ m) × (m ≤ max (cast x 9) 1) × (0 < max (cast x 9) 1)
    pub symbol : w ≡ symbol_of x 9
    pub doubt : (f : ℕ) → f - f * (m - s) / max (cast x 9) 1 ≡ doubt_of f x 9

  made : (m w s : ℕ) → m ≡ most 9 (at c) → w ≡ 255 - most 9 (at (tab 9 (lowness x c m))) →
      s ≡ most 9 (at (tab 9 (other x c w))) → Found m w s
  made m w s e f g = elim (dec_lt 0 (cast x 9)) [
    | yes h ↦
        let m-is : m ≡ votes x 9 W = e ∙ some-counted h in
        let low : most 9 (at (tab 9 (lowness x c m))) ≡ 255 - W = most-tab 9 _ ∙ rw m-is (some-low h) in
        let w-is : w ≡ W = omega (arith, f, low, winner-below x 9) in
        let s-is : s ≡ next x 9 = g ∙ most-tab 9 _ ∙ rw w-is (some-other h) in
        let t-is : max (cast x 9) 1 ≡ cast x 9 = omega arith in
        record {
          order = omega (arith, m-is, s-is, next-votes x 9, winner-cast x 9);
          symbol = w-is ∙ sym (combined-some x 9 0 h).0;
          doubt = λ f. rw (m-is, s-is, t-is) (sym (combined-some x 9 f h).1);
        }
    | no h ↦
        let z : cast x 9 ≡ 0 = omega arith in
        let m-is : m ≡ 0 = e ∙ none-counted z in
        let low : most 9 (at (tab 9 (lowness x c m))) ≡ 0 = most-tab 9 _ ∙ rw m-is (none-low z) in
        let w-is : w ≡ 255 = omega (arith, f, low) in
        let s-is : s ≡ 0 = g ∙ most-tab 9 _ ∙ rw w-is (none_other z) in
        record {
          order = omega (arith, m-is, s-is);
          symbol = w-is ∙ sym (combined-none x 9 0 z).0;
          doubt = λ f. rw (m-is, s-is, z) (omega (arith, (combined-none x 9 f z).1));
        }
  ]

  -- the columns n, l and o, as the passes leave them
  pub found : (n l o : List ℕ) (m r s : ℕ) → n ≡ c → m ≡ most 9 (at n) → l ≡ tab 9 (lowness x n m) → r ≡ most 9 (at l) →
      o ≡ tab 9 (other x n (255 - r)) → s ≡ most 9 (at o) → Found m (255 - r) s
  found n l o m r s n-is m-is l-is r-is o_is s-is =
      let low : r ≡ most 9 (at (tab 9 (lowness x c m))) = r-is ∙ ap (λ l. most 9 (at l)) l-is ∙ rw n-is in
      made m (255 - r) s (rw n-is at m-is) (ap (λ r. 255 - r) low) (s-is ∙ ap (λ o. most 9 (at o)) o_is ∙ rw n-is)
