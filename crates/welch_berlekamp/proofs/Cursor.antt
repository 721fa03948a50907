-- Keys: 16 times a doubt and the place, `taken` where there is none.
--
--   zeros-at                        a place of zeros
--   key_in, key_out                 the key of a cell, and of what is none
--   keys-most, keys-placed          they are at most `taken`, and tell their places
--   marked_placed, without_most     so do those of some cells; and those without one are at most `taken`
--   least_more                      the least of one more
--   left-most                       what is left is at most `taken`
--   next-cell                       the least key is that of a cell that has not entered
--   entered_below, left-above       the keys of the cells that have entered are below it, those of the others are not
--   entering-start, entering-next   no cell has entered; the cell of the least key enters
--
-- What this file is for: the cells enter by rising doubt, each once. Assumes nothing.
use mathlib.Core.Logic.{◌≢◌}
use mathlib.Core.Path.{◌≡◌, refl, sym, ap, ◌∙◌}
use mathlib.Core.Bool.{Bool, true, false, cond}
use mathlib.Core.List.{List}
use Prim.Native.Nat.{ℕ, zero, suc, ◌+◌, ◌*◌, ◌%◌, ◌≤◌, ◌<◌, min}
use native.Mathlib.Omega.{arith}
use native.Mathlib.Decide.{ℕ_discrete, dec_lt}
use native.Mathlib.Nat.{mod-lt}
use lib.Dec.{eqb, ltb}
use borrow.Author.Tests.{eq-eqb, ne_eqb, lt-ltb, le-ltb}
use lib.ListN.{length, set, replicate}
use lib.Seq.{get_or-set_same, get_or-set_other}
use Rattle.bounded.specs.Bounded.{at}
use Rattle.bounded.proofs.Sum.{cell-column}
use Rattle.bounded.proofs.Tab.{length-tab}
use Rattle.field.specs.Row.{row}
use Rattle.field.proofs.Row.{row_at, beyond}
use Rattle.welch_berlekamp.specs.Order.{taken, key, Placed, Least, Entering}

-- a row of zeros, and beyond it
pub zeros-at : (n j : ℕ) → at (replicate n 0) j ≡ 0
zeros-at zero j = refl
zeros-at (suc n) zero = refl
zeros-at (suc n) (suc j) = zeros-at n j

-- the key of a cell
pub key_in : (n u j : ℕ) → j < n → key n u j ≡ u * 16 + j
key_in n u j l = rw (lt-ltb j n l)

pub key_out : (n u j : ℕ) → n ≤ j → key n u j ≡ taken
key_out n u j l = rw (le-ltb j n l)

-- sixteen keys, none above `taken`, and beyond them 0
pub keys-most : (f : ℕ → ℕ) {l : List ℕ} → l ≡ row f → ((j : ℕ) → j < 16 → f j ≤ taken) → (j : ℕ) → at l j ≤ taken
keys-most f {l} e h j = elim (dec_lt j 16) [
  | yes m ↦ omega (arith, ap (λ t. at t j) e ∙ row_at f j m, h j m)
  | no m ↦ omega (arith, beyond l j (omega (arith, ap length e ∙ length-tab 16 f)))
]

placed_of : (f : ℕ → ℕ) {l : List ℕ} → l ≡ row f → ((j : ℕ) → j < 16 → f j < taken → f j % 16 ≡ j) →
    ((j : ℕ) → j < 16 → f j ≤ taken) → Placed l
placed_of f {l} e h k = record {
  size = ap length e ∙ length-tab 16 f;
  place = λ j m o. let i = ap (λ t. at t j) e ∙ row_at f j m in rw i (h j m (rw i at o));
  most = keys-most f e k;
}

pub keys-placed : (n : ℕ) (u : ℕ → ℕ) {l : List ℕ} → ((j : ℕ) → j < n → u j < 65536) → l ≡ row (λ j. key n (u j) j) → Placed l
keys-placed n u small e = placed_of _ e (λ j l h. go j l (ltb j n) h) λ j l. elim (dec_lt j n) [
  | yes m ↦ omega (arith, key_in n (u j) j m, small j m)
  | no m ↦ omega (arith, key_out n (u j) j (omega arith))
]
  where
    go : (j : ℕ) → j < 16 → (b : Bool) → cond b (u j * 16 + j) taken < taken → cond b (u j * 16 + j) taken % 16 ≡ j
    go j l true h = cell-column 16 (u j) j l
    go j l false h = absurd (omega arith)

-- a key that is left out, or not
cond-most : (b : Bool) (v : ℕ) → v ≤ taken → cond b taken v ≤ taken
cond-most true v h = omega arith
cond-most false v h = h

pub marked_placed : (w : ℕ → ℕ) {l r : List ℕ} → Placed l → r ≡ row (λ j. cond (eqb (w j) 0) taken (at l j)) → Placed r
marked_placed w {l} P e = placed_of _ e (λ j m h. go j m (eqb (w j) 0) h) λ j m. cond-most (eqb (w j) 0) (at l j) (P.most j)
  where
    go : (j : ℕ) → j < 16 → (b : Bool) → cond b taken (at l j) < taken → cond b taken (at l j) % 16 ≡ j
    go j m true h = absurd (omega arith)
    go j m false h = P.place j m h

pub without_most : (c : ℕ) (r : List ℕ) {r' : List ℕ} → ((j : ℕ) → at r j ≤ taken) →
    r' ≡ row (λ j. cond (eqb (at r j) c) taken (at r j)) → (j : ℕ) → at r' j ≤ taken
without_most c r h e = keys-most _ e λ j m. cond-most (eqb (at r j) c) (at r j) (h j)

-- the least of one key more
pub least_more : {j r r' : ℕ} {l : List ℕ} → Least j l r → r' ≡ min (at l j) r → Least (j + 1) l r'
least_more {j} {r} {r'} {l} L e = record {
  most = omega (arith, L.most);
  low = λ i m. elim (ℕ_discrete i j) [ yes h ↦ rw h (omega arith) | no h ↦ omega (arith, L.low i (omega arith)) ];
  one = λ m. elim (dec_lt (at l j) r) [
    | yes h ↦ (j, omega arith, omega arith)
    | no h ↦ let o = L.one (omega arith) in (o.0, omega (arith, o.1), omega (arith, o.2))
  ];
}

module _ {l w r : List ℕ} (E : Entering l w r) (P : Placed l) where
  other_in : (j : ℕ) → j < 16 → at w j ≡ 0 → at r j ≡ at l j
  other_in j m z = E.others j m ∙ ap (λ b. cond b (at l j) taken) (eq-eqb (at w j) 0 z)

  other_out : (j : ℕ) → j < 16 → at w j ≢ 0 → at r j ≡ taken
  other_out j m z = E.others j m ∙ ap (λ b. cond b (at l j) taken) (ne_eqb (at w j) 0 z)

  -- no key that is left is above `taken`
  pub left-most : (j : ℕ) → at r j ≤ taken
  left-most j = elim (dec_lt j 16) [
    | yes m ↦ elim (ℕ_discrete (at w j) 0)
        [ yes z ↦ omega (arith, other_in j m z, P.most j) | no z ↦ omega (arith, other_out j m z) ]
    | no m ↦ omega (arith, beyond r j (omega (arith, E.size)))
  ]

  -- a key that is left is that of a cell that has not entered
  left-cell : (j : ℕ) → j < 16 → at r j < taken → (at w j ≡ 0) × (at l j ≡ at r j)
  left-cell j m h = elim (ℕ_discrete (at w j) 0) [
    | yes z ↦ (z, sym (other_in j m z))
    | no z ↦ absurd (omega (arith, other_out j m z))
  ]

  module _ {c : ℕ} (L : Least 16 r c) where
    -- the cell of the least key
    pub next-cell : c < taken → (at w (c % 16) ≡ 0) × (at l (c % 16) ≡ c)
    next-cell h =
        let o = L.one h in
        let d = left-cell o.0 o.1 (omega (arith, o.2)) in
        let e : at l o.0 ≡ c = d.1 ∙ o.2 in
        let i : o.0 ≡ c % 16 = sym (P.place o.0 o.1 (omega (arith, e))) ∙ ap (λ t. t % 16) e in
        (rw (← i) d.0, rw (← i) e)

    pub entered_below : (j : ℕ) → j < 16 → at w j ≢ 0 → at l j < c
    entered_below j m z = elim (dec_lt (at l j) c) [
      | yes h ↦ h
      | no h ↦
          let small : c < taken = omega (arith, E.some j m z) in
          let o = L.one small in
          let e : at l j ≡ c = omega (arith, E.first j o.0 m o.1 z, o.2) in
          let i : j ≡ c % 16 = sym (P.place j m (E.some j m z)) ∙ ap (λ t. t % 16) e in
          absurd (z (rw (← i) at (next-cell small).0))
    ]

    pub left-above : (j : ℕ) → j < 16 → at w j ≡ 0 → c ≤ at l j
    left-above j m z = omega (arith, L.low j m, other_in j m z)

    -- the keys without the least one: no other is the same
    module _ {r' : List ℕ} (d : r' ≡ row (λ j. cond (eqb (at r j) c) taken (at r j))) (h : c < taken) where
      abbrev place : ℕ
      place = c % 16

      below : place < 16
      below = mod-lt c (omega arith)

      without_at : (j : ℕ) → j < 16 → at r' j ≡ cond (eqb (at r j) c) taken (at r j)
      without_at j m = ap (λ t. at t j) d ∙ row_at (λ j. cond (eqb (at r j) c) taken (at r j)) j m

      least_at : at r place ≡ c
      least_at = other_in place below (next-cell h).0 ∙ (next-cell h).1

      without_least : at r' place ≡ taken
      without_least = without_at place below ∙ ap (λ b. cond b taken (at r place)) (eq-eqb (at r place) c least_at)

      without_other : (j : ℕ) → j < 16 → j ≢ place → at r' j ≡ at r j
      without_other j m n = without_at j m ∙ ap (λ b. cond b taken (at r j)) (ne_eqb (at r j) c λ e. n (tells e))
        where
          tells : at r j ≡ c → j ≡ place
          tells e =
              let o = (left-cell j m (omega (arith, e))).1 in
              sym (P.place j m (omega (arith, o))) ∙ ap (λ t. t % 16) (o ∙ e)

    -- the cell of the least key enters
    pub entering-next : {r' : List ℕ} → r' ≡ row (λ j. cond (eqb (at r j) c) taken (at r j)) → length w ≡ 16 → c < taken →
        Entering l (set w (c % 16) 1) r'
    entering-next {r'} d s h = record {
      size = ap length d ∙ length-tab 16 (λ j. cond (eqb (at r j) c) taken (at r j));
      others = λ j m. elim (ℕ_discrete j (c % 16)) [
        | yes e ↦ rw (e, without_least d h, get_or-set_same w (c % 16) 1 0 (omega (arith, below d h))) refl
        | no e ↦ rw (without_other d h j m e, get_or-set_other w (c % 16) j 1 0 e) (E.others j m)
      ];
      some = λ j m z. elim (ℕ_discrete j (c % 16)) [
        | yes e ↦ rw e (omega (arith, (next-cell h).1))
        | no e ↦ E.some j m λ o. z (get_or-set_other w (c % 16) j 1 0 e ∙ o)
      ];
      first = λ i j m o z. elim (ℕ_discrete i (c % 16)) [
        | yes e ↦ rw e (omega (arith, (next-cell h).1, L.low j o, grows j o))
        | no e ↦
            let z' : at w i ≢ 0 = λ a. z (get_or-set_other w (c % 16) i 1 0 e ∙ a) in
            omega (arith, E.first i j m o z', grows j o)
      ];
    }
      where
        -- the keys only grow
        grows : (j : ℕ) → j < 16 → at r j ≤ at r' j
        grows j m = elim (ℕ_discrete j (c % 16)) [
          | yes e ↦ rw (e, without_least d h) (omega (arith, least_at d h))
          | no e ↦ rw (without_other d h j m e) (omega arith)
        ]

-- no cell has entered
pub entering-start : {l : List ℕ} → Placed l → Entering l (replicate 16 0) l
entering-start {l} P = record {
  size = P.size;
  others = λ j m. sym (ap (λ b. cond b (at l j) taken) (eq-eqb (at (replicate 16 0) j) 0 (zeros-at 16 j)));
  some = λ j m z. absurd (z (zeros-at 16 j));
  first = λ i j m o z. absurd (z (zeros-at 16 i));
}
