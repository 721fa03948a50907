-- Newton's form through k + 1 cells, and its coefficients by Horner's rule.
--
--   positive                    what is not 0 modulo p is above 0
--   enough-few                  more than k of n cells: n is above k
--   fits-start                  the polynomial 0 through no cell
--   fits_positive               at the next cell the product of the nodes is not 0
--   fits-take                   the cell of the least key is taken
--   Horner p k c z i a          after the terms from i on: a i, a (i + 1), .. are the coefficients of what they make
--   horner_step                 the term before
--   horner_end                  all terms: a has the form's coefficients
--   Moved p i m b j a           of the places from i on those before j were given m times the next one
--   moved_step                  one more of them
--
-- What this file is for: after k + 1 cells the interpolation's pairs are known without it; and a candidate is handed over by its
-- coefficients. Assumes nothing.
use mathlib.Core.Logic.{◌≢◌}
use mathlib.Core.Path.{◌≡◌, refl, sym, ap, ap₂, ◌∙◌}
use mathlib.Core.List.{List}
use mathlib.Core.Bool.{Bool, true, false, cond}
use Prim.Native.Nat.{ℕ, zero, suc, ◌+◌, ◌*◌, ◌-◌, ◌%◌, ◌^◌, ◌≤◌, ◌<◌}
use native.Mathlib.Omega.{arith}
use native.Mathlib.Decide.{ℕ_discrete, dec_lt}
use native.Mathlib.Nat.{mod-lt, mul-zero}
use native.Mathlib.Numerals.{add-one}
use lib.Dec.{eqb, ltb}
use borrow.Author.Tests.{ltb-true}
use lib.ListN.{set, length-set, replicate}
use lib.Seq.{get_or-set_same, get_or-set_other}
use Rattle.bounded.specs.Bounded.{at}
use Rattle.bounded.proofs.Sum.{sum-eq, sum-le, sum_const}
use Rattle.field.specs.Congruence.{Cong, Agree}
use Rattle.field.specs.Row.{row, Row}
use Rattle.field.proofs.Congruence.{same, ~sym, ◌⨾◌, ~add, ~mul, less, nonzero, mod_cong}
use Rattle.field.proofs.Row.{set-row, result_row, result_cong}
use Rattle.polynomial.specs.Eval.{eval, Apart}
use Rattle.polynomial.proofs.Eval.{eval_front, eval-minus, eval-short, eval_cong}
use Rattle.polynomial.proofs.Points.{cancel_apart}
use Rattle.welch_berlekamp.specs.declared.newton.Newton.{Newton}
use Rattle.welch_berlekamp.specs.Order.{taken, Least}
use Rattle.welch_berlekamp.specs.Interpolation.{Entered}
use Rattle.welch_berlekamp.specs.Pairs.{Ratio, Times, Plus}
use Rattle.welch_berlekamp.specs.Newton.{base, form, Enough, Fits, Coefficients}
use Rattle.welch_berlekamp.proofs.Cursor.{zeros-at, next-cell, left-above, entering-start, entering-next}
use Rattle.welch_berlekamp.proofs.Degrees.{shifted, mixed, degrees-start}
use Rattle.welch_berlekamp.proofs.Entry.{freed1}
use Rattle.welch_berlekamp.proofs.State.{minus, reduced, plus, times, ones_at, zeros-row, ones_row}
use Rattle.welch_berlekamp.proofs.State.{entered_of}

pub positive : {q : ℕ} {a : ℕ} → ¬ (Cong q a 0) → 0 < a
positive {a = zero} h = absurd (h (same refl))
positive {a = suc a} h = omega arith

-- two points in either order
apart-two : {q n : ℕ} {x : ℕ → ℕ} → Apart q n x → (j r b : ℕ) → r < n → j < n → j ≢ r →
    Cong q ((x j + q * x r) * b) 0 → Cong q b 0
apart-two {q} {x} ax j r b l i d h = elim (dec_lt j r) [
  | yes o ↦ cancel_apart ax j r b o l h
  | no o ↦ cancel_apart ax r j b (omega arith) i (turned ⨾ ~mul q h ⨾ same (omega arith))
]
  where
    turned : Cong q ((x r + q * x j) * b) (q * ((x j + q * x r) * b))
    turned = record { k = q * (x r * b); l = x r * b; eq = omega arith }

-- the form depends on the slopes and nodes that it has
base_same : (q : ℕ) {z z' : ℕ → ℕ} (i X : ℕ) → ((l : ℕ) → l < i → z l ≡ z' l) → base q z i X ≡ base q z' i X
base_same q zero X h = refl
base_same q (suc i) X h = ap₂ (λ b t. b * (X + q * t)) (base_same q i X λ l m. h l (omega arith)) (h i (omega arith))

form-same : (q : ℕ) {c c' z z' : ℕ → ℕ} (i X : ℕ) → ((l : ℕ) → l < i → c l ≡ c' l) → ((l : ℕ) → l < i → z l ≡ z' l) →
    form q c z i X ≡ form q c' z' i X
form-same q zero X g h = refl
form-same q (suc i) X g h = ap₂ ◌+◌
    (form-same q i X (λ l m. g l (omega arith)) λ l m. h l (omega arith))
    (ap₂ ◌*◌ (g i (omega arith)) (base_same q i X λ l m. h l (omega arith)))

bit : (b : Bool) → cond b 1 0 ≤ 1
bit true = omega arith
bit false = omega arith

pub enough-few : {p n k : ℕ} {x l : List ℕ} → Enough p n k x l → k < n
enough-few {n} {l} E = omega (
  arith,
  E.enough,
  sum_const n 1,
  sum-le n {f = λ j. cond (ltb (at l j) taken) 1 0} {g = λ j. 1} λ j _. bit (ltb (at l j) taken),
)

-- no cell was taken
pub fits-start : {p n k : ℕ} {x y l d : List ℕ} → 1 < p → Enough p n k x l → d ≡ row (λ j. (p - 1) * at y j % p) →
    Fits p n k x y l 0 (record {
      rest = d;
      product = replicate 16 1;
      slopes = replicate 16 0;
      nodes = replicate 16 0;
      entered = replicate 16 0;
      keys = l;
    })
fits-start {p} {n} {y = y} pos E e = record {
  holds = record {
    shaped = record {
      first = record { d = ones_row pos; e = zeros-row z };
      second = record { d = result_row _ z e; e = ones_row pos };
      size = refl;
    };
    beyond = λ j _. zeros-at 16 j;
    state = record {
      degrees = λ P L. degrees-start L ones (λ j _. same (zeros-at 16 j)) (reduced z b (λ j. (p - 1) * at y j) e) ones;
      bit = λ j. omega (arith, zeros-at 16 j);
      count = sym (sum-eq n (λ j _. zeros-at 16 j) ∙ sum_const n 0 ∙ mul-zero n);
      zero1 = λ j _ h. absurd (h (zeros-at 16 j));
      zero2 = λ j _ h. absurd (h (zeros-at 16 j));
    };
  };
  entering = entering-start E.placed;
  left = λ j m _ c. nonzero 1 (omega arith) (λ e. omega arith) (same (sym (ones_at j (omega arith))) ⨾ c);
  whole = record { rest = result_row _ z e; slopes = zeros-row z; nodes = zeros-row z };
  based = λ j m. same (ones_at j m);
  formed = λ j m. ~add {c = at y j} (result_cong _ z e j m) (same refl) ⨾ less (at y j) (omega arith);
}
  where
    z : 0 < p
    z = omega arith

    b : n ≤ 16
    b = omega (arith, E.most)

    ones : Agree (p - 1) n (at (replicate 16 1)) (λ j. 1)
    ones j m = same (ones_at j (omega arith))

module _ {p n k : ℕ} {x y l : List ℕ} (E : Enough p n k x l) {i : ℕ} {f : Newton} (F : Fits p n k x y l i f) (low : i ≤ k) {c : ℕ}
    (L : Least 16 f.keys c) where
  -- while too few were taken there are cells left
  fits_more : c < taken
  fits_more = elim (dec_lt c taken) [
    | yes h ↦ h
    | no h ↦ absurd (omega (arith, E.enough, F.holds.state.count, sum-le n {g = at f.entered} (all h)))
  ]
    where
      all : ¬ (c < taken) → (j : ℕ) → j < n → cond (ltb (at l j) taken) 1 0 ≤ at f.entered j
      all h j m = go (ltb (at l j) taken) refl
        where
          go : (b : Bool) → ltb (at l j) taken ≡ b → cond b 1 0 ≤ at f.entered j
          go false e = omega arith
          go true e = elim (ℕ_discrete (at f.entered j) 0) [
            | yes z ↦ absurd
                (omega (arith, left-above F.entering E.placed L j (omega (arith, E.most)) z, ltb-true (at l j) taken e))
            | no z ↦ omega arith
          ]

  fits-cell : (c % 16 < n) × (at f.entered (c % 16) ≡ 0)
  fits-cell =
      let d = next-cell F.entering E.placed L fits_more in (
        elim (dec_lt (c % 16) n) [
          | yes h ↦ h
          | no h ↦ absurd (omega (arith, E.beyond (c % 16) (omega arith) (mod-lt c (omega arith)), d.1, fits_more))
        ],
        d.0,
      )

  pub fits_positive : 0 < at f.product (c % 16)
  fits_positive = positive (F.left (c % 16) fits-cell.0 fits-cell.1)

  -- the cell of the least key is taken
  module _ (pos : 1 < p) (small : (j : ℕ) → at x j < p) {v : ℕ} {d w g : List ℕ}
      (R : Ratio p (at f.rest (c % 16)) (at f.product (c % 16)) v) (rest : Plus p v f.rest f.product d)
      (differences : w ≡ row (λ j. (at x j + (p - at x (c % 16))) % p)) (product : Times p w f.product g)
      {u : List ℕ} (others : u ≡ row (λ j. cond (eqb (at f.keys j) c) taken (at f.keys j))) where
    abbrev r : ℕ
    r = c % 16

    z : 0 < p
    z = omega arith

    few : i < 16
    few = omega (arith, enough-few E, E.most)

    entered : Entered r (at f.entered) (at (set f.entered r 1))
    entered = entered_of f.entered r refl F.holds.shaped.size (mod-lt c (omega arith)) fits-cell.1

    inside : at x r ≤ p
    inside = omega (arith, small r)

    multiplied : (n : ℕ) → n ≤ 16 → Agree (p - 1) n (at g) (shifted (p - 1) (at x) r (at f.product))
    multiplied n b = times z b r x inside differences f.product product

    zeros_shifted : {n : ℕ} → Agree (p - 1) n (at (replicate 16 0)) (shifted (p - 1) (at x) r (at (replicate 16 0)))
    zeros_shifted j m = same (zeros-at 16 j ∙ sym (ap (λ t. (at x j + (p - 1) * at x r) * t) (zeros-at 16 j) ∙ mul-zero _))

    ones_mixed : {n : ℕ} → Agree (p - 1) n (at (replicate 16 1)) (mixed v (at (replicate 16 1)) (at (replicate 16 0)))
    ones_mixed j m = same (sym (ap (λ t. at (replicate 16 1) j + v * t) (zeros-at 16 j) ∙ omega arith))

    slopes-before : (o : ℕ) → o < i → at (set f.slopes i v) o ≡ at f.slopes o
    slopes-before o m = get_or-set_other f.slopes i o v 0 (omega arith)

    nodes-before : (o : ℕ) → o < i → at (set f.nodes i (at x r)) o ≡ at f.nodes o
    nodes-before o m = get_or-set_other f.nodes i o (at x r) 0 (omega arith)

    pub fits-take : Fits p n k x y l (i + 1) (record {
      rest = d;
      product = g;
      slopes = set f.slopes i v;
      nodes = set f.nodes i (at x r);
      entered = set f.entered r 1;
      keys = u;
    })
    fits-take = rw (add-one i) (record {
      holds = record {
        shaped = record {
          first = record { d = result_row _ z product; e = zeros-row z };
          second = record { d = result_row _ z rest; e = ones_row pos };
          size = length-set f.entered r 1 ∙ F.holds.shaped.size;
        };
        beyond = λ j o. get_or-set_other f.entered r j 1 0 (omega (arith, fits-cell.0)) ∙ F.holds.beyond j o;
        state = freed1 F.holds.state entered fits-cell.0 v (omega arith) R.zero (multiplied n E.most) zeros_shifted
            (plus z E.most v f.rest f.product rest) ones_mixed;
      };
      entering = entering-next F.entering E.placed L others F.holds.shaped.size fits_more;
      left = λ j m e h. elim (ℕ_discrete j r) [
        | yes o ↦ absurd (taken_now (ap (at (set f.entered r 1)) (sym o) ∙ e))
        | no o ↦ F.left j m (sym (entered.others j o) ∙ e)
            (apart-two E.apart j r (at f.product j) fits-cell.0 m o (~sym (multiplied n E.most j m) ⨾ h))
      ];
      whole = record {
        rest = result_row _ z rest;
        slopes = set-row i v few R.below F.whole.slopes;
        nodes = set-row i (at x r) few (small r) F.whole.nodes;
      };
      based = λ j m. multiplied 16 (omega arith) j m ⨾ ~mul (at x j + (p - 1) * at x r) (F.based j m)
          ⨾ same {b = base (p - 1) (at f.nodes) i (at x j) * (at x j + (p - 1) * at x r)} (omega arith)
          ⨾ same (sym (ap₂ (λ b t. b * (at x j + (p - 1) * t)) (base_same (p - 1) i (at x j) nodes-before)
          (get_or-set_same f.nodes i (at x r) 0 (omega (arith, few, F.whole.nodes.size)))));
      formed = λ j m. ~add {c = at y j} (result_cong _ z rest j m) (same refl)
          ⨾ same {b = at f.rest j + at y j + v * at f.product j} (omega arith)
          ⨾ ~add (F.formed j m) (~mul v (F.based j m))
          ⨾ same (sym (ap₂ ◌+◌
          (form-same (p - 1) i (at x j) slopes-before nodes-before)
          (ap₂ ◌*◌ (get_or-set_same f.slopes i v 0 (omega (arith, few, F.whole.slopes.size)))
          (base_same (p - 1) i (at x j) nodes-before))));
    })
      where
        taken_now : at (set f.entered r 1) r ≡ 0 → ⊥
        taken_now e = omega (arith, entered.after)

-- Horner's rule after the terms from i on: a i, a (i + 1), .. are the coefficients
pub record Horner (p k : ℕ) (c z : List ℕ) (i : ℕ) (a : List ℕ) : Type 0 where
  pub row : Row p a
  pub above : (j : ℕ) → k < j → at a j ≡ 0
  pub rest : (X : ℕ) → Cong (p - 1) (form (p - 1) (at c) (at z) i X
      + base (p - 1) (at z) i X * eval (suc k - i) (λ o. at a (o + i)) X) (form (p - 1) (at c) (at z) (suc k) X)

-- of the places from i on those before j were given m times the next one, all from what they were in b
pub record Moved (p i m : ℕ) (b : List ℕ) (j : ℕ) (a : List ℕ) : Type 0 where
  pub row : Row p a
  pub done : (l : ℕ) → i ≤ l → l < j → at a l ≡ (at b l + m * at b (suc l)) % p
  pub todo : (l : ℕ) → j ≤ l → at a l ≡ at b l

pub moved_step : {p i m j v : ℕ} {b a : List ℕ} → j < 16 → v ≡ (at a j + m * at a (j + 1)) % p → v < p → Moved p i m b j a →
    Moved p i m b (j + 1) (set a j v)
moved_step {p} {m = m} {j = j} {v = v} {b = b} {a = a} h e s M = record {
  row = set-row j v h s M.row;
  done = λ l o n. elim (ℕ_discrete l j) [
    | yes q ↦ rw (q, get_or-set_same a j v 0 (omega (arith, M.row.size)))
        (e ∙ ap₂ (λ s t. (s + m * t) % p) (M.todo j (omega arith)) (M.todo (j + 1) (omega arith) ∙ ap (at b) (add-one j)))
    | no q ↦ rw (get_or-set_other a j l v 0 q) (M.done l o (omega arith))
  ];
  todo = λ l o. let q : l ≢ j = omega arith in rw (get_or-set_other a j l v 0 q) (M.todo l (omega arith));
}

module _ {p k : ℕ} {c z : List ℕ} {i : ℕ} {a b : List ℕ} (pos : 0 < p) (low : k < 16) (here : i ≤ k) (small : at z i ≤ p)
    (H : Horner p k c z (suc i) a) (M : Moved p i (p - at z i) (set a i (at c i)) k b) where
  abbrev put : ℕ → ℕ
  put = at (set a i (at c i))

  put_here : put i ≡ at c i
  put_here = get_or-set_same a i (at c i) 0 (omega (arith, H.row.size))

  put-after : (l : ℕ) → i < l → put l ≡ at a l
  put-after l o = get_or-set_other a i l (at c i) 0 (omega arith)

  moved_all : (l : ℕ) → i ≤ l → l ≤ k → Cong (p - 1) (at b l) (put l + (p - at z i) * put (suc l))
  moved_all l o n = elim (ℕ_discrete l k) [
    | yes e ↦ same (M.todo l (omega arith)
        ∙ omega (arith, ap (λ t. (p - at z i) * t) (put-after (suc l) (omega arith) ∙ H.above (suc l) (omega arith))))
    | no e ↦ same (M.done l o (omega arith)) ⨾ mod_cong pos (put l + (p - at z i) * put (suc l))
  ]

  -- the places after i hold a
  put_tail : (g : ℕ → ℕ) → ((o : ℕ) → g o ≡ o + suc i) → (X : ℕ) →
      eval (k - i) (λ o. put (g o)) X ≡ eval (k - i) (λ o. at a (o + suc i)) X
  put_tail g e X = sum-eq (k - i) λ o _. ap (λ t. t * X ^ o) (ap put (e o) ∙ put-after (o + suc i) (omega arith))

  -- X a + c
  raised : (X : ℕ) → eval (suc (k - i)) (λ o. put (o + i)) X ≡ at c i + X * eval (k - i) (λ o. at a (o + suc i)) X
  raised X = eval_front (k - i) (λ o. put (o + i)) X
      ∙ ap₂ (λ s t. s + X * t) (ap put (omega arith) ∙ put_here) (put_tail (λ o. suc o + i) (λ o. omega arith) X)

  put_next : (X : ℕ) → eval (suc (k - i)) (λ o. put (suc (o + i))) X ≡ eval (k - i) (λ o. at a (o + suc i)) X
  put_next X = eval-short (k - i) (suc (k - i)) (λ o. put (suc (o + i))) X (omega arith) ended
      ∙ put_tail (λ o. suc (o + i)) (λ o. omega arith) X
    where
      ended : (l : ℕ) → k - i ≤ l → put (suc (l + i)) ≡ 0
      ended l o = put-after (suc (l + i)) (omega arith) ∙ H.above (suc (l + i)) (omega arith)

  -- (X - z) a + c, as X a + c less z a
  product : (m X : ℕ) → eval (suc (k - i)) (λ o. put (o + i) + m * put (suc (o + i))) X
      ≡ at c i + eval (k - i) (λ o. at a (o + suc i)) X * (X + m)
  product m X = eval-minus m (suc (k - i)) (λ o. put (o + i)) (λ o. put (suc (o + i))) X
      ∙ ap₂ (λ s t. s + m * t) (raised X) (put_next X) ∙ omega arith

  horner_eval : (X : ℕ) → Cong (p - 1) (eval (suc (k - i)) (λ o. at b (o + i)) X)
      (at c i + eval (k - i) (λ o. at a (o + suc i)) X * (X + (p - 1) * at z i))
  horner_eval X =
      eval_cong (suc (k - i)) X (λ o n. moved_all (o + i) (omega arith) (omega arith))
      ⨾ same (product (p - at z i) X)
      ⨾ ~add {a = at c i} (same refl)
      (~mul (eval (k - i) (λ o. at a (o + suc i)) X) (minus (p - at z i) (at z i) X (omega arith)))

  pub horner_step : Horner p k c z i b
  horner_step = record {
    row = M.row;
    above = λ j o. M.todo j (omega arith) ∙ put-after j (omega arith) ∙ H.above j o;
    rest = λ X.
        let e : suc k - i ≡ suc (k - i) = omega arith in
        let d : suc k - suc i ≡ k - i = omega arith in
        rw e (~add {a = form (p - 1) (at c) (at z) i X} (same refl) (~mul (base (p - 1) (at z) i X) (horner_eval X))
        ⨾ same (omega arith) ⨾ (rw d at (H.rest X)));
  }

pub horner_end : {p k : ℕ} {c z a : List ℕ} → Horner p k c z 0 a → Coefficients p k c z a
horner_end {p} {k} {c} {z} {a} H = record {
  row = H.row;
  above = H.above;
  evaluates = λ X. let e : suc k - 0 ≡ suc k = omega arith in same (omega (arith, whole X)) ⨾ (rw e at (H.rest X));
}
  where
    whole : (X : ℕ) → eval (suc k) (at a) X ≡ eval (suc k) (λ o. at a (o + 0)) X
    whole X = sum-eq (suc k) λ o _. ap (λ t. at a t * X ^ o) (omega arith)
