-- Levels of doubt rise over the cells' doubts.
--
--   tried_found, tried_none   what a trial says, by its answer
--   Going g s u l r c t       the decoder before the cell of the key c: l are the keys of all cells, r those of the cells that
--                             have not entered, and t its pairs
--   Within n u level t        no cell over the level has entered
--   going_within              no cell over the level of the next key has entered
--   going_passed              after a level nothing up to it is under the radius
--   first-keys, going_first   the state after the first k + 1 cells
--   going_keys, going_holds   what the state says of the keys that are left and of the pairs after an entry
--   going_entered, going_enter
--                             a cell enters, and the trial after its entry failed
--   doubtful_decoded          where the doubts come to the radius there is no answer
--   none-decoded              after the last level there is none
--   found-decoded             what was measured under the radius is the only answer
--
-- What this file is for: which cells have entered, what failed trials say of the levels passed, and the decoder's contract at the
-- end. Assumes nothing.
use mathlib.Core.Logic.{◌≢◌}
use mathlib.Core.Path.{◌≡◌, refl, sym, ap, ◌∙◌}
use mathlib.Core.List.{List}
use mathlib.Core.Bool.{Bool, true, false, cond, false≢true}
use Prim.Native.Nat.{ℕ, suc, ◌+◌, ◌*◌, ◌-◌, ◌/◌, ◌%◌, ◌≤◌, ◌<◌}
use native.Mathlib.Omega.{arith}
use native.Mathlib.Decide.{ℕ_discrete, dec_le, dec_lt}
use native.Mathlib.Nat.{mul-one, mod-lt}
use native.Mathlib.Numerals.{add-one}
use lib.Dec.{eqb, leb}
use borrow.Author.Tests.{leb-true, leb-false}
use lib.Seq.{get_or-set_same, get_or-set_other}
use Rattle.std.specs.Prelude.{Some, None}
use Rattle.bounded.specs.Bounded.{at, sum}
use Rattle.bounded.proofs.Sum.{sum-eq, sum-le, sum-add, sum_const}
use Rattle.field.specs.Row.{row}
use Rattle.field.proofs.Row.{row_at}
use Rattle.distance.specs.Level.{erased, weight}
use Rattle.distance.proofs.Cost.{doubts-cost}
use Rattle.distance.proofs.Level.{some-cell}
use Rattle.polynomial.proofs.Unique.{near-one}
use Rattle.welch_berlekamp.specs.declared.interpolation.Pairs.{Pairs}
use Rattle.welch_berlekamp.specs.declared.newton.Newton.{Newton}
use Rattle.welch_berlekamp.specs.Order.{taken, key, Placed, Least, Entering}
use Rattle.welch_berlekamp.specs.Pairs.{Enters}
use Rattle.welch_berlekamp.specs.Newton.{pairs_of}
use Rattle.welch_berlekamp.proofs.Cursor.{zeros-at, key_in, key_out, keys-placed, without_most, left-most, next-cell}
use Rattle.welch_berlekamp.proofs.Cursor.{entered_below, left-above, entering-next}
use Rattle.welch_berlekamp.proofs.State.{zeros-row}
use Rattle.reed_solomon.specs.declared.axis.Axis.{Axis}
use Rattle.reed_solomon.specs.declared.decoder.Decoded.{Decoded}
use Rattle.reed_solomon.specs.Axis.{Received, word, spent, strip_radius, HoldsOn, FitsOn}
use Rattle.reed_solomon.specs.Near.{missed, Near, Refuted, RefutedBelow}
use Rattle.reed_solomon.specs.Decoded.{StripDecoded, Confirmed, Tried, hit, miss}
use Rattle.reed_solomon.proofs.Trial.{cost-values}

-- what a trial says, by its answer
module _ {g : Axis} {s u w : List ℕ} where
  pub tried_found : {d : Decoded} → Tried g s u w (Some d) → Confirmed g s u d
  tried_found (hit D) = D

  pub tried_none : Tried g s u w None → Refuted g s u w
  tried_none (miss D) = D

-- a cell that is kept at level t
abbrev keep : (t u : ℕ) → ℕ
keep t u = cond (leb u t) 1 0

keep_in : (t u : ℕ) → u ≤ t → keep t u ≡ 1
keep_in t u l = go (leb u t) refl
  where
    go : (b : Bool) → leb u t ≡ b → ◌≡◌ {A = ℕ} (cond b 1 0) 1
    go true e = refl
    go false e = absurd (omega (arith, leb-false u t e))

keep_out : (t u : ℕ) → t < u → keep t u ≡ 0
keep_out t u l = go (leb u t) refl
  where
    go : (b : Bool) → leb u t ≡ b → ◌≡◌ {A = ℕ} (cond b 1 0) 0
    go true e = absurd (omega (arith, leb-true u t e))
    go false e = refl

-- at a level a cell weighs what it is missed among those that are kept
module _ (n k t : ℕ) (s u v : ℕ → ℕ) where
  missed-weight : 2 * missed n (λ j. keep t (u j)) s v + sum n (λ j. erased t (u j)) ≡ weight n t s u v
  missed-weight = ap (λ c. 2 * c + sum n (λ j. erased t (u j))) (sum-eq n λ j l. turned (eqb (s j) (v j)) (leb (u j) t))
    where
      turned : (c d : Bool) → ◌≡◌ {A = ℕ} (cond c 0 (cond d 1 0)) (cond d (cond c 0 1) 0)
      turned true true = refl
      turned true false = refl
      turned false true = refl
      turned false false = refl

  marked_erased : sum n (λ j. keep t (u j)) + sum n (λ j. erased t (u j)) ≡ n
  marked_erased =
      sym (sum-add n (λ j. keep t (u j)) λ j. erased t (u j)) ∙ sum-eq n (λ j l. one (leb (u j) t)) ∙ sum_const n 1 ∙ mul-one n
    where
      one : (c : Bool) → cond c 1 0 + cond c 0 1 ≡ 1
      one true = refl
      one false = refl

  weight-near : weight n t s u v + k < n → Near n k (λ j. keep t (u j)) s v
  weight-near l = omega (arith, missed-weight, marked_erased)

-- near for all of at most k + 1 marked cells, from near for some of them
near-more : (n k : ℕ) (w w' s v : ℕ → ℕ) → ((j : ℕ) → j < n → w j ≤ w' j) → sum n w' ≤ suc k → Near n k w s v → Near n k w' s v
near-more n k w w' s v h l near = omega (
  arith,
  near,
  sum-le n h,
  sum-add n (missing w') w,
  sum-add n (missing w) w',
  sum-le n {f = λ j. missing w' j + w j} {g = λ j. missing w j + w' j} λ j i. go (eqb (s j) (v j)) (h j i),
)
  where
    missing : (ℕ → ℕ) → ℕ → ℕ
    missing w j = cond (eqb (s j) (v j)) 0 (w j)

    go : (b : Bool) {c d : ℕ} → c ≤ d → cond b 0 d + c ≤ cond b 0 c + d
    go true l = omega arith
    go false l = omega arith

-- near for the same cells
near_same : (n k : ℕ) (w w' s v : ℕ → ℕ) → ((j : ℕ) → j < n → w j ≡ w' j) → Near n k w s v → Near n k w' s v
near_same n k w w' s v h near = omega (
  arith,
  near,
  sum-eq n h,
  sum-eq n {f = λ j. cond (eqb (s j) (v j)) 0 (w j)} {g = λ j. cond (eqb (s j) (v j)) 0 (w' j)} λ j l.
      ap (cond (eqb (s j) (v j)) 0) (h j l),
)

-- the strip decoder before the cell of the key c: l are the keys of all cells, r those of the cells that have not entered
pub record Going (g : Axis) (s u l r : List ℕ) (c : ℕ) (t : Pairs) : Type 0 where
  pub received : Received g s u
  pub keys : l ≡ row λ j. key g.n (at u j) j
  pub holds : HoldsOn g s t
  pub entering : Entering l t.entered r
  pub next : Least 16 r c
  pub now : Refuted g s u t.entered

-- no cell over the level has entered
abbrev pub Within : (n : ℕ) (u : List ℕ) (level : ℕ) (t : Pairs) → Type 0
Within n u level t = (j : ℕ) → j < n → at t.entered j ≢ 0 → at u j ≤ level

module _ {g : Axis} {s u l : List ℕ} (R : Received g s u) (K : l ≡ row λ j. key g.n (at u j) j) where
  placed : Placed l
  placed = keys-placed g.n (at u) (λ j l. omega (arith, R.doubts j l, R.axis.full)) K

  key_row : (j : ℕ) → j < 16 → at l j ≡ key g.n (at u j) j
  key_row j i = ap (λ t. at t j) K ∙ row_at (λ j. key g.n (at u j) j) j i

  key-at : (j : ℕ) → j < g.n → at l j ≡ at u j * 16 + j
  key-at j i = key_row j (omega (arith, R.axis.most)) ∙ key_in g.n (at u j) j i

module _ {g : Axis} {s u l r : List ℕ} {c : ℕ} {t : Pairs} (G : Going g s u l r c t) where
  most : g.n ≤ 16
  most = G.received.axis.most

  entered-key : (j : ℕ) → j < g.n → at t.entered j ≢ 0 → at u j * 16 + j < c
  entered-key j i z =
      let below = entered_below G.entering (placed G.received G.keys) G.next j (omega (arith, most)) z in
      omega (arith, key-at G.received G.keys j i, below)

  left_key : (j : ℕ) → j < g.n → at t.entered j ≡ 0 → c ≤ at u j * 16 + j
  left_key j i z =
      let above = left-above G.entering (placed G.received G.keys) G.next j (omega (arith, most)) z in
      omega (arith, key-at G.received G.keys j i, above)

  pub going_within : Within g.n u (c / 16) t
  going_within j i z = omega (arith, entered-key j i z)

  -- the keys that are left, without the next one, are small
  pub going_keys : {r' : List ℕ} → r' ≡ row (λ j. cond (eqb (at r j) c) taken (at r j)) → (j : ℕ) → at r' j ≤ taken
  going_keys e = without_most c r (left-most G.entering (placed G.received G.keys)) e

  -- after a level its cells and those below have entered
  pub going_passed : {level : ℕ} → Within g.n u level t → level < c / 16 → RefutedBelow g s u level →
      RefutedBelow g s u (c / 16)
  going_passed {level} W h P = record {
    far = λ h j i o w. elim (dec_lt (at u j) level) [
      | yes b ↦ P.far h j i b w
      | no b ↦
          let e : at u j ≡ level = omega (arith, W j i (there j i o)) in
          G.now.far h (near_same g.n g.k (λ j. keep level (at u j)) (at t.entered) (at s) (word g h) same
          (weight-near g.n g.k level (at s) (at u) (word g h) (rw e at w)))
    ];
  }
    where
      there : (j : ℕ) → j < g.n → at u j < c / 16 → at t.entered j ≢ 0
      there j i o z = omega (arith, left_key j i z, most)

      same : (j : ℕ) → j < g.n → keep level (at u j) ≡ at t.entered j
      same j i = elim (ℕ_discrete (at t.entered j) 0) [
        | yes z ↦ keep_out level (at u j) (omega (arith, left_key j i z, most)) ∙ sym z
        | no z ↦ keep_in level (at u j) (W j i z) ∙ omega (arith, G.holds.state.bit j)
      ]

  -- of the first k + 1 cells none can be missed
  first_passed : t.first.degree + t.second.degree ≤ suc g.k → RefutedBelow g s u (c / 16)
  first_passed few = record {
    far = λ h j i o w. G.now.far h (near-more g.n g.k (λ i. keep (at u j) (at u i)) (at t.entered) (at s) (word g h)
        (less j o) (omega (arith, few, G.holds.state.count))
        (weight-near g.n g.k (at u j) (at s) (at u) (word g h) w));
  }
    where
      less : (j : ℕ) → at u j < c / 16 → (i : ℕ) → i < g.n → keep (at u j) (at u i) ≤ at t.entered i
      less j o i b = elim (ℕ_discrete (at t.entered i) 0) [
        | yes z ↦ omega (arith, keep_out (at u j) (at u i) (omega (arith, left_key i b z, most)))
        | no z ↦ omega (arith, bit (leb (at u i) (at u j)))
      ]
        where
          bit : (b : Bool) → cond b 1 0 ≤ 1
          bit true = omega arith
          bit false = omega arith

-- the cell of the least key
module _ {g : Axis} {s u l r : List ℕ} {c : ℕ} {t : Pairs} (G : Going g s u l r c t) (h : c < g.full * 16) where
  small : c < taken
  small = omega (arith, G.received.axis.full)

  going_cell : (c % 16 < g.n) × (at t.entered (c % 16) ≡ 0) × (at u (c % 16) * 16 + c % 16 ≡ c)
  going_cell =
      let d = next-cell G.entering (placed G.received G.keys) G.next small in
      let i : c % 16 < g.n = elim (dec_lt (c % 16) g.n) [
        | yes o ↦ o
        | no o ↦
            let none = key_out g.n (at u (c % 16)) (c % 16) (omega arith) in
            absurd (omega (arith, d.1, small, key_row G.received G.keys (c % 16) (mod-lt c (omega arith)) ∙ none))
      ] in
      (i, d.0, sym (key-at G.received G.keys (c % 16) i) ∙ d.1)

  module _ {t' : Pairs} (E : Enters g.modulus.p g.k g.x (c % 16) t t') where
    pub going_holds : HoldsOn g s t'
    going_holds = E.holds g.n s G.received.axis.most going_cell.0 going_cell.1 G.holds

    entered-other : (j : ℕ) → j ≢ c % 16 → at t'.entered j ≡ at t.entered j
    entered-other j d = ap (λ w. at w j) E.marks ∙ get_or-set_other t.entered (c % 16) j 1 0 d

    entered-cell : at t'.entered (c % 16) ≡ 1
    entered-cell =
        let i : c % 16 < 16 = mod-lt c (omega arith) in
        ap (λ w. at w (c % 16)) E.marks
        ∙ get_or-set_same t.entered (c % 16) 1 0 (omega (arith, i, G.holds.shaped.size))

    within_enter : {level : ℕ} → c / 16 ≡ level → Within g.n u level t → Within g.n u level t'
    within_enter e W j i z = elim (ℕ_discrete j (c % 16)) [
      | yes o ↦ omega (arith, ap (at u) o, going_cell.2)
      | no o ↦ W j i λ a. z (entered-other j o ∙ a)
    ]

    -- it enters, and the trial after its entry failed; the next key is a later one
    pub going_entered : {r' : List ℕ} {c' level : ℕ} → r' ≡ row (λ j. cond (eqb (at r j) c) taken (at r j)) → Least 16 r' c' →
        c / 16 ≡ level → Within g.n u level t → Refuted g s u t'.entered →
        Going g s u l r' c' t' × Within g.n u level t' × (c < c') × (c < taken)
    going_entered {r'} {c'} d L e W now = (G', within_enter e W, later, small)
      where
        Q : Placed l
        Q = placed G.received G.keys

        G' : Going g s u l r' c' t'
        G' = record {
          received = G.received;
          keys = G.keys;
          holds = going_holds;
          entering = rw E.marks (entering-next G.entering Q G.next d G.holds.shaped.size small);
          next = L;
          now = now;
        }

        later : c < c'
        later =
            let i : c % 16 < 16 = mod-lt c (omega arith) in
            let k = next-cell G.entering Q G.next small in
            omega (arith, k.1, entered_below G'.entering Q G'.next (c % 16) i λ z. omega (arith, entered-cell, z))

    -- then nothing below the level of the next one is under the radius
    pub going_enter : {r' : List ℕ} {c' : ℕ} → r' ≡ row (λ j. cond (eqb (at r j) c) taken (at r j)) → Least 16 r' c' →
        RefutedBelow g s u (c / 16) → Refuted g s u t'.entered →
        Going g s u l r' c' t' × RefutedBelow g s u (c' / 16) × (taken - c' < taken - c)
    going_enter {r'} {c'} d L P now =
        let (G', W, later, _) = going_entered d L refl (going_within G) now in
        (G', passed G' W later, omega (arith, small, later))
      where
        passed : Going g s u l r' c' t' → Within g.n u (c / 16) t' → c < c' → RefutedBelow g s u (c' / 16)
        passed G' W later = elim (dec_lt (c / 16) (c' / 16)) [
          | yes o ↦ going_passed G' W o P
          | no o ↦ let e : c' / 16 ≡ c / 16 = omega (arith, later) in rw e P
        ]

module _ {g : Axis} {s u l : List ℕ} (R : Received g s u) (K : l ≡ row λ j. key g.n (at u j) j) {f : Newton}
    (fit : FitsOn g s l f) where
  pub first-keys : (j : ℕ) → at f.keys j ≤ taken
  first-keys = left-most fit.entering (placed R K)

  -- the state after the first k + 1 cells
  pub going_first : {c : ℕ} → Least 16 f.keys c → Refuted g s u f.entered →
      Going g s u l f.keys c (pairs_of (g.k + 1) f) × RefutedBelow g s u (c / 16)
  going_first {c} L D = (G, first_passed G (omega arith))
    where
      G : Going g s u l f.keys c (pairs_of (g.k + 1) f)
      G = rw (add-one g.k) (record {
        received = R;
        keys = K;
        holds = fit.holds;
        entering = fit.entering;
        next = L;
        now = D;
      })

module _ {g : Axis} {s u : List ℕ} (R : Received g s u) where
  none_of : ((h : ℕ → ℕ) → strip_radius g ≤ spent g s u (word g h)) → StripDecoded g s u None
  none_of far = record {
    strip = record { sound = λ e. absurd (false≢true e); only = λ h near. absurd (omega (arith, far h)) };
    small = zeros-row (omega (arith, R.axis.prime.least));
    above = λ i _. zeros-at 16 i;
    values = λ e. absurd (false≢true e);
  }

  -- no polynomial costs less than the doubts
  pub doubtful_decoded : strip_radius g ≤ sum g.n (at u) → StripDecoded g s u None
  doubtful_decoded l = none_of λ h. omega (arith, doubts-cost g.full g.n (at s) (at u) (word g h) R.doubts)

  -- after the last level
  pub none-decoded : {level : ℕ} → g.full ≤ level → RefutedBelow g s u level → StripDecoded g s u None
  none-decoded l P = none_of λ h. elim (dec_le (strip_radius g) (spent g s u (word g h))) [
    | yes i ↦ i
    | no i ↦
        let c = some-cell g.full (g.n - g.k) g.n (at s) (at u) (word g h) R.doubts (omega arith) (omega arith) in
        P.far h c.0 c.1 (omega (arith, c.2)) (omega (arith, c.3, R.axis.low))
  ]

  pub found-decoded : {d : Decoded} → Confirmed g s u d → StripDecoded g s u (Some d)
  found-decoded {d} D = record {
    strip = record {
      sound = λ _. (cost, D.under);
      only = λ h near. (
        refl,
        near-one R.axis.apart g.full g.k (at s) (at u) R.doubts (at d.message) h (omega (arith, cost, D.under)) near,
      );
    };
    small = D.message;
    above = D.above;
    values = λ _. D.values;
  }
    where
      cost : d.cost ≡ spent g s u (word g (at d.message))
      cost = D.measured ∙ cost-values R.axis s u d.message D.values
