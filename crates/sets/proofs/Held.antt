-- The memory of a set that holds H, byte by byte.
--
--   Parts H S          S has the length of a set's memory, and plan, flags and symbols of H in their places
--   memory_parts       so has the memory of H
--   is-memory          and no other bytes have
--   memory-plan        its plan is that of H
--   started-is         what a start leaves is the memory of an empty set
--   added_is           what an adding leaves is the memory with the photograph under its number, if none was held there
--   withdrawn-is       what a withdrawing leaves is the memory with none there
--
-- What this file is for: the bytes that the calls write are those of what is then held. Assumes nothing.
use mathlib.Core.Path.{◌≡◌, refl, sym, ap, ◌∙◌}
use mathlib.Core.Logic.{◌≢◌, ◌⊎◌, inl, inr}
use mathlib.Core.List.{List, ◌++◌}
use mathlib.Core.Option.{Option, some, none}
use Prim.Native.Nat.{ℕ, ◌+◌, ◌*◌, ◌-◌, ◌/◌, ◌%◌, ◌≤◌, ◌<◌}
use native.Mathlib.Omega.{arith}
use native.Mathlib.Decide.{dec_lt, ℕ_discrete}
use lib.ListN.{length, take, set, replicate, length-set, length-append, length-replicate, get_or-replicate, get_or-append}
use lib.Seq.{length-take-le, get_or-set_same, get_or-set_other, get_or-append-add, get_or-take}
use borrow.Author.Tests.{eq-eqb, ne_eqb, lt-ltb, le-ltb}
use Rattle.bounded.specs.Bounded.{at}
use Rattle.bounded.proofs.Tab.{length-tab, tab-at, tab-is, list_eq}
use Rattle.lent.specs.Put.{put}
use Rattle.lent.proofs.Put.{length-put, at_before, at-within, at_behind}
use Rattle.definitions.specs.Sets.{set_bytes, set_plan, flag, place, blank, none_held, started, added, withdrawn}
use Rattle.definitions.specs.Histories.{Holding, empty, with, flag_of, symbol_at, byte_of, memory}

pub record Parts (H : Holding) (S : List ℕ) : Type 0 where
  pub size : length S ≡ set_bytes
  pub plan : (i : ℕ) → i < 40 → at S i ≡ at H.plan i
  pub flags : (k : ℕ) → k < 9 → at S (flag k) ≡ flag_of (H.photo k)
  pub symbols : (k c : ℕ) → k < 9 → c < 256 → at S (place k + c) ≡ symbol_at (H.photo k) c

module _ (H : Holding) where
  -- the bytes of the three parts
  plan-byte : (i : ℕ) → i < 40 → byte_of H i ≡ at H.plan i
  plan-byte i l = rw (lt-ltb i 40 l)

  flag-byte : (k : ℕ) → k < 9 → byte_of H (flag k) ≡ flag_of (H.photo k)
  flag-byte k l =
      let a : 40 ≤ flag k = omega arith in
      let b : flag k < 49 = omega arith in
      let e : flag k - 40 ≡ k = omega arith in
      rw (le-ltb (flag k) 40 a, lt-ltb (flag k) 49 b, e)

  symbol-byte : (k c : ℕ) → c < 256 → byte_of H (place k + c) ≡ symbol_at (H.photo k) c
  symbol-byte k c l =
      let a : 40 ≤ place k + c = omega arith in
      let b : 49 ≤ place k + c = omega arith in
      let e : (place k + c - 49) / 256 ≡ k = omega arith in
      let f : (place k + c - 49) % 256 ≡ c = omega arith in
      rw (le-ltb (place k + c) 40 a, le-ltb (place k + c) 49 b, e, f)

  at-memory : (i : ℕ) → i < set_bytes → at (memory H) i ≡ byte_of H i
  unfolding memory
  at-memory i l = tab-at set_bytes (byte_of H) i l

  pub memory_parts : Parts H (memory H)
  unfolding memory
  memory_parts = record {
    size = length-tab set_bytes (byte_of H);
    plan = λ i l. at-memory i (omega arith) ∙ plan-byte i l;
    flags = λ k l. at-memory (flag k) (omega arith) ∙ flag-byte k l;
    symbols = λ k c l m. at-memory (place k + c) (omega arith) ∙ symbol-byte k c m;
  }

  pub is-memory : (S : List ℕ) → Parts H S → S ≡ memory H
  unfolding memory
  is-memory S p = tab-is set_bytes (byte_of H) S p.size λ i l. elim (dec_lt i 40) [
    | yes a ↦ p.plan i a ∙ sym (plan-byte i a)
    | no a ↦ elim (dec_lt i 49) [
      | yes b ↦
          let e : i ≡ flag (i - 40) = omega arith in
          let k : i - 40 < 9 = omega arith in
          ap (at S) e ∙ p.flags (i - 40) k ∙ sym (flag-byte (i - 40) k) ∙ ap (byte_of H) (sym e)
      | no b ↦
          let k = (i - 49) / 256 in
          let c = (i - 49) % 256 in
          let m : k < 9 = omega arith in
          let n : c < 256 = omega arith in
          let e : i ≡ place k + c = omega arith in
          ap (at S) e ∙ p.symbols k c m n ∙ sym (symbol-byte k c n) ∙ ap (byte_of H) (sym e)
    ]
  ]

  pub memory-plan : length H.plan ≡ 40 → set_plan (memory H) ≡ H.plan
  memory-plan w = list_eq (take 40 (memory H)) H.plan (cut ∙ sym w) λ i l.
      let k : i < 40 = omega (arith, cut) in get_or-take 40 (memory H) i 0 k ∙ memory_parts.plan i k
    where
      cut : length (take 40 (memory H)) ≡ 40
      cut = length-take-le 40 (memory H) (omega (arith, memory_parts.size))

-- bytes before and behind those that were put
beside : (S s : List ℕ) (a i : ℕ) → a ≤ length S → (i < a) ⊎ (a + length s ≤ i) → at (put S a s) i ≡ at S i
beside S s a i h (inl l) = at_before S s a i h l
beside S s a i h (inr l) =
    let j = i - (a + length s) in
    let e : i ≡ a + (length s + j) = omega arith in
    let f : i ≡ a + length s + j = omega arith in
    ap (at (put S a s)) e ∙ at_behind S s a j h ∙ ap (at S) (sym f)

-- symbols s, at most 256, put into the place of number k, and its flag set, where o is held afterwards
module _ (H : Holding) (k : ℕ) (l : k < 9) (s : List ℕ) (m : length s ≤ 256) (o : Option (List ℕ))
    (inside : (c : ℕ) → c < length s → at s c ≡ symbol_at o c)
    (beyond : (c : ℕ) → length s ≤ c → c < 256 → symbol_at (H.photo k) c ≡ symbol_at o c) where
  replaced : set (put (memory H) (place k) s) (flag k) (flag_of o) ≡ memory (with H k o)
  replaced = is-memory (with H k o) (set M (flag k) (flag_of o)) (record {
    size = length-set M (flag k) (flag_of o) ∙ size;
    plan = λ i h. other i (λ z. omega arith) ∙ beside (memory H) s (place k) i low (inl (omega arith)) ∙ old.plan i h;
    flags = λ j h. elim (ℕ_discrete j k) [
      | yes e ↦ rw (e, eq-eqb k k refl) (get_or-set_same M (flag k) (flag_of o) 0 (omega (arith, size)))
      | no e ↦ rw (ne_eqb j k e) (other (flag j) (λ z. e (omega arith))
          ∙ beside (memory H) s (place k) (flag j) low (inl (omega arith)) ∙ old.flags j h)
    ];
    symbols = λ j c h n. other (place j + c) (λ z. omega arith) ∙ elim (ℕ_discrete j k) [
      | yes e ↦ rw (e, eq-eqb k k refl) (here c n)
      | no e ↦ rw (ne_eqb j k e) (beside (memory H) s (place k) (place j + c) low (there j c e n) ∙ old.symbols j c h n)
    ];
  })
    where
      M : List ℕ
      M = put (memory H) (place k) s

      old : Parts H (memory H)
      old = memory_parts H

      low : place k ≤ length (memory H)
      low = omega (arith, old.size)

      size : length M ≡ set_bytes
      size = length-put (memory H) s (place k) (omega (arith, old.size)) ∙ old.size

      other : (i : ℕ) → i ≢ flag k → at (set M (flag k) (flag_of o)) i ≡ at M i
      other i z = get_or-set_other M (flag k) i (flag_of o) 0 z

      here : (c : ℕ) → c < 256 → at M (place k + c) ≡ symbol_at o c
      here c n = elim (dec_lt c (length s)) [
        | yes a ↦ at-within (memory H) s (place k) c low a ∙ inside c a
        | no a ↦
            let b : length s ≤ c = omega arith in
            beside (memory H) s (place k) (place k + c) low (inr (omega arith)) ∙ old.symbols k c l n ∙ beyond c b n
      ]

      there : (j c : ℕ) → j ≢ k → c < 256 → (place j + c < place k) ⊎ (place k + length s ≤ place j + c)
      there j c e n = elim (dec_lt j k) [ yes a ↦ inl (omega arith) | no a ↦ inr (omega (arith, e)) ]

pub started-is : (P : List ℕ) → length P ≡ 40 → started P ≡ memory (empty P)
unfolding blank none_held
started-is P w = is-memory (empty P) (started P) (record {
  size = length-append P rest ∙ omega (arith, w, length-append none_held (blank 2304), zeros, unreads);
  plan = λ i l. get_or-append P rest 0 i (omega arith);
  flags = λ k l. later k ∙ get_or-append none_held (blank 2304) 0 k (omega (arith, zeros)) ∙ get_or-replicate 9 k 0 0 l;
  symbols = λ k c l m.
      let e : place k + c ≡ 40 + (9 + (k * 256 + c)) = omega arith in
      ap (at (started P)) e ∙ later (9 + (k * 256 + c)) ∙ get_or-append-add (replicate 9 0) (replicate 2304 255) (k * 256 + c) 0
      ∙ get_or-replicate 2304 (k * 256 + c) 255 0 (omega arith);
})
  where
    rest : List ℕ
    rest = none_held ++ blank 2304

    zeros : length none_held ≡ 9
    zeros = length-replicate {A = ℕ} 9 0

    unreads : length (blank 2304) ≡ 2304
    unreads = length-replicate {A = ℕ} 2304 255

    later : (j : ℕ) → at (started P) (40 + j) ≡ at rest j
    later j = ap (λ n. at (started P) (n + j)) (sym w) ∙ get_or-append-add P rest j 0

pub added_is : (H : Holding) (k : ℕ) (s : List ℕ) → k < 9 → length s ≤ 256 → H.photo k ≡ none →
    added (memory H) k s ≡ memory (with H k (some s))
added_is H k s l m free = replaced H k l s m (some s) (λ c n. rw (lt-ltb c (length s) n))
    λ c n h. rw (free, le-ltb c (length s) n)

pub withdrawn-is : (H : Holding) (k : ℕ) → k < 9 → withdrawn (memory H) k ≡ memory (with H k none)
unfolding blank
withdrawn-is H k l = replaced H k l (blank 256) (omega (arith, size)) none
    (λ c m. get_or-replicate 256 c 255 0 (omega (arith, size))) λ c m n. absurd (omega (arith, size))
  where
    size : length (blank 256) ≡ 256
    size = length-replicate {A = ℕ} 256 255
