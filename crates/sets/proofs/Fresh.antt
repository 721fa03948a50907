-- The combination of what a set holds.
--
--   fresh_cell          each cell made afresh is the document's: by most votes of the photographs held
--   starts_unread       with none held all cells are unread, at the full doubt
--   fresh_symbols_lem, fresh_doubts_lem
--                       the combination of the memory is the one made afresh
--   fresh_photograph    it is a photograph of the plan
--   combines            combining writes it
--   set_reads           reading reads it: 1 to 8 never meet it, and demand 3 holds
--
-- What this file is for: with Histories, what is said of a combination holds after any calls. Assumes nothing.
use mathlib.Core.Path.{◌≡◌, refl, sym, ap, ◌∙◌}
use mathlib.Core.Logic.{◌⊎◌, inr}
use mathlib.Core.Bool.{Bool, true, false, not}
use mathlib.Core.List.{List}
use mathlib.Core.Option.{Option, some, none}
use Prim.Native.Nat.{ℕ, ◌+◌, ◌<◌}
use native.Mathlib.Omega.{arith}
use lib.Dec.{eqb}
use lib.ListN.{length}
use borrow.Author.Tests.{eqb-true, not-false, lt-ltb}
use Rattle.bounded.specs.Bounded.{at, tab}
use Rattle.bounded.proofs.Tab.{length-tab, tab-at, tab-eq}
use Rattle.votes.specs.Votes.{cast, symbol_of, doubt_of}
use Rattle.votes.specs.Majority.{Majority}
use Rattle.votes.proofs.Winner.{majority, combined-fits}
use Rattle.definitions.specs.Plan.{modulus}
use Rattle.definitions.specs.Code.{oblong, cells}
use Rattle.definitions.specs.Cost.{full, unread}
use Rattle.definitions.specs.Calls.{read_number}
use Rattle.definitions.specs.Photograph.{Photograph}
use Rattle.definitions.specs.Sets.{place, column, combined_symbols, combined_doubts}
use Rattle.definitions.specs.Sets.{combine_tests, combine_number, combine_symbols, combine_doubts, set_number}
use Rattle.definitions.specs.Histories.{Holding, empty, symbol_at, shown, fresh_symbols, fresh_doubts, Holds}
use Rattle.definitions.specs.Histories.{StartsUnread, Fits, Combines, SetReads}
use Rattle.definitions.proofs.Refusals.{Stops, number_at, first-at, ◌&◌, equal, holds}
use Rattle.definitions.proofs.Sound.{checked, cells-most}
use Rattle.definitions.proofs.Photograph.{photo-accepted}
use Rattle.definitions.proofs.Accepted.{taken-exactly}
use Rattle.definitions.proofs.Nearest.{zero_or_ten}
use Rattle.definitions.proofs.Demands.{nearest-one}
use Rattle.definitions.proofs.Sets.{combine_passes}
use Rattle.sets.proofs.Held.{memory_parts}
use Rattle.sets.proofs.Histories.{holds-plan}

module _ (H : Holding) where
  -- a cell of the combination made afresh
  symbol_at_lem : (c : ℕ) → c < cells oblong H.plan → at (fresh_symbols H) c ≡ symbol_of (shown H c) 9
  unfolding fresh_symbols
  symbol_at_lem c l = tab-at (cells oblong H.plan) (λ c. symbol_of (shown H c) 9) c l

  doubt-at : (c : ℕ) → c < cells oblong H.plan → at (fresh_doubts H) c ≡ doubt_of (full H.plan) (shown H c) 9
  unfolding fresh_doubts
  doubt-at c l = tab-at (cells oblong H.plan) (λ c. doubt_of (full H.plan) (shown H c) 9) c l

  pub fresh_cell : (c : ℕ) → c < cells oblong H.plan →
      Majority (full H.plan) (shown H c) 9 (at (fresh_symbols H) c) (at (fresh_doubts H) c)
  fresh_cell c l = rw (symbol_at_lem c l, doubt-at c l) (majority (shown H c) 9 (full H.plan))

pub starts_unread : (P : List ℕ) → StartsUnread P
unfolding cast tab
starts_unread P c l = (fresh_cell (empty P) c l).unread refl

module _ {H : Holding} {S : List ℕ} (h : Holds H S) where
  abbrev P : List ℕ
  P = H.plan

  -- a column of the memory
  column-is : (c : ℕ) → c < cells oblong P → column S c ≡ shown H c
  unfolding column
  column-is c l = tab-eq 9 λ k m. ap (λ S. at S (place k + c)) h.memory-is
      ∙ (memory_parts H).symbols k c m (omega (arith, cells-most oblong h.sound))

  pub fresh_symbols_lem : combined_symbols S ≡ fresh_symbols H
  unfolding combined_symbols fresh_symbols
  fresh_symbols_lem = rw (holds-plan h) (tab-eq (cells oblong P) λ c l. rw (column-is c l))

  pub fresh_doubts_lem : combined_doubts S ≡ fresh_doubts H
  unfolding combined_doubts fresh_doubts
  fresh_doubts_lem = rw (holds-plan h) (tab-eq (cells oblong P) λ c l. rw (column-is c l))

  -- what the photographs show in a cell is a symbol of the plan, or 255
  vote : (c : ℕ) → c < cells oblong P → (k : ℕ) → k < 9 → (at (shown H c) k < modulus P) ⊎ (at (shown H c) k ≡ unread)
  vote c l k m = rw (tab-at 9 (λ k. symbol_at (H.photo k) c) k m) (go (H.photo k) refl)
    where
      go : (o : Option (List ℕ)) → H.photo k ≡ o → (symbol_at o c < modulus P) ⊎ (symbol_at o c ≡ unread)
      go none e = inr refl
      go (some s) e =
          let t = h.stored k s e in
          let i : c < length s = omega (arith, t.whole) in
          rw (lt-ltb c (length s) i) (t.symbols c l)

  pub fresh_photograph : Photograph oblong H.plan (fresh_symbols H) (fresh_doubts H)
  unfolding fresh_symbols fresh_doubts
  fresh_photograph = record {
    sound = h.sound;
    symbols = length-tab (cells oblong P) _;
    doubts = length-tab (cells oblong P) _;
    symbol = λ c l. rw (symbol_at_lem H c l) (combined-fits (shown H c) 9 (modulus P) (full P) small (vote c l)).0;
    doubt = λ c l. rw (symbol_at_lem H c l, doubt-at H c l)
        (combined-fits (shown H c) 9 (modulus P) (full P) small (vote c l)).1;
  }
    where
      small : modulus P < 255
      small = omega (arith, h.sound.small)

  pub combines : (B D : List ℕ) → Combines H S B D
  unfolding combine_symbols combine_doubts
  combines B D = record {
    six = λ n. six n (not (eqb (length B) (cells oblong P))) refl;
    zero = zero;
    symbols = λ f. rw (zero f) fresh_symbols_lem;
    doubts = λ f. rw (zero f) fresh_doubts_lem;
  }
    where
      at_row : (i : ℕ) → Stops (combine_tests B D (cells oblong P)) i →
          combine_number S B D ≡ number_at (combine_tests B D (cells oblong P)) i
      at_row i g = sym (first-at (combine_tests B D (cells oblong P)) i g
          ∙ rw (holds-plan h) at (combine_passes S B D (rw (holds-plan h) (checked P h.sound))))

      zero : Fits H B D → combine_number S B D ≡ 0
      zero (a, b) = at_row 2 (equal _ _ a & equal _ _ b & tt)

      six : ¬ (Fits H B D) → (b : Bool) → not (eqb (length B) (cells oblong P)) ≡ b → combine_number S B D ≡ 6
      six n true t = at_row 0 t
      six n false t = at_row 1 (t & holds _ λ f. n (eqb-true _ _ (not-false _ t), eqb-true _ _ (not-false _ f)))

  pub set_reads : (B : List ℕ) → SetReads H S B
  set_reads B = record {
    reading = rw (holds-plan h, fresh_symbols_lem, fresh_doubts_lem);
    buffer = rw (holds-plan h, fresh_symbols_lem, fresh_doubts_lem);
    six = λ n. number ∙ ((taken-exactly oblong P (checked P h.sound) s u B).six (λ (_, (_, e)). n e)).1;
    numbers = λ e. rw number (zero_or_ten oblong P s u B (photo-accepted oblong P s u B fresh_photograph e));
    nearest = λ e. nearest-one oblong P s u B fresh_photograph e;
  }
    where
      s : List ℕ
      s = fresh_symbols H

      u : List ℕ
      u = fresh_doubts H

      number : set_number S B ≡ read_number oblong P s u B
      number = rw (holds-plan h, fresh_symbols_lem, fresh_doubts_lem)
