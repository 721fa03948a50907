-- `trayread::lines::put_counts` meets its contract: the four numbers one after the other, each of at most 10 digits. Assumes
-- nothing.
use Rattle.std.proofs.Common.{◌≡◌, [], ◌∷◌, ◌++◌, ℕ, ◌≤◌, length, ap, ◌∙◌, append_assoc, length-append, arith}
use Rattle.definitions.specs.Printed.{spaced}
use Rattle.definitions.proofs.Printed.{spaced-append, number-length}
use Rattle.trayread.proofs.lines.put_counts.Goals as goal
use Rattle.trayread.proofs.lines.put_counts.Goals.{Start}

-- the numbers one by one
four : (a b c d : ℕ) →
    spaced (a ∷ b ∷ c ∷ d ∷ []) ≡ spaced (a ∷ []) ++ spaced (b ∷ []) ++ spaced (c ∷ []) ++ spaced (d ∷ [])
four a b c d = rw (
  spaced-append (a ∷ b ∷ c ∷ []) (d ∷ []),
  spaced-append (a ∷ b ∷ []) (c ∷ []),
  spaced-append (a ∷ []) (b ∷ []),
)

-- and how long they are
lengths : (s : Start) → (length (spaced (s.args.season ∷ [])) ≤ 11)
    × (length (spaced (s.args.reading.changed ∷ [])) ≤ 11) × (length (spaced (s.args.reading.unread ∷ [])) ≤ 11)
    × (length (spaced (s.args.reading.class ∷ [])) ≤ 11)
lengths s = (
  number-length s.args.season (omega arith),
  number-length s.args.reading.changed (omega arith),
  number-length s.args.reading.unread (omega arith),
  number-length s.args.reading.class (omega arith),
)

pub put_spaced-requires : goal.put_spaced-requires
put_spaced-requires c = omega (arith, c.requires, lengths (goal.at.put_spaced-requires c).Start)

pub put_spaced-requires-2 : goal.put_spaced-requires-2
put_spaced-requires-2 c =
    let l = lengths (goal.at.put_spaced-requires-2 c).Start in
    omega (arith, c.requires, l, simp length-append at (ap length c.put_spaced.ensures))

pub put_spaced-requires-3 : goal.put_spaced-requires-3
put_spaced-requires-3 c =
    let l = lengths (goal.at.put_spaced-requires-3 c).Start in
    let e = rw c.put_spaced.ensures at c.put_spaced-2.ensures in
    omega (arith, c.requires, l, simp length-append at (ap length e))

pub put_spaced-requires-4 : goal.put_spaced-requires-4
put_spaced-requires-4 c =
    let l = lengths (goal.at.put_spaced-requires-4 c).Start in
    let e = rw (c.put_spaced-2.ensures, c.put_spaced.ensures) at c.put_spaced-3.ensures in
    omega (arith, c.requires, l, simp length-append at (ap length e))

pub returns : goal.returns
returns c =
    let l = lengths (goal.at.returns c).Start in
    let e = rw (c.put_spaced-3.ensures, c.put_spaced-2.ensures, c.put_spaced.ensures) at c.put_spaced-4.ensures in
    record {
      numbers = e ∙ rw (four _ _ _ _) (simp append_assoc);
      most = omega (arith, l, simp length-append at (ap length e));
    }
