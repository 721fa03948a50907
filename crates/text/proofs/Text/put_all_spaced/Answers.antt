-- `text::Text::put_all_spaced` meets its contract: one number more fits, and is put after the others. Assumes nothing.
use Rattle.std.proofs.Common.{ℕ, suc, ◌+◌, ◌≤◌, ◌<◌, List, [], ◌∷◌, ◌++◌, length, get_or, take, drop, sym, ap, ◌∙◌}
use Rattle.std.proofs.Common.{append-nil, append_assoc, add-one, length-append, arith}
use lib.Seq.{take-suc, split_at}
use Rattle.definitions.specs.Printed.{spaced}
use Rattle.definitions.proofs.Printed.{spaced-append}
use Rattle.text.proofs.Text.put_all_spaced.Goals as goal

-- one number more is no longer than all of them
within : (s : List ℕ) (i : ℕ) → i < length s →
    length (spaced (take i s)) + length (spaced (get_or s i 0 ∷ [])) ≤ length (spaced s)
within s i h =
    let e = ap spaced (split_at s i 0 h) ∙ spaced-append (take i s) (get_or s i 0 ∷ drop (suc i) s) in
    let f = ap (λ l. spaced (take i s) ++ l) (spaced-append (get_or s i 0 ∷ []) (drop (suc i) s)) in
    omega (arith, simp length-append at (ap length (e ∙ f)))

pub loop-byte-init : goal.loop-byte-init
unfolding spaced
loop-byte-init g c = sym (append-nil _)

pub put_spaced-requires : goal.put_spaced-requires
put_spaced-requires g c =
    let h : c.loop-byte.byte-index < length c.args.bytes.now = omega (arith, c.loop-byte-test.true) in
    let l = simp length-append at (ap length c.loop-byte.invariant) in
    rw c.from.ensures (omega (arith, c.requires, l, within c.args.bytes.now c.loop-byte.byte-index h))

pub loop-byte-preserved : goal.loop-byte-preserved
loop-byte-preserved g c =
    let s = c.args.bytes.now in
    let i = c.loop-byte.byte-index in
    let h : i < length s = omega (arith, c.loop-byte-test.true) in
    c.put_spaced.ensures
    ∙ rw (c.loop-byte.invariant, c.from.ensures, append_assoc, add-one i, take-suc s i 0 h, spaced-append)
