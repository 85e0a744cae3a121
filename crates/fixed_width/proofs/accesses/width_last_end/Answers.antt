use Rattle.std.proofs.Common.{◌≡◌, ◌+◌, ◌≤◌, min, Some, ap, ◌∙◌, arith}
use Rattle.fixed_width.proofs.Widths.{last_end_some, last_end_none}
use Rattle.fixed_width.proofs.accesses.width_last_end.Goals as goal
use Rattle.fixed_width.proofs.accesses.width_last_end.Goals.{then-k-span, else-k-span}

pub returns-in_err-start : goal.returns-in_err-start
returns-in_err-start c = λ text has.
    let next : c.if-k-span.next ≡ min c.args.span.next (c.args.k + 1) = elim c.if-k-span.branch [ then-k-span w ↦ omega arith | else-k-span w ↦ omega arith ] in
    let past : c.args.n ≤ c.if-k-span.next → ⊥ = c.in_err-start.ensures in
    let q : text.next ≡ c.args.span.next = has.next_is in
    rw c.from_residual.ensures (last_end_none text c.args.n c.args.k (omega arith))

pub returns-then-span-start : goal.returns-then-span-start
returns-then-span-start c = λ text has.
    let next : c.if-k-span.next ≡ min c.args.span.next (c.args.k + 1) = elim c.if-k-span.branch [ then-k-span w ↦ omega arith | else-k-span w ↦ omega arith ] in
    let room = c.in_ok-start.ensures in
    let p : text.first ≡ c.args.span.first = has.first_is in
    let q : text.next ≡ c.args.span.next = has.next_is in
    ap Some c.new.ensures ∙ last_end_some text c.args.n c.args.k c.in_ok-start.start c.if-k-span.next c.requires.some (omega arith) (omega (arith, room.0, room.1)) (omega arith)

pub returns-else-span-start : goal.returns-else-span-start
returns-else-span-start c = λ text has.
    let next : c.if-k-span.next ≡ min c.args.span.next (c.args.k + 1) = elim c.if-k-span.branch [ then-k-span w ↦ omega arith | else-k-span w ↦ omega arith ] in
    let room = c.in_ok-start.ensures in
    let p : text.first ≡ c.args.span.first = has.first_is in
    let q : text.next ≡ c.args.span.next = has.next_is in
    last_end_none text c.args.n c.args.k (omega (arith, room.0, room.1))
