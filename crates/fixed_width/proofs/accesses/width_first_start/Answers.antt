use Rattle.std.proofs.Common.{◌≡◌, ◌≤◌, max, Some, ap, ◌∙◌, arith}
use Rattle.fixed_width.proofs.Widths.{first_start_some, first_start_none}
use Rattle.fixed_width.proofs.accesses.width_first_start.Goals as goal

pub returns-in_err-room : goal.returns-in_err-room
returns-in_err-room c = λ text has.
    let start : c.max-start.result ≡ max c.args.span.first c.args.k = c.max-start.ensures in
    let past : c.max-start.result ≤ c.args.span.next → ⊥ = c.in_err-room.ensures in
    let some : 1 ≤ c.args.n = c.requires.some in
    let p : text.first ≡ c.args.span.first = has.first_is in
    let q : text.next ≡ c.args.span.next = has.next_is in
    rw c.from_residual.ensures (first_start_none text c.args.n c.args.k (omega arith))

pub returns-then-n-room : goal.returns-then-n-room
returns-then-n-room c = λ text has.
    let start : c.max-start.result ≡ max c.args.span.first c.args.k = c.max-start.ensures in
    let room = c.in_ok-room.ensures in
    let p : text.first ≡ c.args.span.first = has.first_is in
    let q : text.next ≡ c.args.span.next = has.next_is in
    ap Some c.new.ensures ∙ first_start_some text c.args.n c.args.k c.max-start.result c.requires.some (omega arith) (omega (arith, room.0, room.1))

pub returns-else-n-room : goal.returns-else-n-room
returns-else-n-room c = λ text has.
    let start : c.max-start.result ≡ max c.args.span.first c.args.k = c.max-start.ensures in
    let room = c.in_ok-room.ensures in
    let p : text.first ≡ c.args.span.first = has.first_is in
    let q : text.next ≡ c.args.span.next = has.next_is in
    first_start_none text c.args.n c.args.k (omega (arith, room.0, room.1))
