use Rattle.std.proofs.Common.{◌≡◌, ◌<◌, ◌-◌, suc, length, sym, ap, ◌∙◌, arith}
use Rattle.std.proofs.lemmas.Option.{slice_get-get_or}
use Rattle.plain_text.specs.Entries.{start_at}
use Rattle.plain_text.proofs.Entries.{start_at-first, start_at-next}
use Rattle.plain_text.proofs.text.start_of.Goals as goal

pub returns-then-i-eq0 : goal.returns-then-i-eq0
returns-then-i-eq0 c = rw c.if-i-eq0.true (sym (start_at-first 0 c.args.entries.now))

pub returns-else-i-eq0 : goal.returns-else-i-eq0
returns-else-i-eq0 c =
    let i = c.args.i in
    let xs = c.args.entries.now in
    let lt : i - 1 < length xs = omega arith in
    let at : suc (i - 1) ≡ i = omega arith in
    sym (start_at-next 0 xs (i - 1) _ (slice_get-get_or xs (i - 1) record { address = 0; end = 0 } lt)) ∙ ap (start_at 0 xs) at
