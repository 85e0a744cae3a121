use Rattle.std.proofs.Common.{sym, ◌∙◌}
use Rattle.std.proofs.lemmas.Bool.{true≢false}
use Rattle.image_read.proofs.Fronts.{head_refuse}
use Rattle.image_read.proofs.head.head_in_front.Goals as goal

pub returns-then-not-is_in_range-clause-none : goal.returns-then-not-is_in_range-clause-none
returns-then-not-is_in_range-clause-none c none =
    head_refuse c.in_ok-front.front.format c.args.bytes.now c.in_ok-front.front.rest.now c.in_ok-first.first.rest.now c.in_ok-next.next.rest.now c.in_ok-next_id.next_id.rest.now c.in_ok-files.files.rest.now c.in_ok-first.first.value
    c.in_ok-next.next.value c.in_ok-next_id.next_id.value c.in_ok-files.files.value c.in_ok-front.ensures.some c.in_ok-first.ensures.some c.in_ok-next.ensures.some c.in_ok-next_id.ensures.some c.in_ok-files.ensures.some
    (λ fits. true≢false (sym (c.is_in_range.ensures.1 fits) ∙ c.if-not-is_in_range.true))
