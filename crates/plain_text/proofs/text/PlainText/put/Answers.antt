use Rattle.std.proofs.Common.{◌≡◌, ◌∷◌, [], ◌++◌, length, ◌∙◌, ap}
use Rattle.plain_text.proofs.Puts.{kept_put, text_put}
use Rattle.plain_text.proofs.text.PlainText.put.Goals as goal

pub invariant_of-self-2 : goal.invariant_of-self-2
invariant_of-self-2 c =
    let t = c.self.inside in
    let above = rw (← c.self.view_is) at c.requires.above in
    let below = rw (← c.self.view_is) at c.requires.below in
    let last = rw (← c.self.view_is) at c.requires.last in
    let end = length c.as_slice-end.result.now in
    let at_end : end ≡ length c.extend_from_slice.new.self.items = ap length c.as_slice-end.ensures.value in
    let entries = c.in_ok-push.ensures.items ∙ ap (λ xs. xs ++ record { address = c.args.address; end = end } ∷ []) c.in_ok-reserve.ensures.items in
    kept_put t.span.first t.span.next t.bytes.items c.args.token.now c.extend_from_slice.new.self.items t.entries.items c.push.new.self.items c.args.address end
    c.in_ok-extend_from_slice.ensures.items at_end entries c.self.invariant above below last

pub returns-clause-ok : goal.returns-clause-ok
returns-clause-ok c =
    let t = c.self.inside in
    let end = length c.as_slice-end.result.now in
    let at_end : end ≡ length c.extend_from_slice.new.self.items = ap length c.as_slice-end.ensures.value in
    let entries = c.in_ok-push.ensures.items ∙ ap (λ xs. xs ++ record { address = c.args.address; end = end } ∷ []) c.in_ok-reserve.ensures.items in
    text_put t.span.first t.span.next t.bytes.items c.args.token.now c.extend_from_slice.new.self.items t.entries.items c.push.new.self.items c.args.address end
    c.in_ok-extend_from_slice.ensures.items at_end entries c.self.invariant c.args.self.now c.self.view_is
