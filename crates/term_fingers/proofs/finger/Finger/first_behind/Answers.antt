use Rattle.std.proofs.Common.{◌≡◌, ◌+◌, ◌<◌, take, refl, sym, ap, subst, ◌∙◌, arith}
use Rattle.posting_code.specs.Postings.{block_of, blocks_of}
use Rattle.term_fingers.specs.Lists.{list_of}
use Rattle.term_fingers.proofs.Nearest.{as_wanted, least_behind_block}
use Rattle.term_fingers.proofs.finger.Finger.first_behind.Goals as goal

pub returns : goal.returns
returns g c =
    let finger = c.args.self.now in
    let slots = g.J.Naming.version.slots in
    let list = c.args.list.now in
    let ends = c.if-not-ends_before.ensures in
    let part = take finger.count finger.members in
    let here : part ≡ block_of list finger.block =
    finger.is (ends.count refl)
    ∙ ap (λ slot. block_of (list_of slots slot finger.place) finger.block) (sym (ends.slot refl))
    ∙ ap (λ place. block_of (list_of slots c.args.slot place) finger.block) (sym (ends.place refl))
    ∙ ap (λ xs. block_of xs finger.block) (sym c.requires) in
    let on : c.in_ok-next.next ≡ finger.block + 1 = omega (arith, c.in_ok-next.ensures) in
    let within : c.in_ok-next.next < blocks_of list = omega (arith, c.if-next-block_count.false, c.block_count.ensures.value) in
    let above = subst (λ first. c.args.k < first) c.block_first.ensures.value c.if-block_first-k.false in
    as_wanted c.first_of.result _
    (c.first_of.ensures ∙ least_behind_block list part finger.block c.in_ok-next.next c.args.k c.block_count.ensures.rising here on within (ends.some refl) (ends.last refl) above)
