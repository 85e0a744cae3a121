use Rattle.std.proofs.Common.{◌<◌, length, take, sym, ap, ◌∙◌, arith}
use Rattle.std.proofs.lemmas.List.{length-take}
use Rattle.posting_code.specs.Postings.{block_of}
use Rattle.term_fingers.specs.Lists.{list_of}
use Rattle.term_fingers.proofs.Nearest.{tells_nearest}
use Rattle.term_fingers.proofs.finger.Finger.spans.Goals as goal

pub returns : goal.returns
returns g c =
    let finger = c.args.self.now in
    let slots = g.J.Naming.version.slots in
    let part = take finger.count finger.members in
    let here =
    ap (λ slot. block_of (list_of slots slot finger.place) finger.block) c.if-self-slot.false
    ∙ ap (λ place. block_of (list_of slots c.args.slot place) finger.block) c.if-self-place.false
    ∙ ap (λ xs. block_of xs finger.block) (sym c.requires) in
    λ yes.
    let reach = c.reach_around.ensures yes in
    let size = length-take finger.count finger.members in
    let some : 0 < finger.count = let within : 0 < length part = reach.0 in omega (arith, within, size) in
    tells_nearest c.args.list.now part finger.block c.args.k c.len-count.ensures.rising (finger.is some ∙ here) reach.0 reach.1 reach.2
