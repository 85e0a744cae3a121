use Rattle.std.proofs.Common.{◌≡◌, ◌++◌, true, drop, sym, ap, ◌∙◌, subst}
use Rattle.slot_terms.specs.Parts.{PartContent, alive, is_headed, head_postings}
use Rattle.slot_terms.proofs.Heads.{headed_postings}
use Rattle.slot_terms.proofs.part.Part.take.Goals as goal

pub returns-in_ok-put_live-clause-addresses : goal.returns-in_ok-put_live-clause-addresses
returns-in_ok-put_live-clause-addresses c =
    let table = c.self.inside.shard.now.table in
    let next = c.self.inside.next in
    let term = c.args.first.now.term.now in
    let out = c.args.addresses.now.items in
    let headed : is_headed (drop next table) term ≡ true = subst (λ (p : PartContent). is_headed p.left term ≡ true) (sym c.self.view_is) (sym c.has_first.ensures ∙ c.if-has_first.true) in
    c.in_ok-put_live.ensures
    ∙ ap (λ l. out ++ alive c.self.inside.mask l) (c.postings.ensures.value ∙ sym (headed_postings table next term headed))
    ∙ ap (λ (p : PartContent). out ++ alive p.mask (head_postings p.left term)) c.self.view_is
