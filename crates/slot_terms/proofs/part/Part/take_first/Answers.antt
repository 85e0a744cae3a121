use Rattle.std.proofs.Common.{◌++◌, sym, ap, ◌∙◌}
use Rattle.std.specs.List.{concat}
use Rattle.index_shard.specs.Tables.{addresses_at}
use Rattle.slot_terms.specs.Parts.{PartContent, alive}
use Rattle.slot_terms.proofs.Firsts.{addresses_from}
use Rattle.slot_terms.proofs.part.Part.take_first.Goals as goal

pub returns-clause-lists : goal.returns-clause-lists
returns-clause-lists c =
    let lists = c.args.lists.now.items in
    c.in_ok-lend_live.ensures
    ∙ ap (λ l. concat lists ++ alive c.self.inside.mask l) (c.postings.ensures.value ∙ sym (addresses_from c.self.inside.shard.now.table c.self.inside.next))
    ∙ ap (λ (p : PartContent). concat lists ++ alive p.mask (addresses_at p.left 0)) c.self.view_is
