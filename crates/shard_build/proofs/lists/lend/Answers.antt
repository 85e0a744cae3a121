use Rattle.std.proofs.Common.{◌≡◌, ◌++◌, [], ◌∷◌, sym, ap, ◌∙◌, subst}
use Rattle.std.proofs.lemmas.List.{append-nil}
use Rattle.index_shard.specs.Kept.{leading}
use Rattle.index_shard.specs.Tables.{TermEntry}
use Rattle.shard_build.specs.Handed.{ComesNext}
use Rattle.shard_build.specs.Met.{list_at}
use Rattle.shard_build.proofs.Handing.{entry_read}
use Rattle.shard_build.proofs.NameLists.{list_read}
use Rattle.shard_build.proofs.lists.lend.Goals as goal

pub push_parts-requires : goal.push_parts-requires
push_parts-requires c =
    let es = c.args.lists.now.items in
    let listed : c.as_postings-list.result ++ [] ≡ list_at es c.args.last.number = append-nil c.as_postings-list.result ∙ c.as_postings-list.ensures ∙ sym (list_read es c.args.last.number c.index.result.now c.index.ensures c.requires.within) in
    let is = entry_read es c.args.last c.name_at.result.now (c.as_postings-list.result ++ []) c.name_at.ensures listed in
    let next = subst (ComesNext c.args.maker.now.range c.args.maker.now.table) (sym is) c.requires.next in
    record {
      head = c.requires.noted.head ∙ ap (leading 8 0) (sym c.name_at.ensures);
      rising = next.before;
      postings = next.postings;
      apart = next.apart;
    }

pub returns-clause-ok : goal.returns-clause-ok
returns-clause-ok c =
    let es = c.args.lists.now.items in
    let listed : c.as_postings-list.result ++ [] ≡ list_at es c.args.last.number = append-nil c.as_postings-list.result ∙ c.as_postings-list.ensures ∙ sym (list_read es c.args.last.number c.index.result.now c.index.ensures c.requires.within) in
    let is = entry_read es c.args.last c.name_at.result.now (c.as_postings-list.result ++ []) c.name_at.ensures listed in
    c.in_ok-push_parts.ensures.ok ∙ ap (λ (e : TermEntry). record { range = c.args.maker.now.range; table = c.args.maker.now.table ++ e ∷ [] }) is
