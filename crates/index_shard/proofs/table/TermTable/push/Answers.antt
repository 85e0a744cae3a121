use Rattle.std.proofs.Common.{◌++◌, ◌∷◌, [], sym, ap, ◌∙◌, subst}
use Rattle.posting_code.specs.Postings.{ArePostings}
use Rattle.index_shard.proofs.TableLaws.{term_entry}
use Rattle.posting_code.proofs.Steps.{concat_one}
use Rattle.index_shard.proofs.table.TermTable.push.Goals as goal

pub push_parts-requires : goal.push_parts-requires
push_parts-requires c = record {
  head = c.head_of.ensures;
  postings = subst ArePostings (sym (concat_one c.as_postings-lent.result ∙ c.as_postings-lent.ensures)) c.len.ensures.rising;
}

pub returns-clause-ok : goal.returns-clause-ok
returns-clause-ok c =
    c.in_ok-push_parts.ensures.ok
    ∙ ap (λ a. c.args.self.now ++ term_entry c.args.term.now a ∷ []) (concat_one c.as_postings-lent.result ∙ c.as_postings-lent.ensures)
