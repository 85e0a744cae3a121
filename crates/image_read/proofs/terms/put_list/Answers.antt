use Rattle.std.proofs.Common.{◌≡◌, ◌++◌, [], ◌∷◌, List, ℕ, Result, OnOk, sym, subst, ◌∙◌}
use Rattle.std.specs.List.{AllByRecursion}
use Rattle.std.proofs.lemmas.List.{append-nil}
use Rattle.index_shard.specs.Tables.{AreApart, ArePostingsIn, ShardContent, TermEntry}
use Rattle.image_read.proofs.terms.put_list.Goals as goal

-- the entry that was put, if its addresses are named otherwise
put_as : {E : Type 0} (result : Result Unit E) (old new : ShardContent) (term addresses other : List ℕ) → addresses ≡ other → OnOk result (new ≡ record old { table = old.table ++ record { term = term; addresses = addresses } ∷ [] })
    → OnOk result (new ≡ record old { table = old.table ++ record { term = term; addresses = other } ∷ [] })
put_as result old new term addresses other same ok =
    subst (λ (l : List ℕ). OnOk result (new ≡ record old { table = old.table ++ record { term = term; addresses = l } ∷ [] })) same ok

pub push_list-requires-clause-postings : goal.push_list-requires-clause-postings
push_list-requires-clause-postings c = subst (ArePostingsIn c.args.maker.now.range) (sym c.in_ok-list.ensures) c.requires.postings

pub push_list-requires-clause-apart : goal.push_list-requires-clause-apart
push_list-requires-clause-apart c = subst (λ l. AllByRecursion (λ (entry : TermEntry). AreApart entry.addresses l) c.args.maker.now.table) (sym c.in_ok-list.ensures) c.requires.apart

pub returns-then-len-gt-BLOCK-clause-ok : goal.returns-then-len-gt-BLOCK-clause-ok
returns-then-len-gt-BLOCK-clause-ok c = put_as c.push_list.result c.args.maker.now c.push_list.new.self c.args.term.now _ _ c.in_ok-list.ensures c.push_list.ensures.ok

pub push_parts-requires-clause-postings : goal.push_parts-requires-clause-postings
push_parts-requires-clause-postings c = subst (ArePostingsIn c.args.maker.now.range) (sym (append-nil c.as_block.result ∙ c.as_block.ensures)) c.requires.postings

pub push_parts-requires-clause-apart : goal.push_parts-requires-clause-apart
push_parts-requires-clause-apart c =
    subst (λ l. AllByRecursion (λ (entry : TermEntry). AreApart entry.addresses l) c.args.maker.now.table) (sym (append-nil c.as_block.result ∙ c.as_block.ensures)) c.requires.apart

pub returns-clause-ok : goal.returns-clause-ok
returns-clause-ok c = put_as c.push_parts.result c.args.maker.now c.push_parts.new.self c.args.term.now _ _ (append-nil c.as_block.result ∙ c.as_block.ensures) c.push_parts.ensures.ok
