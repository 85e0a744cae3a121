use Rattle.std.proofs.Common.{[], ◌∷◌, ◌++◌, length, nat_eq, sym, ap, ◌∙◌, subst}
use Rattle.gcl_model.proofs.Cases.{on_err}
use Rattle.posting_code.specs.Postings.{ArePostings}
use Rattle.shard_build.specs.Met.{with_list}
use Rattle.shard_build.proofs.NameLists.{list_read, list_written, same_written}
use Rattle.shard_build.proofs.lists.push_at.Goals as goal

pub push-requires : goal.push-requires
push-requires c =
    subst (λ l. ArePostings (l ++ c.args.address ∷ [])) (list_read c.args.lists.now.items c.args.number c.index_mut.result.now c.index_mut.ensures.value c.requires.within) c.requires.rising

pub returns-in_err-push-clause-err : goal.returns-in_err-push-clause-err
returns-in_err-push-clause-err c =
    let es = c.args.lists.now.items in
    let e = c.index_mut.result.now in
    on_err _ c.from_residual.result
    (list_written es c.args.number e _ c.index_mut.ensures.value c.requires.within ∙ ap (with_list es c.args.number) c.in_err-push.ensures.err
    ∙ same_written es c.args.number e.1 (list_read es c.args.number e c.index_mut.ensures.value c.requires.within) c.requires.within)

pub returns-clause-ok : goal.returns-clause-ok
returns-clause-ok c =
    let es = c.args.lists.now.items in
    let e = c.index_mut.result.now in
    list_written es c.args.number e _ c.index_mut.ensures.value c.requires.within
    ∙ ap (with_list es c.args.number) (c.in_ok-push.ensures.ok ∙ ap (λ l. l ++ c.args.address ∷ []) (sym (list_read es c.args.number e c.index_mut.ensures.value c.requires.within)))

pub returns-clause-first : goal.returns-clause-first
returns-clause-first c =
    ap (λ n. nat_eq n 0) (c.len-is_first.ensures ∙ ap length (sym (list_read c.args.lists.now.items c.args.number c.index_mut.result.now c.index_mut.ensures.value c.requires.within)))
