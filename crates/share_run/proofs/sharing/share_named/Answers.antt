use Rattle.std.proofs.Common.{◌≡◌, length, ap, ◌∙◌, sym, subst, arith, rules}
use Rattle.shared_edit.specs.Editors.{new_editors}
use Rattle.share_run.specs.Work.{HaveEdited}
use Rattle.share_run.proofs.SideLemmas.{share-edited, share-kept}
use Rattle.share_run.proofs.WorkLemmas.{edited-sums, new_length, sums-same}
use Rattle.share_run.proofs.sharing.share_named.Goals as goal
use Rattle.share_run.proofs.sharing.share_named.Given as given

-- before the work there are as many editors as were asked for
pub close-requires-clause-some : goal.close-requires-clause-some
close-requires-clause-some g c = omega (arith, ap length c.requires.editors, new_length c.args.options.now.editors, c.requires.limits.editors_least)

pub close-requires-clause-all : goal.close-requires-clause-all
close-requires-clause-all g c =
    let n : length c.args.opened.editors.items ≡ c.args.options.now.editors = ap length c.requires.editors ∙ new_length c.args.options.now.editors in
    (n ∙ c.requires.parts.0, n ∙ c.requires.parts.1, n ∙ c.requires.parts.2)

-- and after it
pub gather-done-requires-clause-room : goal.gather-done-requires-clause-room
gather-done-requires-clause-room g c =
    let len : c.deal.new.sides.len ≡ length c.deal.new.sides.items = search rules in
    let kept = share-kept c.args.options.now.editors c.args.options.now.count c.deal.new.sides.len c.deal.new.sides.items c.as_mut_slice.result.now c.work_all.new.sides
    c.as_mut_slice.ensures.value len c.work_all.ensures.count c.work_all.ensures.worked (c.deal.ensures.sides ∙ c.requires.editors) in
    omega (arith, kept, c.deal.ensures.room, ap length c.requires.editors, new_length c.args.options.now.editors)

gathered : (g : given.Over) (c : goal.After-gather-done g) → length c.gather-done.new.editors.items ≡ c.args.options.now.editors
gathered g c =
    let len : c.deal.new.sides.len ≡ length c.deal.new.sides.items = search rules in
    ap length c.gather-done.ensures.editors ∙ share-kept c.args.options.now.editors c.args.options.now.count c.deal.new.sides.len c.deal.new.sides.items c.as_mut_slice.result.now c.work_all.new.sides
    c.as_mut_slice.ensures.value len c.work_all.ensures.count c.work_all.ensures.worked (c.deal.ensures.sides ∙ c.requires.editors)

pub close-requires-2-clause-some : goal.close-requires-2-clause-some
close-requires-2-clause-some g c = omega (arith, gathered g c, c.requires.limits.editors_least)

pub close-requires-2-clause-all : goal.close-requires-2-clause-all
close-requires-2-clause-all g c =
    let n = gathered g c in
    (n ∙ c.requires.parts.0, n ∙ c.requires.parts.1, n ∙ c.requires.parts.2)

pub returns-clause-sums : goal.returns-clause-sums
returns-clause-sums g c = λ done.
    let n = c.args.options.now.editors in
    let files = c.args.options.now.count in
    let len : c.deal.new.sides.len ≡ length c.deal.new.sides.items = search rules in
    let edited = share-edited n files c.deal.new.sides.len c.deal.new.sides.items c.as_mut_slice.result.now c.work_all.new.sides
    c.as_mut_slice.ensures.value len c.work_all.ensures.count c.work_all.ensures.worked (c.deal.ensures.sides ∙ c.requires.editors) (sym c.gather-done.ensures.done ∙ done) in
    let all : HaveEdited n files (new_editors n) c.gather-done.new.editors.items = subst (HaveEdited n files (new_editors n)) (sym c.gather-done.ensures.editors) edited in
    sums-same files n _ _ _ _ _ _ c.close-2.ensures.added c.close-2.ensures.gone c.close-2.ensures.refused
    (edited-sums n files c.gather-done.new.editors.items (omega (arith, c.requires.limits.editors_least)) all)
