use Rattle.std.proofs.Common.{◌+◌, ◌*◌, ◌≤◌, ◌∷◌, length, take, refl, ap, sym, ◌∙◌, arith}
use Rattle.std.proofs.lemmas.Result.{err_from_is_err_and}
use Rattle.gcl_model.specs.FormOf.{form_of}
use Rattle.gcl_model.specs.Meaning.{concordance}
use Rattle.gcl_model.proofs.Meanings.{concordance_rises}
use Rattle.gcl_eval.specs.Costs.{near_cost}
use Rattle.gcl_eval.specs.Members.{members_from}
use Rattle.gcl_eval.proofs.PageCost.{within_page}
use Rattle.gcl_eval.proofs.CostLemmas.{within_cost}
use Rattle.gcl_eval.proofs.KnownLemmas.{none_is_known}
use Rattle.phrase_walk.proofs.Asked.{one_asked}
use Rattle.gcl_eval.proofs.Listing.{next_member, put_next, put_counted, full, none_left}
use Rattle.gcl_eval.proofs.members.members_of.Goals as goal
use Rattle.gcl_eval.proofs.members.members_of.Goals.{else-loop-page-test, then-loop-page-test+in-Ok-None}

pub loop-page-init : goal.loop-page-init
loop-page-init g c =
    let below = c.requires.below in
    record { kept = rw c.new-members.ensures refl; few = rw c.new-members.ensures (omega arith); below = below; known = none_is_known 64 (g.C.CountedLeaves.text c.args.source.now) (form_of c.args.expr.now); counted = omega arith; cost = rw c.new-members.ensures (omega arith); capped = λ cap caps old. old }

pub loop-page-smaller : goal.loop-page-smaller
loop-page-smaller g c =
    let text = g.C.CountedLeaves.text c.args.source.now in
    let list = concordance text (form_of c.args.expr.now) in
    let next = next_member list (concordance_rises text (form_of c.args.expr.now)) c.loop-page.from c.in-Ok-Some.member (sym (sym c.in-Ok-Some.field-0-is ∙ c.in-Ok-Some.ensures.answer)) in
    let onward = c.next_from-from.ensures.onward text c.loop-page.from c.span-span.ensures.sound (sym c.in-Ok-Some.field-0-is ∙ c.in-Ok-Some.ensures.answer) in
    let fewer = ap length (next ∙ ap (λ l. c.in-Ok-Some.member ∷ l) (sym onward)) in
    omega (arith, fewer)

pub loop-page-preserved : goal.loop-page-preserved
loop-page-preserved g c =
    let text = g.C.CountedLeaves.text c.args.source.now in
    let list = concordance text (form_of c.args.expr.now) in
    let onward = c.next_from-from.ensures.onward text c.loop-page.from c.span-span.ensures.sound (sym c.in-Ok-Some.field-0-is ∙ c.in-Ok-Some.ensures.answer) in
    let next = next_member list (concordance_rises text (form_of c.args.expr.now)) c.loop-page.from c.in-Ok-Some.member (sym (sym c.in-Ok-Some.field-0-is ∙ c.in-Ok-Some.ensures.answer))
    ∙ ap (λ l. c.in-Ok-Some.member ∷ l) (sym onward) in
    let upto = c.next_from-from.ensures.within in
    let put = put_counted c.loop-page.members c.push.new.self c.in-Ok-Some.member c.in_ok-push-in-Ok-Some.ensures.ok in
    let room = c.loop-page-test.true in
    let within = rw c.in-Ok-Some.field-0-is at c.in-Ok-Some.ensures.within in
    record {
      kept = rw c.in_ok-push-in-Ok-Some.ensures.ok (put_next list (members_from list c.args.page.from) c.loop-page.members c.loop-page.from c.loop-page.invariant.kept c.in-Ok-Some.member c.next_from-from.result next);
      few = omega arith;
      below = omega (arith, upto, within);
      known = c.in-Ok-Some.ensures.known;
      counted = omega (arith, c.loop-page.invariant.counted, c.next_member.ensures.counted);
      cost = rw put (one_asked (g.C.CountedLeaves.count c.args.counter.now) (g.C.CountedLeaves.count c.loop-page.counter) (g.C.CountedLeaves.count c.next_member.new.counter) (length c.loop-page.members)
          (near_cost text (g.C.CountedLeaves.most c.args.source.now) (form_of c.args.expr.now)) c.loop-page.invariant.cost c.in-Ok-Some.ensures.cost);
      capped = λ cap caps old. c.next_member.ensures.capped cap caps (c.loop-page.invariant.capped cap caps old);
    }

pub returns-clause-ok : goal.returns-clause-ok
returns-clause-ok g c =
    let list = concordance (g.C.CountedLeaves.text c.args.source.now) (form_of c.args.expr.now) in
    let few = c.loop-page.invariant.few in
    elim c.loop-page-test.branch [
      | else-loop-page-test w ↦ full list (members_from list c.args.page.from) c.loop-page.members c.loop-page.from c.loop-page.invariant.kept c.args.page.most (let done = w.loop-page-test.false in omega arith)
      | then-loop-page-test+in-Ok-None w ↦ none_left list (members_from list c.args.page.from) c.loop-page.members c.loop-page.from c.loop-page.invariant.kept c.args.page.most (sym (sym w.in-Ok-None.field-0-is ∙ w.in-Ok-None.ensures.answer)) few
    ]

pub returns-in_err-push-in-Ok-Some-clause-near_cost : goal.returns-in_err-push-in-Ok-Some-clause-near_cost
returns-in_err-push-in-Ok-Some-clause-near_cost g c =
    let text = g.C.CountedLeaves.text c.args.source.now in
    let most = g.C.CountedLeaves.most c.args.source.now in
    let list = concordance text (form_of c.args.expr.now) in
    let old = g.C.CountedLeaves.count c.args.counter.now in
    let near = near_cost text most (form_of c.args.expr.now) in
    let new = g.C.CountedLeaves.count c.next_member.new.counter in
    let asked = one_asked old (g.C.CountedLeaves.count c.loop-page.counter) new (length c.loop-page.members) near c.loop-page.invariant.cost c.in-Ok-Some.ensures.cost in
    let exit = err_from_is_err_and c.from_residual.result c.from_residual.ensures.1 in
    rw exit.1 (within_page c.loop-page.members (members_from list c.loop-page.from) (members_from list c.args.page.from) c.loop-page.invariant.kept c.args.page.most c.loop-page.invariant.few old new near asked)

pub returns-in_err-push-in-Ok-Some-clause-cost : goal.returns-in_err-push-in-Ok-Some-clause-cost
returns-in_err-push-in-Ok-Some-clause-cost g c =
    let text = g.C.CountedLeaves.text c.args.source.now in
    let most = g.C.CountedLeaves.most c.args.source.now in
    let list = concordance text (form_of c.args.expr.now) in
    let old = g.C.CountedLeaves.count c.args.counter.now in
    let near = near_cost text most (form_of c.args.expr.now) in
    let new = g.C.CountedLeaves.count c.next_member.new.counter in
    let asked = one_asked old (g.C.CountedLeaves.count c.loop-page.counter) new (length c.loop-page.members) near c.loop-page.invariant.cost c.in-Ok-Some.ensures.cost in
    let exit = err_from_is_err_and c.from_residual.result c.from_residual.ensures.1 in
    rw exit.1 (within_cost text most (form_of c.args.expr.now) old new (length (take c.args.page.most (members_from list c.args.page.from)) + 1) (within_page c.loop-page.members (members_from list c.loop-page.from) (members_from list c.args.page.from) c.loop-page.invariant.kept c.args.page.most c.loop-page.invariant.few old new near asked))

pub returns-clause-near_cost : goal.returns-clause-near_cost
returns-clause-near_cost g c =
    let text = g.C.CountedLeaves.text c.args.source.now in
    let most = g.C.CountedLeaves.most c.args.source.now in
    let list = concordance text (form_of c.args.expr.now) in
    let old = g.C.CountedLeaves.count c.args.counter.now in
    let near = near_cost text most (form_of c.args.expr.now) in
    let new = g.C.CountedLeaves.count c.loop-page-test.counter in
    let asked : new ≤ old + (length c.loop-page.members + 1) * near
    = elim c.loop-page-test.branch [
      | else-loop-page-test w ↦ rw w.counter-is (omega (arith, c.loop-page.invariant.cost))
      | then-loop-page-test+in-Ok-None w ↦ rw w.counter-is (one_asked old (g.C.CountedLeaves.count c.loop-page.counter) (g.C.CountedLeaves.count w.next_member.new.counter) (length c.loop-page.members) near c.loop-page.invariant.cost w.in-Ok-None.ensures.cost)
    ] in
    within_page c.loop-page.members (members_from list c.loop-page.from) (members_from list c.args.page.from) c.loop-page.invariant.kept c.args.page.most c.loop-page.invariant.few old new near asked

pub returns-clause-cost : goal.returns-clause-cost
returns-clause-cost g c =
    let text = g.C.CountedLeaves.text c.args.source.now in
    let most = g.C.CountedLeaves.most c.args.source.now in
    let list = concordance text (form_of c.args.expr.now) in
    let old = g.C.CountedLeaves.count c.args.counter.now in
    let near = near_cost text most (form_of c.args.expr.now) in
    let new = g.C.CountedLeaves.count c.loop-page-test.counter in
    let asked : new ≤ old + (length c.loop-page.members + 1) * near
    = elim c.loop-page-test.branch [
      | else-loop-page-test w ↦ rw w.counter-is (omega (arith, c.loop-page.invariant.cost))
      | then-loop-page-test+in-Ok-None w ↦ rw w.counter-is (one_asked old (g.C.CountedLeaves.count c.loop-page.counter) (g.C.CountedLeaves.count w.next_member.new.counter) (length c.loop-page.members) near c.loop-page.invariant.cost w.in-Ok-None.ensures.cost)
    ] in
    within_cost text most (form_of c.args.expr.now) old new (length (take c.args.page.most (members_from list c.args.page.from)) + 1) (within_page c.loop-page.members (members_from list c.loop-page.from) (members_from list c.args.page.from) c.loop-page.invariant.kept c.args.page.most c.loop-page.invariant.few old new near asked)
