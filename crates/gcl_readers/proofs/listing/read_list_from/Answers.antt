use Rattle.std.proofs.Common.{◌≡◌, ◌∷◌, length, Some, ap, sym, ◌∙◌, subst, arith}
use Rattle.gcl_model.specs.FormOf.{form_of}
use Rattle.gcl_model.specs.Meaning.{concordance}
use Rattle.gcl_model.specs.Access.{first_start}
use Rattle.gcl_model.proofs.Meanings.{concordance_rises}
use Rattle.gcl_eval.specs.Members.{members_from}
use Rattle.gcl_eval.proofs.Listing.{next_member, put_next, put_counted, full, none_left}
use Rattle.gcl_readers.specs.Standing.{left_to, start_at}
use Rattle.gcl_readers.specs.Reading.{behind_page}
use Rattle.gcl_readers.proofs.Members.{rises_from}
use Rattle.gcl_readers.proofs.Standings.{within_left}
use Rattle.gcl_readers.proofs.ListingLemmas.{agree_behind, starts_first, behind_put}
use Rattle.gcl_readers.proofs.listing.read_list_from.Goals as goal
use Rattle.gcl_readers.proofs.listing.read_list_from.Goals.{else-loop-readers-test, then-loop-readers-test+in_default}

pub behind-from-requires : goal.behind-from-requires
behind-from-requires g c =
    let within = within_left (g.L.Leaves.text c.args.leaves.now) (form_of c.args.expr.now) c.span-span.ensures.sound (start_at c.loop-readers.readers) c.loop-readers.from (Some c.in-Some.member) c.in-Some.ensures.answer in
    omega arith

pub loop-readers-smaller : goal.loop-readers-smaller
loop-readers-smaller g c =
    let text = g.L.Leaves.text c.args.leaves.now in
    let list = left_to text (form_of c.args.expr.now) c.args.readers.now in
    let found : first_start list c.loop-readers.from ≡ Some c.in-Some.member = sym (c.in-Some.ensures.answer ∙ c.loop-readers.invariant.agree) in
    let fewer = ap length (next_member list (rises_from (concordance text (form_of c.args.expr.now)) (start_at c.args.readers.now) (concordance_rises text (form_of c.args.expr.now))) c.loop-readers.from c.in-Some.member found) in
    let onward = ap (λ n. length (members_from list n)) c.behind-from.ensures in
    omega (arith, fewer, onward)

pub loop-readers-preserved : goal.loop-readers-preserved
loop-readers-preserved g c =
    let text = g.L.Leaves.text c.args.leaves.now in
    let form = form_of c.args.expr.now in
    let list = left_to text form c.args.readers.now in
    let found : first_start list c.loop-readers.from ≡ Some c.in-Some.member = sym (c.in-Some.ensures.answer ∙ c.loop-readers.invariant.agree) in
    let next = next_member list (rises_from (concordance text form) (start_at c.args.readers.now) (concordance_rises text form)) c.loop-readers.from c.in-Some.member found
    ∙ ap (λ n. c.in-Some.member ∷ members_from list n) (sym c.behind-from.ensures) in
    let within = within_left text form c.span-span.ensures.sound (start_at c.loop-readers.readers) c.loop-readers.from (Some c.in-Some.member) c.in-Some.ensures.answer in
    let proper = starts_first text form c.in-Some.member (start_at c.loop-readers.readers) c.loop-readers.from c.in-Some.ensures.answer in
    let put = put_counted c.loop-readers.members c.push.new.self c.in-Some.member c.in_ok-push.ensures.ok in
    let room = c.loop-readers-test.true in
    let size = c.len.ensures in
    let onward = c.in-Some.ensures.left in
    record {
      stands = c.next.ensures.stands;
      kept = rw c.in_ok-push.ensures.ok (put_next list (members_from list c.args.k) c.loop-readers.members c.loop-readers.from c.loop-readers.invariant.kept c.in-Some.member c.behind-from.result next);
      few = omega arith;
      below = omega (arith, c.behind-from.ensures);
      counted = omega (arith, c.loop-readers.invariant.counted, c.next.ensures.counted);
      cost = omega (arith, c.loop-readers.invariant.cost, c.next.ensures.cost);
      agree = subst (λ n. first_start (left_to text form c.next.new.self) n ≡ first_start list n) (sym c.behind-from.ensures)
          (agree_behind (concordance text form) (start_at c.args.readers.now) (start_at c.next.new.self) c.loop-readers.from c.in-Some.member found c.in-Some.ensures.left);
      left = λ _. omega (arith, onward, c.behind-from.ensures);
      from = c.behind-from.ensures ∙ sym (behind_put c.args.k c.loop-readers.members c.in-Some.member) ∙ ap (behind_page c.args.k) (sym c.in_ok-push.ensures.ok);
    }

pub returns-clause-ok : goal.returns-clause-ok
returns-clause-ok g c =
    let text = g.L.Leaves.text c.args.leaves.now in
    let list = left_to text (form_of c.args.expr.now) c.args.readers.now in
    let few = c.loop-readers.invariant.few in
    let size = c.len.ensures in
    elim c.loop-readers-test.branch [
      | else-loop-readers-test w ↦ full list (members_from list c.args.k) c.loop-readers.members c.loop-readers.from c.loop-readers.invariant.kept c.args.most (let done = w.loop-readers-test.false in omega arith)
      | then-loop-readers-test+in_default w ↦ none_left list (members_from list c.args.k) c.loop-readers.members c.loop-readers.from c.loop-readers.invariant.kept c.args.most (sym c.loop-readers.invariant.agree ∙ sym w.next.ensures.answer ∙ w.in_default.is) few
    ]
