use Rattle.std.proofs.Common.{◌≡◌, length, Some, None, ap, sym, ◌∙◌, subst, arith}
use Rattle.gcl_model.specs.FormOf.{form_of}
use Rattle.gcl_model.specs.Meaning.{concordance}
use Rattle.gcl_model.specs.Access.{first_start}
use Rattle.gcl_model.proofs.Meanings.{concordance_rises}
use Rattle.gcl_eval.specs.Members.{members_from}
use Rattle.gcl_eval.proofs.Listing.{next_member, no_member, from_le}
use Rattle.gcl_readers.specs.Standing.{left_to, start_at}
use Rattle.gcl_readers.proofs.Members.{rises_from}
use Rattle.gcl_readers.proofs.Standings.{within_left}
use Rattle.gcl_readers.proofs.ListingLemmas.{agree_behind, starts_first}
use Rattle.gcl_readers.proofs.listing.read_count.Goals as goal

pub behind-from-requires : goal.behind-from-requires
behind-from-requires g c =
    let within = within_left (g.L.Leaves.text c.args.leaves.now) (form_of c.args.expr.now) c.span-span.ensures.sound (start_at c.loop-member.readers) c.loop-member.from (Some c.in-Some.member) c.in-Some.ensures.answer in
    omega arith

pub loop-member-smaller : goal.loop-member-smaller
loop-member-smaller g c =
    let text = g.L.Leaves.text c.args.leaves.now in
    let list = left_to text (form_of c.args.expr.now) c.args.readers.now in
    let found : first_start list c.loop-member.from ≡ Some c.in-Some.member = sym (c.in-Some.ensures.answer ∙ c.loop-member.invariant.agree) in
    let fewer = ap length (next_member list (rises_from (concordance text (form_of c.args.expr.now)) (start_at c.args.readers.now) (concordance_rises text (form_of c.args.expr.now))) c.loop-member.from c.in-Some.member found) in
    let onward = ap (λ n. length (members_from list n)) c.behind-from.ensures in
    omega (arith, fewer, onward)

pub loop-member-preserved : goal.loop-member-preserved
loop-member-preserved g c =
    let text = g.L.Leaves.text c.args.leaves.now in
    let form = form_of c.args.expr.now in
    let list = left_to text form c.args.readers.now in
    let found : first_start list c.loop-member.from ≡ Some c.in-Some.member = sym (c.in-Some.ensures.answer ∙ c.loop-member.invariant.agree) in
    let fewer = ap length (next_member list (rises_from (concordance text form) (start_at c.args.readers.now) (concordance_rises text form)) c.loop-member.from c.in-Some.member found) in
    let onward = ap (λ n. length (members_from list n)) c.behind-from.ensures in
    let from = from_le list c.loop-member.from c.in-Some.member found in
    let within = within_left text form c.span-span.ensures.sound (start_at c.loop-member.readers) c.loop-member.from (Some c.in-Some.member) c.in-Some.ensures.answer in
    record {
      stands = c.next.ensures.stands;
      kept = omega (arith, fewer, onward, c.loop-member.invariant.kept);
      few = omega (arith, from, c.behind-from.ensures);
      below = omega (arith, within, c.behind-from.ensures, starts_first text form c.in-Some.member (start_at c.loop-member.readers) c.loop-member.from c.in-Some.ensures.answer);
      counted = omega (arith, c.loop-member.invariant.counted, c.next.ensures.counted);
      cost = omega (arith, c.loop-member.invariant.cost, c.next.ensures.cost);
      agree = subst (λ n. first_start (left_to text form c.next.new.self) n ≡ first_start list n) (sym c.behind-from.ensures)
          (agree_behind (concordance text form) (start_at c.args.readers.now) (start_at c.next.new.self) c.loop-member.from c.in-Some.member found c.in-Some.ensures.left);
    }

pub returns-clause-value : goal.returns-clause-value
returns-clause-value g c =
    let text = g.L.Leaves.text c.args.leaves.now in
    let list = left_to text (form_of c.args.expr.now) c.args.readers.now in
    let none : first_start list c.loop-member.from ≡ None = sym c.loop-member.invariant.agree ∙ sym c.next.ensures.answer ∙ c.in_default.is in
    let done = ap length (no_member list c.loop-member.from none) in
    omega (arith, done, c.loop-member.invariant.kept)
