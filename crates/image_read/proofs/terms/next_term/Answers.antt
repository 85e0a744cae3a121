use Rattle.std.proofs.Common.{refl, sym, subst, ap}
use Rattle.std.specs.Option.{is_some}
use Rattle.index_shard.specs.Tables.{ShardContent}
use Rattle.image_read.specs.Tables.{HasNoTerm, HoldsTerms, IsTermFront, PutsTerm}
use Rattle.image_read.proofs.TermTracking.{holds_push, no_next_addresses, no_next_term, read_apart, read_postings, term_put}
use Rattle.image_read.proofs.terms.next_term.Goals as goal
use Rattle.gcl_model.proofs.Cases.{IfSome-at}

pub returns-in_default-clause-none : goal.returns-in_default-clause-none
returns-in_default-clause-none c none =
    no_next_term _ _ _ _ _ _ (subst (λ o. HasNoTerm c.args.head.format o c.args.bytes.now) c.requires.last (c.in_default.ensures.none refl))

pub returns-in_default-2-clause-none : goal.returns-in_default-2-clause-none
returns-in_default-2-clause-none c none =
    let front = subst (λ o. IsTermFront c.args.head.format o c.args.bytes.now c.in-Some.term.text.now c.in-Some.term.role c.in-Some.term.rest.now) c.requires.last c.in-Some.ensures.some in
    no_next_addresses _ _ _ _ _ _ _ _ _ c.requires.holds front (c.in_ok-list.ensures.none (ap is_some c.in_default-2.is))

pub put_list-requires-clause-postings : goal.put_list-requires-clause-postings
put_list-requires-clause-postings c =
    read_postings _ _ _ _ _ _ _ _ _ c.requires.range (IfSome-at _ _ _ c.in-Some-2.is c.in_ok-list.ensures.some)

pub put_list-requires-clause-apart : goal.put_list-requires-clause-apart
put_list-requires-clause-apart c =
    read_apart _ _ _ _ _ _ _ _ _ c.requires.holds (IfSome-at _ _ _ c.in-Some-2.is c.in_ok-list.ensures.some)

pub returns-clause-some : goal.returns-clause-some
returns-clause-some c =
    let front = subst (λ o. IsTermFront c.args.head.format o c.args.bytes.now c.in-Some.term.text.now c.in-Some.term.role c.in-Some.term.rest.now) c.requires.last c.in-Some.ensures.some in
    subst (PutsTerm c.args.head.format c.args.head.first c.args.maker.now.table c.put_list.new.maker.table c.args.bytes.now c.in-Some.term.text.now) (sym c.rest-rest.ensures)
    (term_put _ _ _ _ _ _ _ _ _ _ _ _ front (IfSome-at _ _ _ c.in-Some-2.is c.in_ok-list.ensures.some) (ap (λ (s : ShardContent). s.table) c.in_ok-put_list.ensures.ok))

pub returns-clause-holds : goal.returns-clause-holds
returns-clause-holds c =
    let front = subst (λ o. IsTermFront c.args.head.format o c.args.bytes.now c.in-Some.term.text.now c.in-Some.term.role c.in-Some.term.rest.now) c.requires.last c.in-Some.ensures.some in
    let read = IfSome-at _ _ _ c.in-Some-2.is c.in_ok-list.ensures.some in
    let sees = IfSome-at _ _ _ c.in-Some-2.is c.in_ok-list.ensures.sees in
    subst (HoldsTerms c.args.head.format c.args.head.first c.args.head.next c.read_addresses.new.places) (sym (ap (λ (s : ShardContent). s.table) c.in_ok-put_list.ensures.ok)) (holds_push _ _ _ _ _ _ _ _ _ _ _ _ c.requires.holds front read sees)
