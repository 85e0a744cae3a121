use Rattle.std.proofs.Common.{Some, None, sym, ap, ◌∙◌, ◌≡◌, ◌≤◌, ◌<◌, subst, arith, rules}
use Rattle.gcl_model.specs.Extents.{Extent, extent}
use Rattle.gcl_model.specs.Limits.{address_end}
use Rattle.gcl_model.specs.Forms.{term}
use Rattle.gcl_model.specs.Meaning.{concordance}
use Rattle.gcl_model.specs.Access.{first_start}
use Rattle.gcl_model.proofs.Meanings.{concordance_rises}
use Rattle.gcl_model.proofs.Places.{last_end-term_found}
use Rattle.gcl_readers.specs.declared.front.Front.TheVariants.{On}
use Rattle.gcl_readers.specs.Fronts.{start_left}
use Rattle.gcl_readers.specs.Standing.{Stands, start_at, with_front}
use Rattle.gcl_readers.specs.MergeCost.{cost_left}
use Rattle.gcl_readers.proofs.CostLemmas.{back_cost}
use Rattle.gcl_readers.proofs.Members.{no_last_left, last_left, last_gone, last_member, first_itself}
use Rattle.gcl_readers.proofs.Standings.{restand, within_text, some_place}
use Rattle.gcl_readers.proofs.reading.term_back.Goals as goal

pub returns-in_err-address-clause-answer : goal.returns-in_err-address-clause-answer
returns-in_err-address-clause-answer g c =
    let text = g.C.CountedLeaves.text c.args.source.now in
    let none = last_end-term_found text c.args.token.now c.as_slice.result.now c.args.k None c.in_err-address.ensures.sound c.as_slice.ensures c.in_err-address.ensures.answer in
    let r = sym (no_last_left (concordance text (term c.args.token.now)) (concordance_rises text (term c.args.token.now)) (start_at c.args.places.now) c.args.k (sym none)) in
    search rules

pub returns-then-address-start_left-clause-answer : goal.returns-then-address-start_left-clause-answer
returns-then-address-start_left-clause-answer g c =
    let text = g.C.CountedLeaves.text c.args.source.now in
    let found = last_end-term_found text c.args.token.now c.as_slice.result.now c.args.k (Some c.in_ok-address.address) c.in_ok-address.ensures.sound c.as_slice.ensures c.in_ok-address.ensures.answer in
    let from : c.start_left.result ≡ start_at c.args.places.now = c.start_left.ensures ∙ ap start_left c.front_of.ensures in
    let lt : c.in_ok-address.address < start_at c.args.places.now = omega arith in
    sym (last_gone (concordance text (term c.args.token.now)) (concordance_rises text (term c.args.token.now)) (start_at c.args.places.now) c.args.k (extent c.in_ok-address.address c.in_ok-address.address) (sym found) lt)

pub returns-clause-answer : goal.returns-clause-answer
returns-clause-answer g c =
    let text = g.C.CountedLeaves.text c.args.source.now in
    let found = last_end-term_found text c.args.token.now c.as_slice.result.now c.args.k (Some c.in_ok-address.address) c.in_ok-address.ensures.sound c.as_slice.ensures c.in_ok-address.ensures.answer in
    let from : c.start_left.result ≡ start_at c.args.places.now = c.start_left.ensures ∙ ap start_left c.front_of.ensures in
    let le : start_at c.args.places.now ≤ c.in_ok-address.address = omega arith in
    ap Some c.new-member.ensures
    ∙ sym (last_left (concordance text (term c.args.token.now)) (concordance_rises text (term c.args.token.now)) (start_at c.args.places.now) c.args.k (extent c.in_ok-address.address c.in_ok-address.address) (sym found) le)

pub returns-clause-within : goal.returns-clause-within
returns-clause-within g c =
    let text = g.C.CountedLeaves.text c.args.source.now in
    let found = last_end-term_found text c.args.token.now c.as_slice.result.now c.args.k (Some c.in_ok-address.address) c.in_ok-address.ensures.sound c.as_slice.ensures c.in_ok-address.ensures.answer in
    let member = last_member (concordance text (term c.args.token.now)) c.args.k (extent c.in_ok-address.address c.in_ok-address.address) (sym found) in
    subst (λ (a : Extent). a.end < address_end) (sym c.new-member.ensures) (within_text text (term c.args.token.now) (extent c.in_ok-address.address c.in_ok-address.address) c.in_ok-address.ensures.sound member)

pub returns-clause-stands : goal.returns-clause-stands
returns-clause-stands g c =
    let text = g.C.CountedLeaves.text c.args.source.now in
    let list = concordance text (term c.args.token.now) in
    let found = last_end-term_found text c.args.token.now c.as_slice.result.now c.args.k (Some c.in_ok-address.address) c.in_ok-address.ensures.sound c.as_slice.ensures c.in_ok-address.ensures.answer in
    let member = last_member list c.args.k (extent c.in_ok-address.address c.in_ok-address.address) (sym found) in
    let first : first_start list c.new-member.result.start ≡ Some c.new-member.result
    = subst (λ (a : Extent). first_start list a.start ≡ Some a) (sym c.new-member.ensures) (first_itself list (concordance_rises text (term c.args.token.now)) (extent c.in_ok-address.address c.in_ok-address.address) member) in
    subst (Stands text (term c.args.token.now)) (sym c.put_front.ensures) (restand text (term c.args.token.now) c.args.places.now (On c.new-member.result) c.requires.stands first tt)

pub returns-clause-cost : goal.returns-clause-cost
returns-clause-cost g c =
    let text = g.C.CountedLeaves.text c.args.source.now in
    let most = g.C.CountedLeaves.most c.args.source.now in
    let list = concordance text (term c.args.token.now) in
    let found = last_end-term_found text c.args.token.now c.as_slice.result.now c.args.k (Some c.in_ok-address.address) c.in_ok-address.ensures.sound c.as_slice.ensures c.in_ok-address.ensures.answer in
    let member = last_member list c.args.k (extent c.in_ok-address.address c.in_ok-address.address) (sym found) in
    let from : c.start_left.result ≡ start_at c.args.places.now = c.start_left.ensures ∙ ap start_left c.front_of.ensures in
    let le : start_at c.args.places.now ≤ c.in_ok-address.address = omega arith in
    let within : c.in_ok-address.address < address_end = within_text text (term c.args.token.now) (extent c.in_ok-address.address c.in_ok-address.address) c.in_ok-address.ensures.sound member in
    let some = some_place text (term c.args.token.now) c.args.places.now (Unit {0}) c.requires.stands in
    let put : c.put_front.new.places ≡ with_front c.args.places.now (On (extent c.in_ok-address.address c.in_ok-address.address)) = c.put_front.ensures ∙ ap (λ (m : Extent). with_front c.args.places.now (On m)) c.new-member.ensures in
    let left = back_cost text most c.args.token.now c.args.places.now (extent c.in_ok-address.address c.in_ok-address.address) some member c.requires.stands.front le within in
    omega (arith, ap (cost_left text most (term c.args.token.now)) put, left, c.in_ok-address.ensures.cost)
