use Rattle.std.proofs.Common.{◌+◌, length, drop, ap, ◌∙◌, arith}
use Rattle.std.proofs.lemmas.List.{drop_all}
use Rattle.gcl_model.specs.Texts.{places}
use Rattle.gcl_model.proofs.Lists.{drop_here}
use Rattle.live_version.specs.Contents.{live_of, version_text}
use Rattle.live_version.proofs.WordLemmas.{version_is_text}
use Rattle.live_version.proofs.CountLemmas.{places_more, few_places}
use Rattle.live_version.proofs.MemberLemmas.{term_count}
use Rattle.live_version.proofs.version.Version.count_of_term.Goals as goal

pub overflow_add-count : goal.overflow_add-count
overflow_add-count c =
    let slots = c.slots-slots.result.now in
    let i = c.loop-slot.slot-index in
    let token = c.args.token.now in
    let here = ap (λ ss. length (places (live_of ss) token)) (drop_here slots i c.slot-item.result c.loop-slot-test.true c.slot-item.is) ∙ places_more c.slot-item.result (drop (i + 1) slots) token in
    let all = c.loop-slot.invariant in
    let one = c.count_of_term-count.ensures in
    let few = few_places c.args.self.now token c.slots-slots.ensures.version in
    let same = ap (λ ss. length (places (live_of ss) token)) c.slots-slots.ensures.value in
    omega (arith, here, all, one, few, same)

pub loop-slot-preserved : goal.loop-slot-preserved
loop-slot-preserved c =
    let slots = c.slots-slots.result.now in
    let i = c.loop-slot.slot-index in
    let token = c.args.token.now in
    let here = ap (λ ss. length (places (live_of ss) token)) (drop_here slots i c.slot-item.result c.loop-slot-test.true c.slot-item.is) ∙ places_more c.slot-item.result (drop (i + 1) slots) token in
    let all = c.loop-slot.invariant in
    let one = c.count_of_term-count.ensures in
    omega (arith, here, all, one)

pub returns-clause-members : goal.returns-clause-members
returns-clause-members c =
    let slots = c.slots-slots.result.now in
    let token = c.args.token.now in
    let none = ap (λ ss. length (places (live_of ss) token)) (drop_all c.loop-slot.slot-index slots c.loop-slot-test.false) in
    let all = c.loop-slot.invariant in
    let same = ap (λ ss. length (places (live_of ss) token)) c.slots-slots.ensures.value in
    let members = term_count (version_text c.args.self.now) token (version_is_text c.args.self.now c.slots-slots.ensures.version) in
    omega (arith, none, all, same, members)
