use Rattle.std.proofs.Common.{◌+◌, ◌++◌, List, take, drop, sym, ap, ◌∙◌, subst}
use Rattle.std.specs.Option.{option_to_list}
use Rattle.live_version.specs.Contents.{SlotContent, VersionContent, IsVersion}
use Rattle.live_version.specs.Changes.{version_with_slot, IsSameLive, JoinsTail}
use Rattle.live_version.specs.StandsFor.{StandsFor}
use Rattle.live_version.proofs.ChangeSlots.{fresh, slot_placed, same_placed, stands_placed}
use Rattle.live_version.proofs.ChangeContents.{content_is}
use Rattle.live_version.proofs.Tails.{joins_tail}
use Rattle.live_version.proofs.version.Version.with_slot.Goals as goal

pub of-requires : goal.of-requires
of-requires c =
    let v = c.args.self.now in
    let n = c.numbers-old.result in
    let e = c.numbers-old.ensures in
    let before = c.split_at.ensures.front ∙ ap (take c.args.at) c.slots.ensures.value in
    let after = c.split_at-2.ensures.back ∙ ap (drop (c.args.at + c.args.count)) c.slots-2.ensures.value in
    let slots = c.in_ok-slots.ensures.items ∙ ap (λ l. l ++ option_to_list c.args.slot ++ c.split_at-2.result.1.now) before ∙ ap (λ l. take c.args.at v.slots ++ option_to_list c.args.slot ++ l) after in
    subst IsVersion
    (sym (content_is (version_with_slot v c.args.at c.args.count c.args.slot) (n.number + 1) n.edition n.first n.next n.next_id n.dels c.in_ok-slots.slots.items
    (ap (λ m. m + 1) e.number) e.edition e.first e.next e.next_id e.dels slots))
    (slot_placed v c.args.at c.args.count c.args.slot e.version (fresh c.args.slot c.in_ok-slots.ensures.slot c.requires.alive) c.requires.range c.requires.same)

pub returns-clause-live : goal.returns-clause-live
returns-clause-live c =
    let v = c.args.self.now in
    let n = c.numbers-old.result in
    let e = c.numbers-old.ensures in
    let before = c.split_at.ensures.front ∙ ap (take c.args.at) c.slots.ensures.value in
    let after = c.split_at-2.ensures.back ∙ ap (drop (c.args.at + c.args.count)) c.slots-2.ensures.value in
    let slots = c.in_ok-slots.ensures.items ∙ ap (λ l. l ++ option_to_list c.args.slot ++ c.split_at-2.result.1.now) before ∙ ap (λ l. take c.args.at v.slots ++ option_to_list c.args.slot ++ l) after in
    subst (λ (after : List SlotContent). IsSameLive v.slots after) (sym (ap (λ (w : VersionContent). w.slots) c.of.ensures ∙ slots)) (same_placed v.slots c.args.at c.args.count c.args.slot c.requires.same)

pub returns-clause-stands : goal.returns-clause-stands
returns-clause-stands c = λ c' stands.
    let v = c.args.self.now in
    let n = c.numbers-old.result in
    let e = c.numbers-old.ensures in
    let before = c.split_at.ensures.front ∙ ap (take c.args.at) c.slots.ensures.value in
    let after = c.split_at-2.ensures.back ∙ ap (drop (c.args.at + c.args.count)) c.slots-2.ensures.value in
    let slots = c.in_ok-slots.ensures.items ∙ ap (λ l. l ++ option_to_list c.args.slot ++ c.split_at-2.result.1.now) before ∙ ap (λ l. take c.args.at v.slots ++ option_to_list c.args.slot ++ l) after in
    subst (λ (version : VersionContent). StandsFor version c')
    (sym (c.of.ensures ∙ (content_is (version_with_slot v c.args.at c.args.count c.args.slot) (n.number + 1) n.edition n.first n.next n.next_id n.dels c.in_ok-slots.slots.items
    (ap (λ m. m + 1) e.number) e.edition e.first e.next e.next_id e.dels slots)))
    (stands_placed v c.args.at c.args.count c.args.slot c' c.requires.same stands)

pub returns-clause-joined : goal.returns-clause-joined
returns-clause-joined c =
    let v = c.args.self.now in
    let n = c.numbers-old.result in
    let e = c.numbers-old.ensures in
    let before = c.split_at.ensures.front ∙ ap (take c.args.at) c.slots.ensures.value in
    let after = c.split_at-2.ensures.back ∙ ap (drop (c.args.at + c.args.count)) c.slots-2.ensures.value in
    let slots = c.in_ok-slots.ensures.items ∙ ap (λ l. l ++ option_to_list c.args.slot ++ c.split_at-2.result.1.now) before ∙ ap (λ l. take c.args.at v.slots ++ option_to_list c.args.slot ++ l) after in
    subst (λ (after : List SlotContent). JoinsTail v.slots c.args.at c.args.count c.args.slot after) (sym (ap (λ (w : VersionContent). w.slots) c.of.ensures ∙ slots)) (joins_tail v.slots c.args.at c.args.count c.args.slot)
