use Rattle.std.proofs.Common.{◌++◌, List, sym, ap, ◌∙◌, subst}
use Rattle.std.specs.Option.{option_to_list}
use Rattle.live_version.specs.Contents.{SlotContent, IsVersion, version_content}
use Rattle.live_version.proofs.ChangeAdd.{opened_is}
use Rattle.live_version.proofs.version.Version.of_slot.Goals as goal

pub of-requires : goal.of-requires
of-requires c =
    let items = c.in_ok-push_option.ensures.ok ∙ ap (λ l. l ++ option_to_list c.args.slot) c.new-slots.ensures.items in
    subst (λ n. IsVersion (version_content n.number n.edition n.first n.next n.next_id n.dels c.push_option.new.into.items)) (sym c.opening.ensures)
    (subst (λ (slots : List SlotContent). IsVersion (version_content 0 0 c.args.first c.args.next c.args.next_id 0 slots)) (sym items)
    (opened_is c.args.first c.args.next c.args.next_id c.args.slot c.requires.ordered c.requires.in_range c.push_option.ensures.slot c.push_option.ensures.run c.requires.low c.requires.high c.requires.ids c.requires.alive))
