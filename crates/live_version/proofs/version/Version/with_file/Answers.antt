use Rattle.std.proofs.Common.{◌+◌, [], ◌∷◌, ◌++◌, sym, ap, ◌∙◌, subst}
use Rattle.gcl_model.specs.Collections.{with_file}
use Rattle.live_version.specs.Contents.{VersionContent, IsVersion, ranges_of}
use Rattle.live_version.specs.Changes.{version_with_file}
use Rattle.address_space.specs.Runs.{range_of}
use Rattle.live_version.specs.StandsFor.{StandsFor}
use Rattle.live_version.proofs.ChangeAdd.{file_added, stands_added, ranges_added}
use Rattle.live_version.proofs.ChangeContents.{content_is}
use Rattle.live_version.proofs.Tails.{settled_alone}
use Rattle.live_version.proofs.version.Version.with_file.Goals as goal

pub of-requires : goal.of-requires
of-requires c =
    let v = c.args.self.now in
    let n = c.numbers-old.result in
    let e = c.numbers-old.ensures in
    let slots = c.in_ok-slots.ensures ∙ ap (λ l. l ++ c.in_ok-slot.slot ∷ []) c.slots.ensures.value ∙ ap (λ s. v.slots ++ s ∷ []) c.in_ok-slot.ensures.value in
    subst IsVersion
    (sym (content_is (version_with_file v c.args.file c.args.shard) (n.number + 1) (n.edition + 1) n.first (n.next + c.file.inside.len) (n.next_id + 1) n.dels c.in_ok-slots.slots.items
    (ap (λ m. m + 1) e.number) (ap (λ m. m + 1) e.edition) e.first (ap (λ m. m + c.file.inside.len) e.next ∙ ap (λ f. v.next + f.len) c.file.view_is) (ap (λ m. m + 1) e.next_id) e.dels slots))
    (file_added v c.args.file c.args.shard e.version c.requires.few c.requires.id c.requires.base c.requires.range c.in_ok-slot.ensures.shard c.in_ok-slot.ensures.placed)

pub returns-clause-stands : goal.returns-clause-stands
returns-clause-stands c = λ c' tokens stands has.
    let v = c.args.self.now in
    let n = c.numbers-old.result in
    let e = c.numbers-old.ensures in
    let slots = c.in_ok-slots.ensures ∙ ap (λ l. l ++ c.in_ok-slot.slot ∷ []) c.slots.ensures.value ∙ ap (λ s. v.slots ++ s ∷ []) c.in_ok-slot.ensures.value in
    subst (λ (version : VersionContent). StandsFor version (with_file c' c.args.file.name tokens))
    (sym (c.of.ensures ∙ (content_is (version_with_file v c.args.file c.args.shard) (n.number + 1) (n.edition + 1) n.first (n.next + c.file.inside.len) (n.next_id + 1) n.dels c.in_ok-slots.slots.items
    (ap (λ m. m + 1) e.number) (ap (λ m. m + 1) e.edition) e.first (ap (λ m. m + c.file.inside.len) e.next ∙ ap (λ f. v.next + f.len) c.file.view_is) (ap (λ m. m + 1) e.next_id) e.dels slots)))
    (stands_added v c.args.file c.args.shard c' tokens c.requires.id c.requires.base stands has.len has.words)

pub returns-clause-settled : goal.returns-clause-settled
returns-clause-settled c =
    let v = c.args.self.now in
    let n = c.numbers-old.result in
    let e = c.numbers-old.ensures in
    let slots = c.in_ok-slots.ensures ∙ ap (λ l. l ++ c.in_ok-slot.slot ∷ []) c.slots.ensures.value ∙ ap (λ s. v.slots ++ s ∷ []) c.in_ok-slot.ensures.value in
    settled_alone (ranges_of v.slots) (range_of c.args.file) (ranges_of c.of.result.slots) (ap (λ (w : VersionContent). ranges_of w.slots) c.of.ensures ∙ ap ranges_of slots ∙ ranges_added v.slots c.args.file c.args.shard)
