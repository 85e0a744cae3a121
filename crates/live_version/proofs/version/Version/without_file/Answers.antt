use Rattle.std.proofs.Common.{◌+◌, List, sym, ap, ◌∙◌, subst}
use Rattle.gcl_model.specs.Collections.{without_file}
use Rattle.live_version.specs.Contents.{SlotContent, VersionContent, IsVersion, ranges_of}
use Rattle.live_version.specs.Changes.{version_without_file, KillsFile}
use Rattle.live_version.specs.StandsFor.{StandsFor}
use Rattle.live_version.proofs.ChangeDelete.{some_deleted, stands_some_deleted, ranges_of_after, kills}
use Rattle.live_version.proofs.ChangeContents.{content_is}
use Rattle.live_version.proofs.version.Version.without_file.Goals as goal

pub of-requires : goal.of-requires
of-requires c =
    let v = c.args.self.now in
    let n = c.numbers-old.result in
    let e = c.numbers-old.ensures in
    subst IsVersion
    (sym (content_is (version_without_file v c.args.id.0) (n.number + 1) (n.edition + 1) n.first n.next n.next_id (n.dels + 1) c.in_ok-slots.slots.items
    (ap (λ m. m + 1) e.number) (ap (λ m. m + 1) e.edition) e.first e.next e.next_id (ap (λ m. m + 1) e.dels) c.in_ok-slots.ensures))
    (some_deleted v c.args.id.0 e.version c.requires.survives)

pub returns-clause-stands : goal.returns-clause-stands
returns-clause-stands c = λ c' stands.
    let v = c.args.self.now in
    let n = c.numbers-old.result in
    let e = c.numbers-old.ensures in
    subst (λ (version : VersionContent). StandsFor version (without_file c' c.args.id.0))
    (sym (c.of.ensures ∙ (content_is (version_without_file v c.args.id.0) (n.number + 1) (n.edition + 1) n.first n.next n.next_id (n.dels + 1) c.in_ok-slots.slots.items
    (ap (λ m. m + 1) e.number) (ap (λ m. m + 1) e.edition) e.first e.next e.next_id (ap (λ m. m + 1) e.dels) c.in_ok-slots.ensures)))
    (stands_some_deleted v c.args.id.0 c' e.version c.requires.survives stands)

pub returns-clause-ranges : goal.returns-clause-ranges
returns-clause-ranges c =
    ap (λ (w : VersionContent). ranges_of w.slots) c.of.ensures ∙ ap ranges_of c.in_ok-slots.ensures ∙ ranges_of_after c.args.id.0 c.args.self.now.slots

pub returns-clause-dead : goal.returns-clause-dead
returns-clause-dead c =
    let v = c.args.self.now in
    let e = c.numbers-old.ensures in
    subst (λ (slots : List SlotContent). KillsFile v.slots c.args.id.0 slots) (sym (ap (λ (w : VersionContent). w.slots) c.of.ensures ∙ c.in_ok-slots.ensures))
    (kills c.args.id.0 v.slots e.version.slots e.version.run)
