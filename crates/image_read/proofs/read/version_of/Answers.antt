use Rattle.std.proofs.Common.{◌≡◌, ◌≤◌, ◌<◌, List, [], ◌∷◌, map, IfOk, Some, refl, sym, subst, ap, ◌∙◌}
use Rattle.std.specs.Prelude.{IfSome, IsNone}
use Rattle.std.specs.Option.{is_some}
use Rattle.std.specs.List.{AllByRecursion}
use Rattle.gcl_model.specs.Slots.{ranges_spanned}
use Rattle.address_space.specs.Runs.{FileEntry, range_of}
use Rattle.live_version.specs.Changes.{opened}
use Rattle.live_version.specs.Contents.{SlotContent}
use Rattle.image_read.specs.Reading.{HasNoTerms}
use Rattle.image_read.specs.Tables.{IsReadFrom}
use Rattle.image_read.proofs.Opened.{slot_read, span_within, words_owned}
use Rattle.image_read.proofs.Spans.{all_small}
use Rattle.image_read.proofs.read.version_of.Goals as goal
use Rattle.gcl_model.proofs.Cases.{IfSome-at}

-- files that span no range are none
no_range : (files : List FileEntry) → [] ≡ ranges_spanned (map range_of files) → files ≡ []
no_range [] span = refl
no_range (file ∷ files) span = absurd cc

pub returns-in_default-clause-some : goal.returns-in_default-clause-some
returns-in_default-clause-some c =
    subst (λ (fs : List FileEntry). IfOk c.empty_version.result (λ found. IfSome found (λ v. IsReadFrom c.args.head.format c.args.head.first c.args.head.next c.args.head.next_id fs c.args.front.rest.now v)))
    (sym (no_range c.args.front.files c.in_default.ensures.spanned)) c.empty_version.ensures.some

pub returns-in_default-clause-none : goal.returns-in_default-clause-none
returns-in_default-clause-none c =
    subst (λ (fs : List FileEntry). IfOk c.empty_version.result (λ found. IsNone found → HasNoTerms c.args.head.format c.args.head.first c.args.head.next fs c.args.front.rest.now))
    (sym (no_range c.args.front.files c.in_default.ensures.spanned)) c.empty_version.ensures.none

pub returns-in_default-2-clause-none : goal.returns-in_default-2-clause-none
returns-in_default-2-clause-none c = λ none. c.in_ok-shard.ensures.none (ap is_some c.in_default-2.is)

pub new-requires-clause-indexed : goal.new-requires-clause-indexed
new-requires-clause-indexed c = IfSome-at _ _ _ c.in-Some-2.is c.in_ok-shard.ensures.range

pub new-requires-clause-files : goal.new-requires-clause-files
new-requires-clause-files c = c.in-Some.ensures.some

pub of_slot-requires-clause-alive : goal.of_slot-requires-clause-alive
of_slot-requires-clause-alive c = ap (λ (s : SlotContent). s.mask) c.in_ok-slot.ensures.value

pub new-requires-clause-owned : goal.new-requires-clause-owned
new-requires-clause-owned c =
    words_owned c.args.head.format c.args.head.first c.args.head.next c.args.front.files c.args.front.rest.now c.in-Some-2.shard (IfSome-at _ _ _ c.in-Some-2.is c.in_ok-shard.ensures.some)

pub of_slot-requires-clause-low : goal.of_slot-requires-clause-low
of_slot-requires-clause-low c =
    subst (λ (s : SlotContent). c.args.head.first ≤ s.range.first) (sym c.in_ok-slot.ensures.value)
    (span_within c.args.head.first c.args.head.next c.args.head.next_id c.args.front.files c.in-Some.range c.requires.in_range c.requires.files c.in-Some.ensures.spanned).low

pub of_slot-requires-clause-high : goal.of_slot-requires-clause-high
of_slot-requires-clause-high c =
    subst (λ (s : SlotContent). s.range.last < c.args.head.next) (sym c.in_ok-slot.ensures.value)
    (span_within c.args.head.first c.args.head.next c.args.head.next_id c.args.front.files c.in-Some.range c.requires.in_range c.requires.files c.in-Some.ensures.spanned).high

pub of_slot-requires-clause-ids : goal.of_slot-requires-clause-ids
of_slot-requires-clause-ids c =
    subst (λ (s : SlotContent). AllByRecursion (λ (f : FileEntry). f.id < c.args.head.next_id) s.files) (sym c.in_ok-slot.ensures.value)
    (all_small c.args.head.next c.args.head.next_id 0 c.args.head.first c.args.front.files c.requires.files)

pub returns-clause-some : goal.returns-clause-some
returns-clause-some c =
    slot_read c.args.head.format c.args.head.first c.args.head.next c.args.head.next_id c.args.front.files c.args.front.rest.now c.in-Some.range c.in-Some-2.shard c.in_ok-version.version
    (IfSome-at _ _ _ c.in-Some-2.is c.in_ok-shard.ensures.some) (IfSome-at _ _ _ c.in-Some-2.is c.in_ok-shard.ensures.shard) (IfSome-at _ _ _ c.in-Some-2.is c.in_ok-shard.ensures.range) c.in-Some.ensures.spanned
    (c.in_ok-version.ensures.value ∙ ap (λ s. opened c.args.head.first c.args.head.next c.args.head.next_id (Some s)) c.in_ok-slot.ensures.value)
