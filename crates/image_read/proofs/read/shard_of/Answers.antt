use Rattle.std.proofs.Common.{◌<◌, List, length, IfOk, subst, sym, ap, ◌∙◌}
use Rattle.std.specs.Prelude.{IfSome, IsNone}
use Rattle.std.specs.Option.{is_some}
use Rattle.gcl_model.proofs.Cases.{IfSome-at}
use Rattle.address_space.specs.Runs.{FileEntry}
use Rattle.image_read.specs.Reading.{HasNoTerms, widths}
use Rattle.image_read.specs.Tables.{AreReadTerms, IsRangeOf}
use Rattle.image_read.proofs.Room.{no_room}
use Rattle.image_read.proofs.read.shard_of.Goals as goal

pub returns-in_default-clause-none : goal.returns-in_default-clause-none
returns-in_default-clause-none c none =
    no_room c.args.head.format c.args.head.first c.args.head.next c.args.front.now.files c.args.front.now.rest.now c.as_slice.ensures.run
    (subst (λ fs. length c.args.front.now.rest.now < widths fs) c.as_slice.ensures.value (c.in_ok-places.ensures.none (ap is_some c.in_default.is)))

pub read_terms-requires-clause-range : goal.read_terms-requires-clause-range
read_terms-requires-clause-range c =
    subst (IsRangeOf c.args.range) (sym (IfSome-at _ _ _ c.in-Some.is c.in_ok-places.ensures.files ∙ c.as_slice.ensures.value)) c.requires.range

pub read_terms-requires-clause-unseen : goal.read_terms-requires-clause-unseen
read_terms-requires-clause-unseen c = IfSome-at _ _ _ c.in-Some.is c.in_ok-places.ensures.seen

pub returns-clause-some : goal.returns-clause-some
returns-clause-some c =
    subst (λ (fs : List FileEntry). IfOk c.read_terms.result (λ found. IfSome found (λ shard. AreReadTerms c.args.head.format c.args.head.first c.args.head.next fs c.args.front.now.rest.now shard.table)))
    (IfSome-at _ _ _ c.in-Some.is c.in_ok-places.ensures.files ∙ c.as_slice.ensures.value) c.read_terms.ensures.some

pub returns-clause-none : goal.returns-clause-none
returns-clause-none c =
    subst (λ (fs : List FileEntry). IfOk c.read_terms.result (λ found. IsNone found → HasNoTerms c.args.head.format c.args.head.first c.args.head.next fs c.args.front.now.rest.now))
    (IfSome-at _ _ _ c.in-Some.is c.in_ok-places.ensures.files ∙ c.as_slice.ensures.value) c.read_terms.ensures.none
