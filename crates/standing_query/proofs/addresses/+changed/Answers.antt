use Rattle.std.proofs.Common.{rules, ◌-◌, ◌<◌, ◌∙◌, length, ap, arith}
use Rattle.gcl_locality.specs.Changed.{changed_from, changed_upto}
use Rattle.gcl_model.specs.FormOf.{form_of}
use Rattle.live_version.specs.Contents.{version_text}
use Rattle.standing_query.proofs.WalkLemmas.{expansions_length, expansion_at, well_formed_at, size_at, looks_into, reaches_from, reaches_upto}
use Rattle.standing_query.proofs.addresses.+changed.Goals as goal

pub all_changed-bounds-old_exprs-left : goal.all_changed-bounds-old_exprs-left
all_changed-bounds-old_exprs-left g t c =
    let same = expansions_length (version_text c.args.old.now) c.args.exprs.now c.args.old_exprs.now c.requires.old_are in
    omega (arith, same, c.loop-left.invariant.few, c.loop-left-test.true)

pub all_changed-bounds-new_exprs-left : goal.all_changed-bounds-new_exprs-left
all_changed-bounds-new_exprs-left g t c =
    let same = expansions_length (version_text c.args.new.now) c.args.exprs.now c.args.new_exprs.now c.requires.new_are in
    omega (arith, same, c.loop-left.invariant.few, c.loop-left-test.true)

pub all_changed-changed_addresses-one-requires : goal.all_changed-changed_addresses-one-requires
all_changed-changed_addresses-one-requires g t c =
    let within : c.loop-left.left - 1 < length c.args.exprs.now = omega (arith, c.loop-left.invariant.few, c.loop-left-test.true) in
    let well = well_formed_at (c.loop-left.left - 1) c.args.exprs.now c.index-exprs-left.result c.requires.well_formed within c.index-exprs-left.is in
    let old = expansion_at (version_text c.args.old.now) (c.loop-left.left - 1) c.args.exprs.now c.args.old_exprs.now c.index-exprs-left.result c.index-old_exprs-left.result c.requires.old_are within c.index-exprs-left.is c.index-old_exprs-left.is in
    let new = expansion_at (version_text c.args.new.now) (c.loop-left.left - 1) c.args.exprs.now c.args.new_exprs.now c.index-exprs-left.result c.index-new_exprs-left.result c.requires.new_are within c.index-exprs-left.is c.index-new_exprs-left.is in
    let depth = size_at (c.loop-left.left - 1) c.args.exprs.now c.index-exprs-left.result within c.index-exprs-left.is in
    search rules

pub changed_addresses-returns-in-ContainedIn-clause-low : goal.changed_addresses-returns-in-ContainedIn-clause-low
changed_addresses-returns-in-ContainedIn-clause-low g t c =
    reaches_from c.expansions_are_wide.ensures (form_of c.args.expr.now) (form_of c.in-ContainedIn.a.value) (form_of c.in-ContainedIn.b.value) (looks_into c.args.expr.now c.in-ContainedIn.a c.in-ContainedIn.b c.in-ContainedIn.is)
    (version_text c.args.old.now) (version_text c.args.new.now) (form_of c.args.old_expr.now) (form_of c.args.new_expr.now)
    (form_of c.second_operand-old_second.result.now) (form_of c.second_operand-new_second.result.now) c.requires.old_is c.requires.new_is c.second_operand-old_second.ensures c.second_operand-new_second.ensures
    c.args.edited.first c.changed_addresses-first.result.low c.changed_addresses-second.result.low c.reached-over_old.result.low c.reached.result.low
    (c.changed_addresses-first.ensures.low ∙ ap (λ e. changed_from (version_text c.args.old.now) (version_text c.args.new.now) c.args.edited.first (form_of e)) c.deref.ensures) (c.changed_addresses-second.ensures.low ∙ ap (λ e. changed_from (version_text c.args.old.now) (version_text c.args.new.now) c.args.edited.first (form_of e)) c.deref-in-ContainedIn.ensures) c.reached-over_old.ensures.low c.reached.ensures.low

pub changed_addresses-returns-in-ContainedIn-clause-high : goal.changed_addresses-returns-in-ContainedIn-clause-high
changed_addresses-returns-in-ContainedIn-clause-high g t c =
    reaches_upto c.expansions_are_wide.ensures (form_of c.args.expr.now) (form_of c.in-ContainedIn.a.value) (form_of c.in-ContainedIn.b.value) (looks_into c.args.expr.now c.in-ContainedIn.a c.in-ContainedIn.b c.in-ContainedIn.is)
    (version_text c.args.old.now) (version_text c.args.new.now) (form_of c.args.old_expr.now) (form_of c.args.new_expr.now)
    (form_of c.second_operand-old_second.result.now) (form_of c.second_operand-new_second.result.now) c.requires.old_is c.requires.new_is c.second_operand-old_second.ensures c.second_operand-new_second.ensures
    c.args.edited.last c.changed_addresses-first.result.high c.changed_addresses-second.result.high c.reached-over_old.result.high c.reached.result.high
    (c.changed_addresses-first.ensures.high ∙ ap (λ e. changed_upto (version_text c.args.old.now) (version_text c.args.new.now) c.args.edited.last (form_of e)) c.deref.ensures) (c.changed_addresses-second.ensures.high ∙ ap (λ e. changed_upto (version_text c.args.old.now) (version_text c.args.new.now) c.args.edited.last (form_of e)) c.deref-in-ContainedIn.ensures) c.reached-over_old.ensures.high c.reached.ensures.high
