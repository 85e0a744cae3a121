use Rattle.std.proofs.Common.{◌≡◌, List, [], ◌∷◌, Some, length, Option, IfSome, sym, ap, ◌∙◌, subst}
use mathlib.Core.List.{IsPrefix}
use Rattle.live_version.specs.Changes.{IsSameLive, slots_at, whole_range}
use Rattle.live_version.specs.Contents.{SlotContent, VersionContent, IsVersion, ranges_of}
use Rattle.manifest_publish.specs.Accounts.{Account}
use Rattle.manifest_publish.proofs.Prefixes.{prefix_trans}
use Rattle.collection.specs.Engines.{published}
use Rattle.shared_edit.specs.declared.plan.SlotName.{SlotName}
use Rattle.shared_edit.specs.Plans.{MergesFirst}
use Rattle.shared_edit.specs.Settling.{AreInPlace, HasSeenAll}
use Rattle.shared_edit.proofs.PlanFits.{plan-fits}
use Rattle.shared_edit.proofs.settle.settle_in.Goals as goal
use Rattle.shared_edit.proofs.settle.settle_in.Given as given

fits : (g : given.Over) (c : goal.After-into_slot g) → MergesFirst c.args.engine.now.version.slots (length c.args.plan.names) c.args.plan.slot
fits g c =
    let e = c.args.engine.now in
    let v = c.version.result.now in
    let got = subst (λ (o : Option Account). IfSome o (λ pass. (pass ≡ published e) × HasSeenAll e c.enter_last.new.reader × IsPrefix c.args.reader.now.seen e.history)) c.in-Some.is c.in_ok-seen.ensures.some in
    let in-place : AreInPlace c.args.plan.names e.version.slots =
    subst (λ (ns : List SlotName). AreInPlace ns e.version.slots) c.all_names.ensures.names
    (subst (λ (ss : List SlotContent). AreInPlace c.all_names.result.now ss) (c.slots.ensures.value ∙ ap (λ (u : VersionContent). u.slots) c.version.ensures.value) c.in_default-first_stale.ensures.none) in
    plan-fits c.args.plan e.history e.version c.names-count.ensures.plan c.version.ensures.engine.ends (subst IsVersion c.version.ensures.value c.slots.ensures.version)
    (prefix_trans c.args.plan.list c.args.reader.now.seen e.history c.requires.plan got.2) in-place

pub put_merged-requires-clause-same : goal.put_merged-requires-clause-same
put_merged-requires-clause-same g c =
    let slots = c.args.engine.now.version.slots in
    subst (λ n. IsSameLive (slots_at 0 n slots) (c.into_slot.result ∷ [])) (sym c.names-count.ensures.names)
    (subst (λ (s : SlotContent). IsSameLive (slots_at 0 (length c.args.plan.names) slots) (s ∷ [])) (sym c.into_slot.ensures) (fits g c).same)

pub put_merged-requires-clause-range : goal.put_merged-requires-clause-range
put_merged-requires-clause-range g c =
    let slots = c.args.engine.now.version.slots in
    subst (λ n. whole_range (ranges_of (slots_at 0 n slots)) ≡ Some c.into_slot.result.range) (sym c.names-count.ensures.names)
    ((fits g c).range ∙ ap (λ (s : SlotContent). Some s.range) (sym c.into_slot.ensures))
