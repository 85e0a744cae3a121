use Rattle.std.proofs.Common.{◌≡◌, ◌++◌, sym, ap, ◌∙◌, subst}
use Rattle.std.specs.List.{AllByRecursion}
use Rattle.gcl_model.proofs.Lists.{all_append}
use Rattle.delete_mask.specs.Parts.{IsInhabited}
use Rattle.delete_mask.proofs.PartLemmas.{put_between}
use Rattle.delete_mask.proofs.parts.in_parts.Goals as goal

pub returns-clause-value : goal.returns-clause-value
returns-clause-value c =
    let before = c.args.before.now in
    let first : c.put_shares.new.into.items ≡ before = c.in_ok-put_shares.ensures ∙ ap (λ l. l ++ before) c.in_ok-made.ensures.items in
    put_between before c.args.behind.now c.put_shares.new.into.items c.put_cut.new.into.items c.put_shares-2.new.into.items c.args.ranges.now first c.in_ok-put_cut.ensures.value c.in_ok-put_shares-2.ensures

pub returns-clause-inhabited : goal.returns-clause-inhabited
returns-clause-inhabited c = λ has_before has_behind.
    let before = c.args.before.now in
    let first : c.put_shares.new.into.items ≡ before = c.in_ok-put_shares.ensures ∙ ap (λ l. l ++ before) c.in_ok-made.ensures.items in
    subst (AllByRecursion IsInhabited) (sym c.in_ok-put_shares-2.ensures)
    (all_append IsInhabited c.put_cut.new.into.items c.args.behind.now (c.in_ok-put_cut.ensures.inhabited (subst (AllByRecursion IsInhabited) (sym first) has_before)) has_behind)
