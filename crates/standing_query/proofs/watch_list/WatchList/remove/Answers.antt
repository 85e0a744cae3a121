use Rattle.std.proofs.Common.{rules, ◌≡◌, not, ◌==◌, ap, subst, sym, arith}
use Rattle.std.specs.List.{filter}
use Rattle.std.proofs.lemmas.Fn.{filter_same}
use Rattle.gcl_model.specs.FormOf.{form_of}
use Rattle.gcl_model.specs.WellFormed.{IsWellFormed}
use Rattle.gcl_model.proofs.Lists.{all_kept}
use Rattle.standing_query.specs.Watches.{watch_list, AreWellFormedWatches}
use Rattle.standing_query.proofs.WatchLemmas.{RiseWithin-filter, length-kept}
use Rattle.standing_query.proofs.watch_list.WatchList.remove.Goals as goal

pub invariant_of-self : goal.invariant_of-self
invariant_of-self c =
    let left : c.retain.new.self.items ≡ filter (λ w. not (w.id == c.args.id)) c.self.inside.watches.items = filter_same _ (λ w. not (w.id == c.args.id)) _ (λ x b f' k. search rules) _ _ c.retain.ensures.filtered in
    rw left (record {
      rising = RiseWithin-filter (λ w. not (w.id == c.args.id)) 0 c.self.inside.next c.self.inside.watches.items c.self.invariant.rising;
      few = omega (arith, length-kept (λ w. not (w.id == c.args.id)) c.self.inside.watches.items, c.self.invariant.few);
      in_range = c.self.invariant.in_range;
    })

pub returns-clause-ok : goal.returns-clause-ok
returns-clause-ok c =
    let left : c.retain.new.self.items ≡ filter (λ w. not (w.id == c.args.id)) c.self.inside.watches.items = filter_same _ (λ w. not (w.id == c.args.id)) _ (λ x b f' k. search rules) _ _ c.retain.ensures.filtered in
    rw (← c.self.view_is) (ap (λ live. watch_list live c.self.inside.next) left)

pub returns-clause-well_formed : goal.returns-clause-well_formed
returns-clause-well_formed c well_formed =
    let left : c.retain.new.self.items ≡ filter (λ w. not (w.id == c.args.id)) c.self.inside.watches.items = filter_same _ (λ w. not (w.id == c.args.id)) _ (λ x b f' k. search rules) _ _ c.retain.ensures.filtered in
    rw left (all_kept (λ w. IsWellFormed (form_of w.expr)) (λ w. not (w.id == c.args.id)) c.self.inside.watches.items (subst (λ list. AreWellFormedWatches list.live) (sym c.self.view_is) well_formed))
