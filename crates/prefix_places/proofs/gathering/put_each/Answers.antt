use Rattle.std.proofs.Common.{◌+◌, get_or, refl, sym, ap, subst, arith, ◌∙◌}
use Rattle.gcl_model.specs.Slots.{SlotRange}
use Rattle.delete_mask.proofs.MaskLemmas.{dead_range-none, dead_range-dead}
use Rattle.slot_terms.proofs.LivePostings.{IsPut, put_alive, skip_again, skip_range}
use Rattle.prefix_places.proofs.gathering.put_each.Goals as goal
use Rattle.prefix_places.proofs.gathering.put_each.Goals.{then-place-alive_from+in-Some, then-place-alive_from+in-None+in_ok-push-in-None, else-place-alive_from}

pub loop-place-preserved : goal.loop-place-preserved
loop-place-preserved c =
    let mask = c.args.mask.now in
    let members = c.args.all.now in
    let out = c.args.places.now.items in
    let put = c.loop-place.places.items in
    let i = c.loop-place.place-index in
    let from = c.loop-place.alive_from in
    let p = get_or members i 0 in
    elim c.if-place-alive_from.branch [
      | then-place-alive_from+in-Some w ↦
          let found = w.in-Some.ensures.value in
          subst (λ v. IsPut mask members out v.items (i + 1) c.if-place-alive_from.alive_from) (sym w.places-is)
          (subst (IsPut mask members out put (i + 1)) (sym (w.alive_from-is ∙ ap (λ (r : SlotRange). r.last + 1) w.range.view_is))
          (skip_range mask members out put i from p w.in-Some.range c.loop-place-test.true refl c.loop-place.invariant found (dead_range-dead mask p w.in-Some.range (sym found))))
      | then-place-alive_from+in-None+in_ok-push-in-None w ↦
          let none = w.in-None.ensures.value in
          subst (λ v. IsPut mask members out v.items (i + 1) c.if-place-alive_from.alive_from) (sym w.places-is)
          (subst (IsPut mask members out w.push.new.self.items (i + 1)) (sym w.alive_from-is)
          (put_alive mask members out put w.push.new.self.items i from p c.loop-place-test.true refl c.loop-place.invariant none ((dead_range-none mask p).1 (sym none)) w.in_ok-push-in-None.ensures.items))
      | else-place-alive_from w ↦
          subst (λ v. IsPut mask members out v.items (i + 1) c.if-place-alive_from.alive_from) (sym w.places-is)
          (subst (IsPut mask members out put (i + 1)) (sym w.alive_from-is)
          (skip_again mask members out put i from p c.loop-place-test.true refl c.loop-place.invariant (omega (arith, w.if-place-alive_from.false))))
    ]
