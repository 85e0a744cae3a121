use Rattle.std.proofs.Common.{◌≡◌, ◌≤◌, ltb, Some, None, sym, ap, ◌∙◌, subst, refl}
use Rattle.std.specs.List.{prefix_len}
use Rattle.gcl_model.specs.Slots.{SlotRange}
use Rattle.delete_mask.proofs.Halving.{is_clear_is_apart}
use Rattle.delete_mask.proofs.mask.Mask.is_apart.Goals as goal

pub returns-in-Some : goal.returns-in-Some
returns-in-Some c =
    let some : c.args.range.first ≤ c.args.range.last = subst (λ (r : SlotRange). r.first ≤ r.last) c.range.view_is c.range.invariant.0 in
    let count : c.count_before.result ≡ prefix_len (λ (r : SlotRange). ltb r.last c.args.range.first) c.args.self.now =
    c.count_before.ensures.count ∙ ap (λ (r : SlotRange). prefix_len (λ (other : SlotRange). ltb other.last r.first) c.args.self.now) c.range.view_is in
    let clear = is_clear_is_apart c.args.self.now c.args.range c.count_before.result (Some c.in-Some.dead) c.count_before.ensures.apart some count c.in-Some.ensures in
    let same : ltb c.range.inside.last c.dead.inside.first ≡ ltb c.args.range.last c.in-Some.dead.first =
    ap (λ (r : SlotRange). ltb r.last c.dead.inside.first) c.range.view_is ∙ ap (λ (r : SlotRange). ltb c.args.range.last r.first) c.dead.view_is in
    (λ is. clear.0 (sym same ∙ is), λ apart. same ∙ clear.1 apart)

pub returns-in-None : goal.returns-in-None
returns-in-None c =
    let some : c.args.range.first ≤ c.args.range.last = subst (λ (r : SlotRange). r.first ≤ r.last) c.range.view_is c.range.invariant.0 in
    let count : c.count_before.result ≡ prefix_len (λ (r : SlotRange). ltb r.last c.args.range.first) c.args.self.now =
    c.count_before.ensures.count ∙ ap (λ (r : SlotRange). prefix_len (λ (other : SlotRange). ltb other.last r.first) c.args.self.now) c.range.view_is in
    let clear = is_clear_is_apart c.args.self.now c.args.range c.count_before.result None c.count_before.ensures.apart some count c.in-None.ensures in
    (λ is. clear.0 refl, λ apart. refl)
