use Rattle.std.proofs.Common.{◌+◌, ◌-◌, Some, sym, subst, arith, ap, ◌∙◌}
use Rattle.image_read.specs.Reading.{IsRankOf, SeenContent}
use Rattle.image_read.proofs.StretchLemmas.{ranked_at}
use Rattle.image_read.proofs.places.Places.rank_of.Goals as goal

pub overflow_add-result : goal.overflow_add-result
overflow_add-result c =
    let token = c.self.invariant.tokens c.args.address c.if-near-address.true c.if-address-near.true in
    let small = (ranked_at c.self.inside.files.now c.self.inside.seen c.args.address _ _ c.self.invariant.marks token.token token.ranked).marked in
    omega (arith, small, c.self.invariant.marks, c.self.invariant.small)

pub returns-then-is_inner-clause-some : goal.returns-then-is_inner-clause-some
returns-then-is_inner-clause-some c =
    let token = c.self.invariant.tokens c.args.address c.if-near-address.true c.if-address-near.true in
    let role = c.is_inner.ensures.0 c.if-is_inner.true in
    subst (λ (s : SeenContent). IsRankOf s.files s.seen c.args.address c.args.role (c.self.inside.near.before + (c.args.address - c.self.inside.near.first))) c.self.view_is
    (ranked_at c.self.inside.files.now c.self.inside.seen c.args.address _ _ c.self.invariant.marks (token.token ∙ ap (λ r. Some r) (sym role)) token.ranked)
