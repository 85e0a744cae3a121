use Rattle.std.proofs.Common.{◌<◌, ◌∙◌, ap, sym, arith}
use Rattle.gcl_model.specs.FormOf.{form_of}
use Rattle.gcl_model.specs.Limits.{address_end}
use Rattle.live_version.specs.Contents.{version_text}
use Rattle.standing_query.specs.inner.Sides.{access_cost, first_of}
use Rattle.standing_query.proofs.SideLemmas.{first_within, behind_leaves, behind_costs}
use Rattle.standing_query.proofs.side.Side.pass.Goals as goal

pub overflow_add-self : goal.overflow_add-self
overflow_add-self c =
    let within : c.args.member.start < address_end = first_within (version_text c.self.inside.version.now) (form_of c.self.inside.expr.now) c.self.invariant.sound c.self.inside.high c.self.inside.head c.args.member (c.requires ∙ ap (λ s. first_of s.left) (sym c.self.view_is)) in
    let same = ap (λ a. a.start) c.member.view_is in
    omega (arith, within, same)

pub invariant_of-self : goal.invariant_of-self
invariant_of-self c =
    let within : c.args.member.start < address_end = first_within (version_text c.self.inside.version.now) (form_of c.self.inside.expr.now) c.self.invariant.sound c.self.inside.high c.self.inside.head c.args.member (c.requires ∙ ap (λ s. first_of s.left) (sym c.self.view_is)) in
    let same = ap (λ a. a.start) c.member.view_is in
    record { well_formed = c.self.invariant.well_formed; sound = c.self.invariant.sound; stands = omega (arith, within, same) }

pub returns-clause-left : goal.returns-clause-left
returns-clause-left c =
    ap (λ s. s.left) (sym c.self.view_is)
    ∙ behind_leaves (version_text c.self.inside.version.now) (form_of c.self.inside.expr.now) c.self.invariant.sound c.self.inside.high c.self.inside.head c.args.member (c.requires ∙ ap (λ s. first_of s.left) (sym c.self.view_is)) c.member.inside.start (ap (λ a. a.start) c.member.view_is)

pub returns-clause-look_ups : goal.returns-clause-look_ups
returns-clause-look_ups c =
    let same = ap (λ s. s.look_ups) c.self.view_is in
    let less = behind_costs (version_text c.self.inside.version.now) (form_of c.self.inside.expr.now) c.self.invariant.sound c.self.inside.high c.self.inside.head c.args.member (c.requires ∙ ap (λ s. first_of s.left) (sym c.self.view_is)) c.member.inside.start (access_cost c.self.inside.version.now (form_of c.self.inside.expr.now)) (ap (λ a. a.start) c.member.view_is) in
    omega (arith, same, less)
