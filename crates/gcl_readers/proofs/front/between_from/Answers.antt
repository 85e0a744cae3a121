use Rattle.std.proofs.Common.{sym, ap, subst, arith, ◌∙◌, ◌≤◌, ◌<◌}
use Rattle.gcl_model.specs.Extents.{Extent}
use Rattle.gcl_readers.specs.declared.front.Front.TheVariants.{Between, End}
use Rattle.gcl_readers.specs.Fronts.{IsTold}
use Rattle.gcl_readers.proofs.FrontLemmas.{told_between, told_last, told_some}
use Rattle.gcl_readers.proofs.front.between_from.Goals as goal

pub returns-then-k-member-clause-told : goal.returns-then-k-member-clause-told
returns-then-k-member-clause-told c =
    let starts = ap (λ (x : Extent). x.start) c.member.view_is in
    let le : c.args.k ≤ c.args.member.start = omega (arith, starts, c.if-k-member.true) in
    λ list r bounded f. told_between list r bounded c.args.k c.args.member c.args.next f le

pub returns-in-None-clause-told : goal.returns-in-None-clause-told
returns-in-None-clause-told c =
    let starts = ap (λ (x : Extent). x.start) c.member.view_is in
    let lt : c.args.member.start < c.args.k = omega (arith, starts, c.if-k-member.false) in
    λ list r bounded f.
    subst (λ n. IsTold list (Between c.args.member n) c.args.k End) (sym c.in-None.is)
    (told_last list r bounded c.args.k c.args.member (f.0, f.1 ∙ c.in-None.is) lt)

pub returns-in-Some-clause-told : goal.returns-in-Some-clause-told
returns-in-Some-clause-told c =
    let starts = ap (λ (x : Extent). x.start) c.member.view_is in
    let lt : c.args.member.start < c.args.k = omega (arith, starts, c.if-k-member.false) in
    told_some c.args.member c.args.next c.in-Some.next c.args.k c.in-Some.is lt c.on_from.result c.on_from.ensures.some
