use Rattle.std.proofs.Common.{ap, ◌∙◌, ◌+◌, ◌<◌, arith}
use Rattle.gcl_model.specs.Extents.{Extent}
use Rattle.gcl_model.specs.FormOf.{form_of}
use Rattle.gcl_model.specs.Meaning.{concordance}
use Rattle.gcl_model.proofs.Meanings.{concordance_rises}
use Rattle.gcl_eval.specs.Members.{members_from}
use Rattle.gcl_eval.proofs.Overlaps.{from_end}
use Rattle.gcl_eval.proofs.apart.next_from.Goals as goal

pub returns-then-are_apart-clause-onward : goal.returns-then-are_apart-clause-onward
returns-then-are_apart-clause-onward c = λ text k sound found.
    let list = concordance text (form_of c.args.expr.now) in
    let starts = ap (λ (a : Extent). a.start) c.member.view_is in
    let ends = ap (λ (a : Extent). a.end) c.member.view_is in
    let before = c.if-member.true in
    let proper : c.args.member.start < c.args.member.end = omega (arith, starts, ends, before) in
    ap (members_from list) ends ∙ from_end list (concordance_rises text (form_of c.args.expr.now)) (c.are_apart.ensures c.if-are_apart.true text sound) k c.args.member found proper

pub returns-clause-onward : goal.returns-clause-onward
returns-clause-onward c = λ text k sound found.
    ap (λ (a : Extent). members_from (concordance text (form_of c.args.expr.now)) (a.start + 1)) c.member.view_is
