use Rattle.std.proofs.Common.{refl, sym, subst, ◌∙◌}
use Rattle.std.proofs.lemmas.Bool.{true≢false}
use Rattle.image_read.specs.Reading.{HasRole}
use Rattle.image_read.specs.Tables.{MayFollow}
use Rattle.image_read.proofs.TermTracking.{text_same}
use Rattle.image_read.proofs.terms.term_in_front.Goals as goal

pub returns-in_err-role-clause-none : goal.returns-in_err-role-clause-none
returns-in_err-role-clause-none c none text role rest is =
    let same = text_same c.args.format c.args.bytes.now c.in_ok-term.term.text.now text c.in_ok-term.term.rest.now rest c.in_ok-term.ensures.some is.text in
    c.in_err-role.ensures.none refl role (subst (λ t. HasRole t role) (sym same.0) is.role)

pub returns-then-not-comes_behind-clause-none : goal.returns-then-not-comes_behind-clause-none
returns-then-not-comes_behind-clause-none c none text role rest is =
    let same = text_same c.args.format c.args.bytes.now c.in_ok-term.term.text.now text c.in_ok-term.term.rest.now rest c.in_ok-term.ensures.some is.text in
    true≢false (sym (c.comes_behind.ensures.1 (subst (MayFollow _) (sym same.0) is.follows)) ∙ c.if-not-comes_behind.true)
