use Rattle.std.proofs.Common.{Result, Ok, Err, IfOk, IfErr}
use Rattle.std.specs.Prelude.{slice_range}
use Rattle.gcl_model.specs.Forms.{width}
use Rattle.gcl_parser.specs.declared.fault.QueryKind.{QueryKind}
use Rattle.gcl_parser.specs.declared.state.State.{State}
use Rattle.gcl_model.specs.Tokens.{tokens_of}
use Rattle.gcl_parser.specs.QueryTokens.{prefix_form, quoted_form, terms_of}
use Rattle.gcl_parser.proofs.state.State.pass.Goals as goal

ok_map : (P Q : State → Type 0) (r : Result State QueryKind) → IfOk r P → ((next : State) → P next → Q next) → IfOk r Q
ok_map P Q (Ok next) h f = f next h
ok_map P Q (Err kind) h f = tt

err_map : (P Q : QueryKind → Type 0) (r : Result State QueryKind) → IfErr r P → ((kind : QueryKind) → P kind → Q kind) → IfErr r Q
err_map P Q (Ok next) h f = tt
err_map P Q (Err kind) h f = f kind h

pub returns-in-Quoted-clause-ok : goal.returns-in-Quoted-clause-ok
returns-in-Quoted-clause-ok c =
    ok_map _ _ c.pass_operand.result c.pass_operand.ensures.ok
    (λ next h text. rw c.in-Quoted.is (h (quoted_form (terms_of (slice_range text c.in-Quoted.field-0 c.in-Quoted.field-1)))))

pub returns-in-Quoted-clause-err : goal.returns-in-Quoted-clause-err
returns-in-Quoted-clause-err c =
    err_map _ _ c.pass_operand.result c.pass_operand.ensures.err
    (λ kind h text. rw c.in-Quoted.is (h (quoted_form (terms_of (slice_range text c.in-Quoted.field-0 c.in-Quoted.field-1)))))

pub returns-in-Width-clause-ok : goal.returns-in-Width-clause-ok
returns-in-Width-clause-ok c =
    ok_map _ _ c.pass_operand-in-Width.result c.pass_operand-in-Width.ensures.ok (λ next h text. rw c.in-Width.is (h (width c.in-Width.field-0)))

pub returns-in-Width-clause-err : goal.returns-in-Width-clause-err
returns-in-Width-clause-err c =
    err_map _ _ c.pass_operand-in-Width.result c.pass_operand-in-Width.ensures.err (λ kind h text. rw c.in-Width.is (h (width c.in-Width.field-0)))

pub returns-in-Joint-clause-ok : goal.returns-in-Joint-clause-ok
returns-in-Joint-clause-ok c =
    ok_map _ _ c.pass_operator.result c.pass_operator.ensures.joint_ok (λ next h text. rw c.in-Joint.is (h c.in-Joint.field-0))

pub returns-in-Joint-clause-err : goal.returns-in-Joint-clause-err
returns-in-Joint-clause-err c =
    err_map _ _ c.pass_operator.result c.pass_operator.ensures.joint_err (λ kind h text. rw c.in-Joint.is (h c.in-Joint.field-0))

pub returns-in-Containment-clause-ok : goal.returns-in-Containment-clause-ok
returns-in-Containment-clause-ok c =
    ok_map _ _ c.pass_operator-in-Containment.result c.pass_operator-in-Containment.ensures.containment_ok
    (λ next h text. rw c.in-Containment.is (h c.in-Containment.field-0))

pub returns-in-Containment-clause-err : goal.returns-in-Containment-clause-err
returns-in-Containment-clause-err c =
    err_map _ _ c.pass_operator-in-Containment.result c.pass_operator-in-Containment.ensures.containment_err
    (λ kind h text. rw c.in-Containment.is (h c.in-Containment.field-0))

pub returns-in-Prefix-clause-ok : goal.returns-in-Prefix-clause-ok
returns-in-Prefix-clause-ok c =
    ok_map _ _ c.pass_operand-in-Prefix.result c.pass_operand-in-Prefix.ensures.ok
    (λ next h text. rw c.in-Prefix.is (h (prefix_form (tokens_of (slice_range text c.in-Prefix.field-0 c.in-Prefix.field-1)))))

pub returns-in-Prefix-clause-err : goal.returns-in-Prefix-clause-err
returns-in-Prefix-clause-err c =
    err_map _ _ c.pass_operand-in-Prefix.result c.pass_operand-in-Prefix.ensures.err
    (λ kind h text. rw c.in-Prefix.is (h (prefix_form (tokens_of (slice_range text c.in-Prefix.field-0 c.in-Prefix.field-1)))))
