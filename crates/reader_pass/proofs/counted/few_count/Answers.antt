use Rattle.std.proofs.Common.{◌≡◌, List, length, map, sym, ap, subst, ◌∙◌}
use Rattle.std.specs.Option.{IfSome}
use Rattle.gcl_model.specs.Forms.{Form, one}
use Rattle.gcl_model.specs.FormOf.{form_of, forms_from}
use Rattle.gcl_model.specs.Meaning.{concordance}
use Rattle.gcl_model.specs.declared.expr.Expr.{Expr}
use Rattle.gcl_model.proofs.FormLemmas.{form_of-One}
use Rattle.live_version.specs.Contents.{version_text}
use Rattle.reader_pass.proofs.counted.few_count.Goals as goal

pub returns-else-len-gt-FEW : goal.returns-else-len-gt-FEW
returns-else-len-gt-FEW c =
    let form = ap (λ (exprs : List Expr). one (forms_from (map form_of exprs))) c.as_slice.ensures.value ∙ sym (form_of-One c.in-One.operands) ∙ sym (ap form_of c.in-One.is) in
    subst (λ (f : Form). IfSome c.count_of_one.result (λ count. count ≡ length (concordance (version_text c.args.version.now) f))) form c.count_of_one.ensures
