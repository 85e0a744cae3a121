use Rattle.std.proofs.Common.{sym, ◌∙◌, take, length, bytes_eq}
use Rattle.std.proofs.lemmas.Slice.Eq.{bytes_eq-Decides}
use Rattle.gcl_model.proofs.Minimal.{same_truth}
use Rattle.prefix_terms.proofs.rows.begins_with.Goals as goal

pub returns : goal.returns
returns c =
    let front = take (length c.args.prefix.now) c.args.term.now in
    let prefix = c.args.prefix.now in
    c.starts_with.ensures.value
    ∙ same_truth (bytes_eq prefix front) (bytes_eq front prefix)
    (λ e. (bytes_eq-Decides front prefix).1 (sym ((bytes_eq-Decides prefix front).0 e)))
    (λ e. (bytes_eq-Decides prefix front).1 (sym ((bytes_eq-Decides front prefix).0 e)))
