use Rattle.std.proofs.Common.{◌≡◌, false, rules, sym}
use Rattle.gcl_model.specs.FormOf.{form_of}
use Rattle.live_version.specs.Contents.{version_text}
use Rattle.wide_terms.specs.Expansion.{has_prefix_term}
use Rattle.query_search.proofs.expansion.expanded.Goals as goal

pub returns-then-not-has_prefix_terms-clause-wide : goal.returns-then-not-has_prefix_terms-clause-wide
returns-then-not-has_prefix_terms-clause-wide c =
    let none : has_prefix_term (form_of c.args.expr.value) ≡ false = search rules in
    sym (c.others_stay.ensures (version_text c.args.version.now) (form_of c.args.expr.value) none).1
