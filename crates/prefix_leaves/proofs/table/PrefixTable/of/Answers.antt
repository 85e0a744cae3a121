use Rattle.std.proofs.Common.{◌≡◌, ◌∙◌, ap}
use Rattle.std.specs.List.{list_all}
use Rattle.gcl_model.specs.Wide.{is_prefix_term}
use Rattle.prefix_leaves.specs.Prefixes.{tokens_of}
use Rattle.prefix_leaves.specs.Renaming.{are_alone}
use Rattle.prefix_leaves.proofs.table.PrefixTable.of.Goals as goal

pub returns-clause-over : goal.returns-clause-over
returns-clause-over c =
    let tokens : tokens_of c.in_ok-prefixes.prefixes.items ≡ c.args.terms.now = c.in_ok-prefixes.ensures.terms ∙ c.as_slice.ensures.all in
    record {
      terms = ap (list_all is_prefix_term) tokens ∙ c.as_slice.ensures.terms;
      alone = ap are_alone tokens ∙ c.as_slice.ensures.alone;
      exact = c.in_ok-prefixes.ensures.exact;
    }
