use Rattle.gcl_model.specs.Meaning.{any_contains}
use Rattle.plain_text.proofs.Operands.{least_answer}
use Rattle.plain_text.proofs.filters.one_list.Goals as goal

pub returns : goal.returns
returns c =
    least_answer c.args.text.now c.addresses.result.first c.addresses.result.next (any_contains c.args.lists.now) c.in_ok-passing.passing c.as_slice.result.now c.minimal_list.result
    c.addresses.ensures.first c.addresses.ensures.next c.in_ok-passing.ensures c.as_slice.ensures c.minimal_list.ensures
