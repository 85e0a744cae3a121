use Rattle.std.proofs.Common.{[], refl, sym, ap, ◌∙◌}
use Rattle.shard_build.specs.Met.{NamesContent, addresses_of}
use Rattle.shard_build.proofs.SeenRows.{none_found}
use Rattle.shard_build.proofs.names.Names.put_in_order.Goals as goal

pub returns-then-names-gt-MOST_NAMES : goal.returns-then-names-gt-MOST_NAMES
returns-then-names-gt-MOST_NAMES c = λ token.
    ap (λ (n : NamesContent). addresses_of n token) (sym c.self.view_is)
    ∙ none_found c.self.inside.lists.items c.self.inside.seen.items (ap (λ (n : NamesContent). n.seen) c.self.view_is ∙ c.requires) c.self.invariant.names token

pub returns : goal.returns
returns c = λ token. none_found c.sort_names.new.lists.items [] refl c.sort_names.ensures.names token
