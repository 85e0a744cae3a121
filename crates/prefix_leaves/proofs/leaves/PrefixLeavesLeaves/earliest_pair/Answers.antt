use Rattle.std.proofs.Common.{◌≡◌, ◌+◌, false, List, sym, ◌∙◌}
use Rattle.gcl_model.specs.Texts.{Text}
use Rattle.gcl_model.proofs.Pairs.{no_pair_yet}
use Rattle.prefix_places.specs.Places.{PrefixContent}
use Rattle.prefix_leaves.specs.Renaming.{renamed}
use Rattle.prefix_leaves.specs.Prefixes.{is_meant_by_one, tokens_of}
use Rattle.prefix_leaves.proofs.LeafLemmas.{plain_pairs, plain_first, plain_second}
use Rattle.prefix_leaves.proofs.leaves.PrefixLeavesLeaves.earliest_pair.Goals as goal

pub returns-then-is_meant_by_one-clause-none : goal.returns-then-is_meant_by_one-clause-none
returns-then-is_meant_by_one-clause-none g c =
    no_pair_yet (renamed (tokens_of c.args.self.now.prefixes.now) (g.L.Leaves.text c.args.self.now.inner.now)).words c.args.first.now c.args.second.now c.args.k

pub returns-clause-none : goal.returns-clause-none
returns-clause-none g c =
    let text : Text = g.L.Leaves.text c.args.self.now.inner.now in
    let prefixes : List PrefixContent = c.args.self.now.prefixes.now in
    let first : is_meant_by_one prefixes c.args.first.now ≡ false = sym c.is_meant_by_one.ensures ∙ c.if-is_meant_by_one.false in
    let second : is_meant_by_one prefixes c.args.second.now ≡ false = sym c.is_meant_by_one-else-is_meant_by_one.ensures ∙ c.if-is_meant_by_one-2.false in
    sym (plain_pairs text prefixes c.args.first.now c.args.second.now first second c.args.k c.earliest_pair.result.at) ∙ c.earliest_pair.ensures.none

pub returns-clause-found : goal.returns-clause-found
returns-clause-found g c = λ found.
    let text : Text = g.L.Leaves.text c.args.self.now.inner.now in
    let prefixes : List PrefixContent = c.args.self.now.prefixes.now in
    let first : is_meant_by_one prefixes c.args.first.now ≡ false = sym c.is_meant_by_one.ensures ∙ c.if-is_meant_by_one.false in
    let second : is_meant_by_one prefixes c.args.second.now ≡ false = sym c.is_meant_by_one-else-is_meant_by_one.ensures ∙ c.if-is_meant_by_one-2.false in
    let both = c.earliest_pair.ensures.found found in (
      plain_first text prefixes c.args.first.now c.args.second.now first second c.earliest_pair.result.at both.0,
      plain_second text prefixes c.args.first.now c.args.second.now first second (c.earliest_pair.result.at + 1) both.1,
    )
