use Rattle.std.proofs.Common.{◌≡◌, false, List, sym, ◌∙◌}
use Rattle.gcl_model.specs.Elements.{IsElementFrom}
use Rattle.gcl_model.specs.Texts.{Text}
use Rattle.prefix_places.specs.Places.{PrefixContent}
use Rattle.prefix_leaves.specs.Renaming.{renamed}
use Rattle.prefix_leaves.specs.Prefixes.{is_meant_by_one, tokens_of}
use Rattle.prefix_leaves.proofs.LeafLemmas.{plain_element_from, where_some}
use Rattle.prefix_leaves.proofs.leaves.PrefixLeavesLeaves.element_from.Goals as goal

pub returns-clause-answer : goal.returns-clause-answer
returns-clause-answer g c =
    let text : Text = g.L.Leaves.text c.args.self.now.inner.now in
    let prefixes : List PrefixContent = c.args.self.now.prefixes.now in
    let first : is_meant_by_one prefixes c.args.first.now ≡ false = sym c.is_meant_by_one.ensures ∙ c.if-is_meant_by_one.false in
    let second : is_meant_by_one prefixes c.args.second.now ≡ false = sym c.is_meant_by_one-else-is_meant_by_one.ensures ∙ c.if-is_meant_by_one-2.false in
    where_some c.element_from.result (IsElementFrom text.words c.args.first.now c.args.second.now c.args.k) (IsElementFrom (renamed (tokens_of prefixes) text).words c.args.first.now c.args.second.now c.args.k)
    (plain_element_from text prefixes c.args.first.now c.args.second.now first second c.args.k) c.element_from.ensures.answer
