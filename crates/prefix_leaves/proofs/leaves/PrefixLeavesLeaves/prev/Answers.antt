use Rattle.std.proofs.Common.{◌≡◌, true, false, leb, List, [], None, refl, rules, sym, ap, ◌∙◌}
use Rattle.gcl_model.specs.Access.{find_last}
use Rattle.gcl_model.specs.Texts.{Text}
use Rattle.prefix_places.specs.Places.{PrefixContent}
use Rattle.prefix_leaves.specs.Prefixes.{is_meant_by_one, places_among, tokens_of}
use Rattle.prefix_leaves.proofs.LeafLemmas.{meant_places, plain_places}
use Rattle.prefix_leaves.proofs.Renamed.{renamed_is_text}
use Rattle.prefix_leaves.proofs.leaves.PrefixLeavesLeaves.prev.Goals as goal

pub returns-then-not-is_meant_by_one-clause-answer : goal.returns-then-not-is_meant_by_one-clause-answer
returns-then-not-is_meant_by_one-clause-answer g c =
    let text : Text = g.L.Leaves.text c.args.self.now.inner.now in
    let prefixes : List PrefixContent = c.args.self.now.prefixes.now in
    let plain : is_meant_by_one prefixes c.args.term.now ≡ false = sym c.is_meant_by_one.ensures ∙ c.if-not-is_meant_by_one.true in
    c.prev.ensures.answer ∙ ap (find_last (λ p. leb p c.args.k)) (plain_places text prefixes c.args.term.now plain)

pub returns-then-not-is_meant_by_one-clause-sound : goal.returns-then-not-is_meant_by_one-clause-sound
returns-then-not-is_meant_by_one-clause-sound g c = renamed_is_text (tokens_of c.args.self.now.prefixes.now) (g.L.Leaves.text c.args.self.now.inner.now) c.span-span.ensures.sound

pub returns-in_err-prefix-clause-answer : goal.returns-in_err-prefix-clause-answer
returns-in_err-prefix-clause-answer g c =
    let text : Text = g.L.Leaves.text c.args.self.now.inner.now in
    let prefixes : List PrefixContent = c.args.self.now.prefixes.now in
    let meant : is_meant_by_one prefixes c.args.term.now ≡ true = sym c.is_meant_by_one.ensures ∙ c.if-not-is_meant_by_one.false in
    let none : places_among prefixes c.args.term.now ≡ [] = c.in_err-prefix.ensures.none refl in
    let result : c.from_residual.result ≡ None = search rules in
    result ∙ ap (find_last (λ p. leb p c.args.k)) (sym none ∙ meant_places text prefixes c.args.term.now c.args.self.now.exact meant)

pub returns-in_err-prefix-clause-sound : goal.returns-in_err-prefix-clause-sound
returns-in_err-prefix-clause-sound g c = renamed_is_text (tokens_of c.args.self.now.prefixes.now) (g.L.Leaves.text c.args.self.now.inner.now) c.span-span.ensures.sound

pub returns-clause-answer : goal.returns-clause-answer
returns-clause-answer g c =
    let text : Text = g.L.Leaves.text c.args.self.now.inner.now in
    let prefixes : List PrefixContent = c.args.self.now.prefixes.now in
    let meant : is_meant_by_one prefixes c.args.term.now ≡ true = sym c.is_meant_by_one.ensures ∙ c.if-not-is_meant_by_one.false in
    c.prev-2.ensures ∙ ap (find_last (λ p. leb p c.args.k)) (c.in_ok-prefix.ensures.some ∙ meant_places text prefixes c.args.term.now c.args.self.now.exact meant)

pub returns-clause-sound : goal.returns-clause-sound
returns-clause-sound g c = renamed_is_text (tokens_of c.args.self.now.prefixes.now) (g.L.Leaves.text c.args.self.now.inner.now) c.span-span.ensures.sound
