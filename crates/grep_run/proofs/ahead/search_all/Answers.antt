use Rattle.std.proofs.Common.{◌≡◌, ◌∙◌, ap, sym, rules}
use Rattle.grep_run.specs.Requests.{request_of}
use Rattle.grep_run.specs.inner.Works.{AreSound}
use Rattle.grep_run.proofs.AheadLemmas.{all_by_each, sound_after}
use Rattle.grep_run.proofs.ahead.search_all.Goals as goal

pub returns-clause-held : goal.returns-clause-held
returns-clause-held g c = λ told all.
    all_by_each c.args.hands.now c.for_each_mut.new.s (λ hand. g.D.Files.held hand.files ≡ told) (λ hand. g.D.Files.held hand.files ≡ told) (search rules)
    (λ i d below is.
    let at = (c.for_each_mut.ensures i d below).1 in
    sym (ap (λ hand. g.D.Files.held hand.files) at.left) ∙ at.call.0 ∙ ap (λ hand. g.D.Files.held hand.files) at.argument_is ∙ is)
    all

pub returns-clause-sound : goal.returns-clause-sound
returns-clause-sound g c = λ told all.
    all_by_each c.args.hands.now c.for_each_mut.new.s (λ hand. g.D.Files.held hand.files ≡ told) (λ hand. AreSound told (request_of c.args.wish.now) hand.works.items) (search rules)
    (λ i d below is.
    let at = (c.for_each_mut.ensures i d below).1 in
    sound_after (λ hand. g.D.Files.held hand.files) (λ hand. hand.works.items) (request_of c.args.wish.now) told _ _ _ _ at.left at.argument_is is at.call.1)
    all
