use Rattle.std.proofs.Common.{◌≡◌, ◌+◌, ◌-◌, [], take, drop, subst, ap, ◌∙◌}
use Rattle.std.proofs.lemmas.List.{take_rest}
use Rattle.script_lang.specs.Lines.{ended}
use Rattle.script_lang.specs.Feeds.{Feed}
use Rattle.script_lang.proofs.EndedLemmas.{ended-last, ended-nowhere}
use Rattle.script_lang.proofs.feed.LineFeed.ready_len.Goals as goal

pub returns-in-Some-clause-value : goal.returns-in-Some-clause-value
returns-in-Some-clause-value c =
    let i = c.self.inside in
    let n = i.seen + c.in-Some.last + 1 - i.at in
    subst (λ (feed : Feed). take n feed.held ≡ ended feed.held) c.self.view_is
    (ended-last i.bytes.items _ i.at i.seen c.in-Some.last c.self.invariant.begins (take_rest c.as_slice.result.now i.seen ∙ ap (drop i.seen) c.as_slice.ensures.value) c.in-Some.ensures.0 c.in-Some.ensures.1)

pub returns-in-None-clause-value : goal.returns-in-None-clause-value
returns-in-None-clause-value c =
    let i = c.self.inside in
    subst (λ (feed : Feed). [] ≡ ended feed.held) c.self.view_is
    (ended-nowhere i.bytes.items _ i.at i.seen c.self.invariant.begins c.self.invariant.within c.self.invariant.same_end (take_rest c.as_slice.result.now i.seen ∙ ap (drop i.seen) c.as_slice.ensures.value) c.in-None.ensures)
