use Rattle.std.proofs.Common.{◌≡◌, [], ◌∷◌, drop, IfSome, subst, sym, ap, ◌∙◌, arith, length-drop}
use Rattle.script_lang.specs.Lines.{lines}
use Rattle.script_lang.specs.Feeds.{Feed, has_newline, line_taken}
use Rattle.script_lang.proofs.FeedLemmas.{finish-told}
use Rattle.script_lang.proofs.feed.LineFeed.finish.Goals as goal

pub returns-clause-line : goal.returns-clause-line
returns-clause-line c =
    let held = drop c.self.inside.at c.self.inside.bytes.items in
    let same : c.rest-line.result.now ≡ held = c.rest-line.ensures ∙ ap (λ (feed : Feed). feed.held) (sym c.self.view_is) in
    subst (λ (feed : Feed). IfSome (line_taken c.in_ok-taken.taken) (λ line. lines feed.most feed.held ≡ line ∷ [])) c.self.view_is
    (finish-told (line_taken c.in_ok-taken.taken) c.self.inside.most held c.rest-line.result.now same (ap (λ feed. has_newline feed.held) c.self.view_is ∙ c.requires)
    (omega (arith, length-drop c.self.inside.at c.self.inside.bytes.items)) c.in_ok-taken.ensures.line)
