use Rattle.std.proofs.Common.{◌≡◌, length, refl, ap, ◌∙◌, arith}
use Rattle.std.specs.Prelude.{nat_lt}
use Rattle.script_lang.specs.Lines.{line_end}
use Rattle.script_lang.specs.Feeds.{Feed, has_newline}
use Rattle.script_lang.proofs.FeedLemmas.{has_line-told}
use Rattle.script_lang.proofs.feed.LineFeed.has_line.Goals as goal

pub returns : goal.returns
returns c =
    let i = c.self.inside in
    let same : c.len.result ≡ length i.bytes.items = omega arith in
    ap (nat_lt c.line_end.result) same ∙ has_line-told _ i.bytes.items i.at i.seen c.line_end.result c.self.invariant.begins c.self.invariant.within c.self.invariant.same_end (c.line_end.ensures.value ∙ ap (λ bytes. line_end bytes i.seen) c.as_slice.ensures.value) (omega arith) refl
    ∙ ap (λ (feed : Feed). has_newline feed.held) c.self.view_is
