use Rattle.std.proofs.Common.{◌≡◌, ◌++◌, false, length, take, drop, subst, sym, ap, ◌∙◌, arith}
use Rattle.script_lang.specs.Feeds.{Feed, has_newline, HasShortEnd}
use Rattle.script_lang.proofs.FeedLemmas.{held-pushed, same_end-pushed}
use Rattle.script_lang.proofs.feed.LineFeed.push.Goals as goal

pub kept_len-kept-requires-clause-short : goal.kept_len-kept-requires-clause-short
kept_len-kept-requires-clause-short c =
    let i = c.self.inside in
    let none : has_newline (drop i.at i.bytes.items) ≡ false = ap (λ (feed : Feed). has_newline feed.held) (c.self.view_is ∙ c.move_to_front.ensures) ∙ c.requires in
    omega (arith, c.self.invariant.short_end 0 none, ap length c.rest.ensures, ap (λ (feed : Feed). length feed.held) c.self.view_is)

pub invariant_of-self-2 : goal.invariant_of-self-2
invariant_of-self-2 c =
    let i = c.self.inside in
    let bytes = i.bytes.items in
    let part = take c.kept_len-kept.result c.args.piece.now in
    let none : has_newline (drop i.at bytes) ≡ false = ap (λ (feed : Feed). has_newline feed.held) (c.self.view_is ∙ c.move_to_front.ensures) ∙ c.requires in
    let held : c.rest.result.now ≡ drop i.at bytes = c.rest.ensures ∙ ap (λ (feed : Feed). feed.held) (sym c.self.view_is) in
    let pushed : drop i.at c.extend_from_slice.new.self.items ≡ c.rest.result.now ++ part = held-pushed bytes _ part i.at (omega arith) c.in_ok-extend_from_slice.ensures.items ∙ ap (λ front. front ++ part) (sym held) in
    record {
      begins = c.self.invariant.begins;
      within = omega (arith, c.in_ok-extend_from_slice.ensures.len);
      same_end = same_end-pushed bytes _ part i.at i.seen c.self.invariant.begins c.self.invariant.within c.self.invariant.same_end none c.in_ok-extend_from_slice.ensures.items;
      short_end = subst (HasShortEnd i.most) (sym pushed) c.kept_len-kept.ensures.end;
    }
