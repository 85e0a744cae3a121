use Rattle.std.proofs.Common.{◌≡◌, ◌+◌, ◌≤◌, false, length, drop, sym, ap, arith, length-drop}
use Rattle.script_lang.specs.Feeds.{Feed, has_newline}
use Rattle.script_lang.proofs.FeedLemmas.{end-later}
use Rattle.script_lang.proofs.EndedLemmas.{lines_of_ended, none_behind_ended, ready-parts, same_end-taken}
use Rattle.script_lang.proofs.feed.LineFeed.take_ready.Goals as goal

pub returns-clause-parts : goal.returns-clause-parts
returns-clause-parts c =
    let i = c.self.inside in
    sym (ready-parts i.bytes.items c.args.self.now.held i.at c.ready_len.result (ap (λ (feed : Feed). feed.held) c.self.view_is) c.ready_len.ensures.value)

pub returns-clause-lines : goal.returns-clause-lines
returns-clause-lines c later = lines_of_ended c.args.self.now.most c.args.self.now.held _ later (sym (returns-clause-parts c))

pub returns-clause-none : goal.returns-clause-none
returns-clause-none c = none_behind_ended c.args.self.now.held _ (sym (returns-clause-parts c))

pub returns-clause-few : goal.returns-clause-few
returns-clause-few c =
    let i = c.self.inside in
    let next = i.at + c.ready_len.result in
    let inside : next ≤ length i.bytes.items = omega (arith, c.ready_len.ensures.bound, ap (λ (feed : Feed). length feed.held) c.self.view_is, length-drop i.at i.bytes.items) in
    let short : length (drop next i.bytes.items) ≤ 0 + (i.most + 1) = end-later i.most i.bytes.items i.at next (omega arith) inside c.self.invariant.short_end 0 (returns-clause-none c) in
    omega (arith, short, ap (λ (feed : Feed). feed.most) c.self.view_is)

pub invariant_of-self : goal.invariant_of-self
invariant_of-self c =
    let i = c.self.inside in
    let next = i.at + c.ready_len.result in
    let inside : next ≤ length i.bytes.items = omega (arith, c.ready_len.ensures.bound, ap (λ (feed : Feed). length feed.held) c.self.view_is, length-drop i.at i.bytes.items) in
    let held = c.args.self.now.held in
    let none : has_newline (drop next i.bytes.items) ≡ false =
    none_behind_ended held (drop next i.bytes.items) (ready-parts i.bytes.items held i.at c.ready_len.result (ap (λ (feed : Feed). feed.held) c.self.view_is) c.ready_len.ensures.value) in
    record {
      begins = omega arith;
      within = omega arith;
      same_end = same_end-taken i.bytes.items next c.len-self-inside.result inside (omega arith) none;
      short_end = end-later i.most i.bytes.items i.at next (omega arith) inside c.self.invariant.short_end;
    }
