use Rattle.std.proofs.Common.{◌≡◌, ℕ, ◌-◌, ◌+◌, ◌↔◌, true, false, List, None, Some, take, drop, MatchOption, subst, sym, ap, ◌∙◌, refl, arith}
use Rattle.script_lang.specs.Lines.{Line, line_of, line_end}
use Rattle.script_lang.specs.Feeds.{Feed, has_newline, line_taken, BeginsLong, IsTakenFrom}
use Rattle.script_lang.specs.declared.taken.Taken.{Taken}
use Rattle.script_lang.specs.declared.taken.Taken.TheVariants.{Long, More}
use Rattle.script_lang.proofs.FeedLemmas.{told, take-none, take-some, take-first, take-long, end-later}
use Rattle.script_lang.proofs.feed.LineFeed.take.Goals as goal

-- nothing was taken if there is a newline
not_more : (taken : Taken) (line : Line) → line_taken taken ≡ Some line → taken ≡ More → ⊥
not_more taken line is more = no_line (ap line_taken (sym more) ∙ is)
  where
    no_line : None ≡ Some line → ⊥
    no_line wrong = cc

not_both : (held : List ℕ) → has_newline held ≡ false → has_newline held ≡ true → ⊥
not_both held none some = cc

more_not_long : More ≡ Long → ⊥
more_not_long wrong = cc

pub returns-then-end-len-clause-more : goal.returns-then-end-len-clause-more
returns-then-end-len-clause-more c =
    let i = c.self.inside in
    let held : Feed → Type 0 = λ feed. has_newline feed.held ≡ false in
    let none = subst held c.self.view_is (take-none i.bytes.items i.at i.seen c.line_end-end.result c.self.invariant.begins c.self.invariant.within c.self.invariant.same_end (c.line_end-end.ensures.value ∙ ap (λ bytes. line_end bytes i.seen) c.as_slice.ensures.value) (omega arith)) in
    (λ _. none, λ _. refl)

pub returns-then-end-len-clause-long : goal.returns-then-end-len-clause-long
returns-then-end-len-clause-long c =
    let i = c.self.inside in
    let held : Feed → Type 0 = λ feed. has_newline feed.held ≡ false in
    let none = subst held c.self.view_is (take-none i.bytes.items i.at i.seen c.line_end-end.result c.self.invariant.begins c.self.invariant.within c.self.invariant.same_end (c.line_end-end.ensures.value ∙ ap (λ bytes. line_end bytes i.seen) c.as_slice.ensures.value) (omega arith)) in
    (λ wrong. absurd (more_not_long wrong), λ begins. absurd (not_both c.args.self.now.held none begins.ended))

pub returns-then-end-len-clause-few : goal.returns-then-end-len-clause-few
returns-then-end-len-clause-few c more =
    let i = c.self.inside in
    let none = take-none i.bytes.items i.at i.seen c.line_end-end.result c.self.invariant.begins c.self.invariant.within c.self.invariant.same_end (c.line_end-end.ensures.value ∙ ap (λ bytes. line_end bytes i.seen) c.as_slice.ensures.value) (omega arith) in
    omega (arith, c.self.invariant.short_end 0 none)

pub invariant_of-self-2 : goal.invariant_of-self-2
invariant_of-self-2 c =
    let i = c.self.inside in
    record {
      begins = omega arith;
      within = omega arith;
      same_end = refl;
      short_end = end-later i.most i.bytes.items i.at (c.line_end-end.result + 1) (omega arith) (omega arith) c.self.invariant.short_end;
    }

pub returns-clause-more : goal.returns-clause-more
returns-clause-more c =
    let i = c.self.inside in
    let held : Feed → Type 0 = λ feed. has_newline feed.held ≡ true in
    let some = subst held c.self.view_is (take-some i.bytes.items i.at i.seen c.line_end-end.result c.self.invariant.begins c.self.invariant.within c.self.invariant.same_end (c.line_end-end.ensures.value ∙ ap (λ bytes. line_end bytes i.seen) c.as_slice.ensures.value) (omega arith)) in
    (λ wrong. absurd (not_more c.in_ok-taken.taken _ c.in_ok-taken.ensures.line wrong), λ none. absurd (not_both c.args.self.now.held none some))

pub returns-clause-long : goal.returns-clause-long
returns-clause-long c =
    let i = c.self.inside in
    let long : Feed → Type 0 = λ feed. (c.in_ok-taken.taken ≡ Long) ↔ BeginsLong feed in
    subst long c.self.view_is
    (take-long (c.in_ok-taken.taken ≡ Long) i.most i.bytes.items _ i.at i.seen c.line_end-end.result c.self.invariant.begins c.self.invariant.within c.self.invariant.same_end (c.line_end-end.ensures.value ∙ ap (λ bytes. line_end bytes i.seen) c.as_slice.ensures.value) (omega arith)
    (ap (λ bytes. take (c.line_end-end.result - i.at) (drop i.at bytes)) c.as_slice-2.ensures.value) c.in_ok-taken.ensures.long)

pub returns-clause-line : goal.returns-clause-line
returns-clause-line c =
    let i = c.self.inside in
    let next : Feed = record { most = i.most; held = drop (c.line_end-end.result + 1) i.bytes.items } in
    let from : Feed → Type 0 = λ feed. MatchOption (line_taken c.in_ok-taken.taken) (next ≡ feed) (IsTakenFrom feed next) in
    subst from c.self.view_is
    (told (line_taken c.in_ok-taken.taken) (line_of i.most _) _ _ (c.in_ok-taken.ensures.line ∙ ap (λ bytes. Some (line_of i.most (take (c.line_end-end.result - i.at) (drop i.at bytes)))) c.as_slice-2.ensures.value)
    (take-first i.most i.bytes.items i.at i.seen c.line_end-end.result c.self.invariant.begins c.self.invariant.within c.self.invariant.same_end (c.line_end-end.ensures.value ∙ ap (λ bytes. line_end bytes i.seen) c.as_slice.ensures.value) (omega arith)))
