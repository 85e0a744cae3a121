use Rattle.std.proofs.Common.{◌-◌, List, ℕ, length, take, drop, ap, subst, ◌∙◌, arith}
use Rattle.word_tokens.specs.Joined.{AreJoined}
use Rattle.word_tokens.proofs.JoinedLemmas.{length-cut_from, stands}
use Rattle.word_tokens.proofs.joined.TokenText.get.Goals as goal

pub overflow_add-i : goal.overflow_add-i
overflow_add-i c =
    let f = c.self.inside in
    omega (arith, f.ends.ok.0, f.ends.small, length-cut_from 0 f.ends.items f.bytes.items, ap length c.self.view_is)

pub slice_bounds-result-count : goal.slice_bounds-result-count
slice_bounds-result-count c =
    let f = c.self.inside in
    let join = subst (λ (tokens : List (List ℕ)). AreJoined tokens f.bytes.items f.ends.items) c.self.view_is c.self.invariant in
    (stands c.args.self.now f.bytes.items f.ends.items join c.args.i c.start.result c.start-2.result c.requires c.start.ensures c.start-2.ensures).ordered

pub slice_bounds-result-start : goal.slice_bounds-result-start
slice_bounds-result-start c =
    let f = c.self.inside in
    let join = subst (λ (tokens : List (List ℕ)). AreJoined tokens f.bytes.items f.ends.items) c.self.view_is c.self.invariant in
    let between = stands c.args.self.now f.bytes.items f.ends.items join c.args.i c.start.result c.start-2.result c.requires c.start.ensures c.start-2.ensures in
    omega (arith, between.ordered, between.within, ap length c.deref.ensures.value)

pub slice_bounds-result-end : goal.slice_bounds-result-end
slice_bounds-result-end c =
    let f = c.self.inside in
    let join = subst (λ (tokens : List (List ℕ)). AreJoined tokens f.bytes.items f.ends.items) c.self.view_is c.self.invariant in
    let between = stands c.args.self.now f.bytes.items f.ends.items join c.args.i c.start.result c.start-2.result c.requires c.start.ensures c.start-2.ensures in
    omega (arith, between.ordered, between.within, ap length c.deref.ensures.value)

pub returns : goal.returns
returns c =
    let f = c.self.inside in
    let join = subst (λ (tokens : List (List ℕ)). AreJoined tokens f.bytes.items f.ends.items) c.self.view_is c.self.invariant in
    ap (λ bytes. take (c.start-2.result - c.start.result) (drop c.start.result bytes)) c.deref.ensures.value
    ∙ (stands c.args.self.now f.bytes.items f.ends.items join c.args.i c.start.result c.start-2.result c.requires c.start.ensures c.start-2.ensures).token _
