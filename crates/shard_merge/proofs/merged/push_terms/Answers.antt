use Rattle.std.proofs.Common.{◌≡◌, ◌<◌, [], length, map, IfSome, sym, subst, ap, ◌∙◌}
use Rattle.std.specs.List.{concat}
use Rattle.index_shard.specs.Kept.{leading}
use Rattle.index_shard.specs.Tables.{ArePostingsIn}
use Rattle.slot_terms.specs.Parts.{IsNext, entries_left, past}
use Rattle.slot_terms.proofs.Passing.{past_fewer}
use Rattle.shard_merge.proofs.TermByTerm.{IsMerging, may_push, merging_pushes, merging_skips}
use Rattle.shard_merge.proofs.merged.push_terms.Goals as goal

pub next_lists-requires : goal.next_lists-requires
next_lists-requires c = c.loop-lists.invariant.merging.tables

pub push_parts-requires : goal.push_parts-requires
push_parts-requires c =
    let parts = c.loop-lists.terms in
    let term = c.in-Some.term.now in
    let lists = concat c.next_lists.new.lists.items in
    let lent = concat c.deref-then-has_some.result.now in
    let is : lists ≡ lent = ap concat (sym c.deref-then-has_some.ensures.value) in
    let given : IsNext parts term lists = subst (λ o. IfSome o (λ n. IsNext parts n.1.now lists)) c.in-Some.is c.in_ok-head.ensures.next in
    let next : IsNext parts term lent = subst (IsNext parts term) is given in
    let some : 0 < length lent = subst (λ l. 0 < length (concat l)) (c.deref.ensures.value ∙ sym c.deref-then-has_some.ensures.value) (c.has_some.ensures.some c.if-has_some.true) in
    let may = may_push c.args.maker.now.range c.args.terms.now parts c.loop-lists.maker.table term lent c.requires.words c.loop-lists.invariant.merging next some in
    record {
      head = subst (λ o. IfSome o (λ n. n.0 ≡ leading 8 0 n.1.now)) c.in-Some.is c.in_ok-head.ensures.head;
      rising = may.rising;
      postings = subst (λ range. ArePostingsIn range lent) (sym c.loop-lists.invariant.range) may.postings;
      apart = may.apart;
    }

pub loop-lists-smaller-in-Continue-branch-3 : goal.loop-lists-smaller-in-Continue-branch-3
loop-lists-smaller-in-Continue-branch-3 c =
    let lists = concat c.next_lists.new.lists.items in
    let next : IsNext c.loop-lists.terms c.in-Some.term.now lists = subst (λ o. IfSome o (λ n. IsNext c.loop-lists.terms n.1.now lists)) c.in-Some.is c.in_ok-head.ensures.next in
    let past_it : c.next_lists.new.self ≡ map (past c.in-Some.term.now) c.loop-lists.terms = subst (λ o. IfSome o (λ n. c.next_lists.new.self ≡ map (past n.1.now) c.loop-lists.terms)) c.in-Some.is c.in_ok-head.ensures.past in
    subst (λ parts. entries_left parts < entries_left c.loop-lists.terms) (sym past_it) (past_fewer c.loop-lists.terms c.in-Some.term.now next.member)

pub loop-lists-preserved-in-Continue-branch-3 : goal.loop-lists-preserved-in-Continue-branch-3
loop-lists-preserved-in-Continue-branch-3 c =
    let parts = c.loop-lists.terms in
    let term = c.in-Some.term.now in
    let lists = concat c.next_lists.new.lists.items in
    let lent = concat c.deref-then-has_some.result.now in
    let is : lists ≡ lent = ap concat (sym c.deref-then-has_some.ensures.value) in
    let given : IsNext parts term lists = subst (λ o. IfSome o (λ n. IsNext parts n.1.now lists)) c.in-Some.is c.in_ok-head.ensures.next in
    let next : IsNext parts term lent = subst (IsNext parts term) is given in
    let past_it : c.next_lists.new.self ≡ map (past term) parts = subst (λ o. IfSome o (λ n. c.next_lists.new.self ≡ map (past n.1.now) parts)) c.in-Some.is c.in_ok-head.ensures.past in
    record {
      range = ap (λ s. s.range) c.in_ok-push_parts.ensures.ok ∙ c.loop-lists.invariant.range;
      merging =
          subst (λ ps. IsMerging c.args.terms.now ps c.push_parts.new.self.table) (sym past_it)
          (subst (IsMerging c.args.terms.now (map (past term) parts)) (sym (ap (λ s. s.table) c.in_ok-push_parts.ensures.ok))
          (merging_pushes c.args.terms.now parts c.loop-lists.maker.table term lent c.loop-lists.invariant.merging next));
    }

pub loop-lists-smaller : goal.loop-lists-smaller
loop-lists-smaller c =
    let lists = concat c.next_lists.new.lists.items in
    let next : IsNext c.loop-lists.terms c.in-Some.term.now lists = subst (λ o. IfSome o (λ n. IsNext c.loop-lists.terms n.1.now lists)) c.in-Some.is c.in_ok-head.ensures.next in
    let past_it : c.next_lists.new.self ≡ map (past c.in-Some.term.now) c.loop-lists.terms = subst (λ o. IfSome o (λ n. c.next_lists.new.self ≡ map (past n.1.now) c.loop-lists.terms)) c.in-Some.is c.in_ok-head.ensures.past in
    subst (λ parts. entries_left parts < entries_left c.loop-lists.terms) (sym past_it) (past_fewer c.loop-lists.terms c.in-Some.term.now next.member)

pub loop-lists-preserved : goal.loop-lists-preserved
loop-lists-preserved c =
    let parts = c.loop-lists.terms in
    let term = c.in-Some.term.now in
    let lists = concat c.next_lists.new.lists.items in
    let next : IsNext parts term lists = subst (λ o. IfSome o (λ n. IsNext parts n.1.now lists)) c.in-Some.is c.in_ok-head.ensures.next in
    let past_it : c.next_lists.new.self ≡ map (past term) parts = subst (λ o. IfSome o (λ n. c.next_lists.new.self ≡ map (past n.1.now) parts)) c.in-Some.is c.in_ok-head.ensures.past in
    let empty : lists ≡ [] = ap concat (sym c.deref.ensures.value) ∙ c.has_some.ensures.none c.if-has_some.false in
    record {
      range = c.loop-lists.invariant.range;
      merging =
          subst (λ ps. IsMerging c.args.terms.now ps c.loop-lists.maker.table) (sym past_it)
          (merging_skips c.args.terms.now parts c.loop-lists.maker.table term c.loop-lists.invariant.merging (subst (IsNext parts term) empty next));
    }
