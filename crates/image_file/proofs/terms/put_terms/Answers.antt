use Rattle.std.proofs.Common.{◌≡◌, ◌+◌, ◌<◌, ◌^◌, ◌++◌, [], length, map, IfSome, sym, subst, ap, ◌∙◌, arith}
use Rattle.std.specs.Option.{is_some}
use Rattle.std.proofs.lemmas.Bool.{eqb-true, eqb-false}
use Rattle.std.proofs.lemmas.List.{nil_from_length}
use Rattle.index_shard.specs.Tables.{RiseWithin}
use Rattle.slot_terms.specs.Parts.{IsNext, entries_left, past}
use Rattle.slot_terms.proofs.Passing.{past_fewer}
use Rattle.image_file.specs.Fields.{short_term}
use Rattle.image_file.proofs.Writing.{Writes, may_write, writing_pushes, writing_skips, written_all}
use Rattle.image_file.proofs.terms.put_terms.Goals as goal

pub put_term-requires-clause-short : goal.put_term-requires-clause-short
put_term-requires-clause-short c =
    let next : IsNext c.loop-addresses.terms c.in-Some.term.now c.next.new.addresses.items = subst (λ o. IfSome o (λ t. IsNext c.loop-addresses.terms t.now c.next.new.addresses.items)) c.in-Some.is c.in_ok-term.ensures.next in
    let full : length c.deref.result.now ≡ 0 → ⊥ = λ none. eqb-false _ 0 (sym c.is_empty.ensures ∙ c.if-not-is_empty.true) (sym c.deref.ensures.len ∙ none) in
    let some : 0 < length c.next.new.addresses.items = subst (λ l. 0 < length l) c.deref.ensures.value (omega arith) in
    (may_write c.args.version.now c.loop-addresses.terms c.loop-addresses.text.count c.loop-addresses.text.bytes.items c.in-Some.term.now c.next.new.addresses.items c.loop-addresses.invariant.version c.requires.short
    c.loop-addresses.invariant.writes next some).short

pub put_term-requires-clause-rising : goal.put_term-requires-clause-rising
put_term-requires-clause-rising c =
    let next : IsNext c.loop-addresses.terms c.in-Some.term.now c.next.new.addresses.items = subst (λ o. IfSome o (λ t. IsNext c.loop-addresses.terms t.now c.next.new.addresses.items)) c.in-Some.is c.in_ok-term.ensures.next in
    let full : length c.deref.result.now ≡ 0 → ⊥ = λ none. eqb-false _ 0 (sym c.is_empty.ensures ∙ c.if-not-is_empty.true) (sym c.deref.ensures.len ∙ none) in
    let some : 0 < length c.next.new.addresses.items = subst (λ l. 0 < length l) c.deref.ensures.value (omega arith) in
    let may =
    may_write c.args.version.now c.loop-addresses.terms c.loop-addresses.text.count c.loop-addresses.text.bytes.items c.in-Some.term.now c.next.new.addresses.items c.loop-addresses.invariant.version c.requires.short
    c.loop-addresses.invariant.writes next some in
    subst (λ l. RiseWithin c.first-first.result (2 ^ 56) l) (sym c.deref.ensures.value) (subst (λ p. RiseWithin p (2 ^ 56) c.next.new.addresses.items) (sym c.loop-addresses.invariant.first) may.rising)

pub loop-addresses-smaller-then-not-is_empty : goal.loop-addresses-smaller-then-not-is_empty
loop-addresses-smaller-then-not-is_empty c =
    let next : IsNext c.loop-addresses.terms c.in-Some.term.now c.next.new.addresses.items = subst (λ o. IfSome o (λ t. IsNext c.loop-addresses.terms t.now c.next.new.addresses.items)) c.in-Some.is c.in_ok-term.ensures.next in
    let past_it : c.next.new.self ≡ map (past c.in-Some.term.now) c.loop-addresses.terms = subst (λ o. IfSome o (λ t. c.next.new.self ≡ map (past t.now) c.loop-addresses.terms)) c.in-Some.is c.in_ok-term.ensures.past in
    subst (λ parts. entries_left parts < entries_left c.loop-addresses.terms) (sym past_it) (past_fewer c.loop-addresses.terms c.in-Some.term.now next.member)

pub loop-addresses-preserved-then-not-is_empty : goal.loop-addresses-preserved-then-not-is_empty
loop-addresses-preserved-then-not-is_empty c =
    let v = c.args.version.now in
    let parts = c.loop-addresses.terms in
    let term = c.in-Some.term.now in
    let addresses = c.next.new.addresses.items in
    let count = c.loop-addresses.text.count in
    let bytes = c.loop-addresses.text.bytes.items in
    let more = c.put_term.new.out.items in
    let w = c.loop-addresses.invariant.writes in
    let next : IsNext parts term addresses = subst (λ o. IfSome o (λ t. IsNext parts t.now addresses)) c.in-Some.is c.in_ok-term.ensures.next in
    let past_it : c.next.new.self ≡ map (past term) parts = subst (λ o. IfSome o (λ t. c.next.new.self ≡ map (past t.now) parts)) c.in-Some.is c.in_ok-term.ensures.past in
    let full : length c.deref.result.now ≡ 0 → ⊥ = λ none. eqb-false _ 0 (sym c.is_empty.ensures ∙ c.if-not-is_empty.true) (sym c.deref.ensures.len ∙ none) in
    let some : 0 < length addresses = subst (λ l. 0 < length l) c.deref.ensures.value (omega arith) in
    let may = may_write v parts count bytes term addresses c.loop-addresses.invariant.version c.requires.short w next some in
    let put = c.in_ok-put_term.ensures ∙ ap (λ l. bytes ++ short_term c.first-first.result (record { term = term; addresses = l })) c.deref.ensures.value
    ∙ ap (λ p. bytes ++ short_term p (record { term = term; addresses = addresses })) c.loop-addresses.invariant.first in
    record {
      version = c.loop-addresses.invariant.version;
      first = c.loop-addresses.invariant.first;
      writes = subst (λ ps. Writes v ps (count + 1) more) (sym past_it) (writing_pushes v parts count bytes more term addresses w next some may.short put);
    }

pub loop-addresses-smaller : goal.loop-addresses-smaller
loop-addresses-smaller c =
    let next : IsNext c.loop-addresses.terms c.in-Some.term.now c.next.new.addresses.items = subst (λ o. IfSome o (λ t. IsNext c.loop-addresses.terms t.now c.next.new.addresses.items)) c.in-Some.is c.in_ok-term.ensures.next in
    let past_it : c.next.new.self ≡ map (past c.in-Some.term.now) c.loop-addresses.terms = subst (λ o. IfSome o (λ t. c.next.new.self ≡ map (past t.now) c.loop-addresses.terms)) c.in-Some.is c.in_ok-term.ensures.past in
    subst (λ parts. entries_left parts < entries_left c.loop-addresses.terms) (sym past_it) (past_fewer c.loop-addresses.terms c.in-Some.term.now next.member)

pub loop-addresses-preserved : goal.loop-addresses-preserved
loop-addresses-preserved c =
    let v = c.args.version.now in
    let parts = c.loop-addresses.terms in
    let term = c.in-Some.term.now in
    let addresses = c.next.new.addresses.items in
    let count = c.loop-addresses.text.count in
    let bytes = c.loop-addresses.text.bytes.items in
    let next : IsNext parts term addresses = subst (λ o. IfSome o (λ t. IsNext parts t.now addresses)) c.in-Some.is c.in_ok-term.ensures.next in
    let past_it : c.next.new.self ≡ map (past term) parts = subst (λ o. IfSome o (λ t. c.next.new.self ≡ map (past t.now) parts)) c.in-Some.is c.in_ok-term.ensures.past in
    let none = eqb-true _ 0 (sym c.is_empty.ensures ∙ c.if-not-is_empty.false) in
    let empty : addresses ≡ [] = nil_from_length addresses (omega (arith, none, c.next.new.addresses.ok.0)) in
    record {
      version = c.loop-addresses.invariant.version;
      first = c.loop-addresses.invariant.first;
      writes = subst (λ ps. Writes v ps count bytes) (sym past_it) (writing_skips v parts count bytes term c.loop-addresses.invariant.writes (subst (IsNext parts term) empty next));
    }

pub returns : goal.returns
returns c =
    written_all c.args.version.now c.loop-addresses.terms c.loop-addresses.text.count c.loop-addresses.text.bytes.items c.loop-addresses.invariant.version c.loop-addresses.invariant.writes
    (c.in_ok-term.ensures.none (ap is_some c.in_default.is))
