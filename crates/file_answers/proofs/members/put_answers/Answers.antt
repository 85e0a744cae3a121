use Rattle.std.proofs.Common.{◌≡◌, ◌+◌, ◌-◌, ◌<◌, ◌++◌, ◌∷◌, suc, length, take, List, ℕ, refl, sym, ap, ◌∙◌, arith, append-nil}
use Rattle.gcl_model.specs.Extents.{Extent}
use Rattle.gcl_model.specs.FormOf.{form_of}
use Rattle.gcl_model.specs.Meaning.{concordance}
use Rattle.gcl_eval.specs.Members.{members_from}
use Rattle.gcl_eval.proofs.Listing.{all_members, from_le}
use Rattle.file_answers.specs.Searched.{passage_of, passages_of}
use Rattle.file_answers.proofs.WrittenLemmas.{moves-as, moves-nothing, moves-on, part-of, part-on}
use Rattle.file_answers.proofs.MemberLemmas.{count-next, passage-ahead, passage-behind, passage-ordered, passage-within, passages-behind, passages-next, taken-none}
use Rattle.file_answers.proofs.members.put_answers.Goals as goal

pub loop-put-init : goal.loop-put-init
loop-put-init g c =
    let list = concordance (g.L.Leaves.text c.args.leaves.now) (form_of c.args.asking.now.expr.now) in
    let most : ℕ = c.args.asking.now.most in
    let none : most - 0 ≡ most = omega arith in
    let all : take (most - 0) (members_from list 0) ≡ take most list = ap (λ (n : ℕ). take n (members_from list 0)) none ∙ ap (take most) (all_members list) in
    let w = g.K.Sink.written c.args.sink.now in
    let text = g.W.PassageWriter.text c.args.writer.now in
    let whole = c.args.out.now.items ++ text (passages_of c.args.bytes.now (take most list)) in
    record {
      places = c.new-places.ensures;
      size = c.requires.size;
      ahead = omega (arith, c.requires.fresh);
      nothing = c.requires.nothing;
      below = omega arith;
      count = omega (arith, ap length all);
      moves = moves-as w w whole whole whole _ refl (ap (λ l. c.args.out.now.items ++ text (passages_of c.args.bytes.now l)) (sym all)) (moves-nothing w whole);
      stands = c.in_ok-readers.ensures.stands (g.L.Leaves.text c.args.leaves.now);
      behind = omega (arith, c.in_ok-readers.ensures.left);
      steps = omega (arith, c.in_ok-readers.ensures.cost (g.L.Leaves.text c.args.leaves.now) (g.L.Leaves.most c.args.leaves.now));
      calm = refl;
    }

pub returns-in_err-readers-clause-part : goal.returns-in_err-readers-clause-part
returns-in_err-readers-clause-part g c = part-of _ _ _ _ (moves-nothing (g.K.Sink.written c.args.sink.now) _)

pub returns-in_default-clause-moves : goal.returns-in_default-clause-moves
returns-in_default-clause-moves g c =
    let list = concordance (g.L.Leaves.text c.args.leaves.now) (form_of c.args.asking.now.expr.now) in
    let most : ℕ = c.args.asking.now.most in
    let none = taken-none list c.loop-put.from (most - c.loop-put.put) (sym c.next_member.ensures.answer ∙ c.in_default.is) in
    let text = g.W.PassageWriter.text c.loop-put.writer in
    moves-as (g.K.Sink.written c.args.sink.now) (g.K.Sink.written c.loop-put.sink) _ _ _ _ refl
    (ap (λ l. c.loop-put.out.items ++ text (passages_of c.args.bytes.now l)) none ∙ ap (λ l. c.loop-put.out.items ++ l) c.loop-put.invariant.nothing ∙ append-nil c.loop-put.out.items)
    c.loop-put.invariant.moves

pub returns-in_default-clause-count : goal.returns-in_default-clause-count
returns-in_default-clause-count g c =
    let list = concordance (g.L.Leaves.text c.args.leaves.now) (form_of c.args.asking.now.expr.now) in
    let most : ℕ = c.args.asking.now.most in
    let none = taken-none list c.loop-put.from (most - c.loop-put.put) (sym c.next_member.ensures.answer ∙ c.in_default.is) in
    omega (arith, c.loop-put.invariant.count, ap length none)

pub put-requires-clause-ordered : goal.put-requires-clause-ordered
put-requires-clause-ordered g c =
    let is = c.passage_of.ensures.passage ∙ ap (λ (b : List ℕ). passage_of b c.in-Some.member) c.loop-put.invariant.places in
    passage-ordered c.args.bytes.now c.in-Some.member c.passage_of.result is c.in-Some.ensures.ordered

pub put-requires-clause-within : goal.put-requires-clause-within
put-requires-clause-within g c =
    let is = c.passage_of.ensures.passage ∙ ap (λ (b : List ℕ). passage_of b c.in-Some.member) c.loop-put.invariant.places in
    let le = passage-within c.args.bytes.now c.in-Some.member c.passage_of.result is c.in-Some.ensures.ordered in
    omega (arith, le, c.loop-put.invariant.size)

pub put-requires-clause-ahead : goal.put-requires-clause-ahead
put-requires-clause-ahead g c =
    let list = concordance (g.L.Leaves.text c.args.leaves.now) (form_of c.args.asking.now.expr.now) in
    let is = c.passage_of.ensures.passage ∙ ap (λ (b : List ℕ). passage_of b c.in-Some.member) c.loop-put.invariant.places in
    passage-ahead c.args.bytes.now c.in-Some.member c.passage_of.result (g.W.PassageWriter.reached c.loop-put.writer) c.loop-put.from is c.loop-put.invariant.ahead
    (from_le list c.loop-put.from c.in-Some.member (sym c.in-Some.ensures.answer))

pub returns-in_err-put-clause-part : goal.returns-in_err-put-clause-part
returns-in_err-put-clause-part g c =
    let form = form_of c.args.asking.now.expr.now in
    let words = g.L.Leaves.text c.args.leaves.now in
    let list = concordance words form in
    let most : ℕ = c.args.asking.now.most in
    let put : ℕ = c.loop-put.put in
    let room : put < most = c.loop-put-test.true in
    let next : ℕ = c.in-Some.member.start + 1 in
    let more : most - put ≡ suc (most - (put + 1)) = omega arith in
    let is = c.passage_of.ensures.passage ∙ ap (λ (b : List ℕ). passage_of b c.in-Some.member) c.loop-put.invariant.places in
    let later = passages_of c.args.bytes.now (take (most - (put + 1)) (members_from list next)) in
    let text = g.W.PassageWriter.text c.loop-put.writer in
    let left = passages-next c.args.bytes.now words form c.loop-put.from (most - put) (most - (put + 1)) next c.in-Some.member c.passage_of.result c.in-Some.ensures.answer more is refl in
    part-on (g.K.Sink.written c.args.sink.now) (g.K.Sink.written c.loop-put.sink) (g.K.Sink.written c.put.new.sink) _ (c.loop-put.out.items ++ text (c.passage_of.result ∷ later))
    (moves-as (g.K.Sink.written c.args.sink.now) (g.K.Sink.written c.loop-put.sink) _ _ _ _ refl (ap (λ ps. c.loop-put.out.items ++ text ps) left) c.loop-put.invariant.moves)
    (c.in_err-put.ensures.part later (passages-behind c.args.bytes.now list (most - (put + 1)) next c.in-Some.member c.passage_of.result is refl))

pub loop-put-preserved : goal.loop-put-preserved
loop-put-preserved g c =
    let form = form_of c.args.asking.now.expr.now in
    let words = g.L.Leaves.text c.args.leaves.now in
    let list = concordance words form in
    let most : ℕ = c.args.asking.now.most in
    let put : ℕ = c.loop-put.put in
    let room : put < most = c.loop-put-test.true in
    let next : ℕ = c.member.inside.start + 1 in
    let onward : next ≡ c.in-Some.member.start + 1 = ap (λ (a : Extent). a.start + 1) c.member.view_is in
    let more : most - put ≡ suc (most - (put + 1)) = omega arith in
    let is = c.passage_of.ensures.passage ∙ ap (λ (b : List ℕ). passage_of b c.in-Some.member) c.loop-put.invariant.places in
    let later = passages_of c.args.bytes.now (take (most - (put + 1)) (members_from list next)) in
    let text = g.W.PassageWriter.text c.loop-put.writer in
    let left = passages-next c.args.bytes.now words form c.loop-put.from (most - put) (most - (put + 1)) next c.in-Some.member c.passage_of.result c.in-Some.ensures.answer more is onward in
    let count = count-next words form c.loop-put.from (most - put) (most - (put + 1)) next c.in-Some.member c.in-Some.ensures.answer more onward in
    let fits = c.in-Some.ensures.below in
    record {
      places = c.passage_of.ensures.same ∙ c.loop-put.invariant.places;
      size = c.in_ok-put.ensures.same ∙ c.loop-put.invariant.size;
      ahead = passage-behind c.args.bytes.now c.in-Some.member c.passage_of.result (g.W.PassageWriter.reached c.put.new.self) next is c.in_ok-put.ensures.ahead onward;
      nothing = c.in_ok-put.ensures.nothing;
      below = omega (arith, fits, onward);
      count = omega (arith, c.loop-put.invariant.count, count);
      moves = moves-on (g.K.Sink.written c.args.sink.now) (g.K.Sink.written c.loop-put.sink) (g.K.Sink.written c.put.new.sink) _ (c.loop-put.out.items ++ text (c.passage_of.result ∷ later)) _
          (moves-as (g.K.Sink.written c.args.sink.now) (g.K.Sink.written c.loop-put.sink) _ _ _ _ refl (ap (λ ps. c.loop-put.out.items ++ text ps) left) c.loop-put.invariant.moves)
          (c.in_ok-put.ensures.moves later (passages-behind c.args.bytes.now list (most - (put + 1)) next c.in-Some.member c.passage_of.result is onward));
      stands = c.next_member.ensures.stands;
      behind = omega (arith, c.in-Some.ensures.behind, onward);
      steps = omega (arith, c.loop-put.invariant.steps, c.next_member.ensures.cost);
      calm = c.in_ok-put.ensures.counts ∙ c.loop-put.invariant.calm;
    }
