use Rattle.std.proofs.Common.{◌<◌, List, length, take_while, refl, ap, arith}
use Rattle.std.proofs.lemmas.Bool.{le-leb, lt-leb}
use Rattle.gcl_model.specs.Extents.{Extent}
use Rattle.near_search.specs.Contents.{starts_by}
use Rattle.change_search.specs.inner.Sides.{found_and_left}
use Rattle.change_search.proofs.SideLemmas.{first_taken, none_taken}
use Rattle.change_search.proofs.side.Side.first.Goals as goal

pub returns-then-len-self-clause-none : goal.returns-then-len-self-clause-none
returns-then-len-self-clause-none g c = λ _. ap (λ (l : List Extent). take_while (starts_by c.args.self.now.high) l) (c.in_ok-fill.ensures.end (omega (arith, c.len.ensures, c.if-len-self.true)))

pub returns-then-self-member-clause-none : goal.returns-then-self-member-clause-none
returns-then-self-member-clause-none g c = λ _.
    let start = ap (λ (a : Extent). a.start) c.member.view_is in
    none_taken (starts_by c.args.self.now.high) c.fill.new.self.page c.fill.new.self.rest.to_come (found_and_left c.args.self.now) c.fill.new.self.at c.get-member.result.now
    (omega (arith, c.len.ensures, c.if-len-self.false)) c.get-member.ensures c.fill.ensures.same
    (lt-leb c.get-member.result.now.start c.args.self.now.high (omega (arith, start, c.fill.ensures.high, c.if-self-member.true)))

pub returns-clause-some : goal.returns-clause-some
returns-clause-some g c =
    let start = ap (λ (a : Extent). a.start) c.member.view_is in
    first_taken (starts_by c.args.self.now.high) c.fill.new.self.page c.fill.new.self.rest.to_come (found_and_left c.args.self.now) c.fill.new.self.at c.get-member.result.now
    (omega (arith, c.len.ensures, c.if-len-self.false)) c.get-member.ensures c.fill.ensures.same
    (le-leb c.get-member.result.now.start c.args.self.now.high (omega (arith, start, c.fill.ensures.high, c.if-self-member.false)))

pub returns-clause-found : goal.returns-clause-found
returns-clause-found g c =
    let start = ap (λ (a : Extent). a.start) c.member.view_is in
    let within : c.fill.new.self.at < length c.fill.new.self.page = omega (arith, c.len.ensures, c.if-len-self.false) in
    let long = ap length (first_taken (starts_by c.fill.new.self.high) c.fill.new.self.page c.fill.new.self.rest.to_come (found_and_left c.fill.new.self) c.fill.new.self.at c.get-member.result.now
    within c.get-member.ensures refl
    (le-leb c.get-member.result.now.start c.fill.new.self.high (omega (arith, start, c.if-self-member.false)))) in
    (within, omega (arith, long))
