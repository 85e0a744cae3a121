use Rattle.std.proofs.Common.{◌≡◌, ◌+◌, ◌^◌, ◌++◌, take, refl, sym, ap, ◌∙◌, subst, arith}
use Rattle.std.proofs.lemmas.List.{append-nil, take-append-drop}
use Rattle.posting_code.specs.Postings.{RiseWithin, ArePostings}
use Rattle.posting_code.specs.Packed.{last_of}
use Rattle.posting_code.proofs.Cuts.{all_below, behind_from, cut_of, from_first, from_none, front_below, walk_on, walked_below}
use Rattle.posting_code.proofs.posting_list.Postings.split.Goals as goal
use Rattle.posting_code.proofs.posting_list.Postings.split.Goals.{then-self-eq0-via-then-self-eq0, then-self-eq0-via-else-self-eq0+then-k-self}

pub returns-then-self-k-clause-below : goal.returns-then-self-k-clause-below
returns-then-self-k-clause-below c =
    let end : c.self.inside.last ≡ last_of c.args.self.now = c.self.invariant.end ∙ ap last_of c.self.view_is in
    subst (RiseWithin 0 c.args.k) (sym c.whole-then-self-k.ensures) (all_below c.args.k c.args.self.now (subst ArePostings c.self.view_is c.self.invariant.parts.rising) (omega (arith, end, c.if-self-k.true)))

pub returns-in-Some-clause-below : goal.returns-in-Some-clause-below
returns-in-Some-clause-below c =
    let at = cut_of _ _ _ _ _ _ _ c.self.view_is c.self.invariant c.if-self-eq0.false c.in-Some.ensures.cut in
    subst (RiseWithin 0 c.args.k) (sym c.cut_at.ensures.before) (front_below c.args.k _ _ _ _ _ _ _ c.self.view_is c.self.invariant c.requires at c.in-Some.ensures.below)

pub returns-then-self-eq0-clause-whole : goal.returns-then-self-eq0-clause-whole
returns-then-self-eq0-clause-whole c = sym (ap (λ l. l ++ c.whole.result) c.none.ensures ∙ c.whole.ensures)

pub returns-then-self-eq0-clause-below : goal.returns-then-self-eq0-clause-below
returns-then-self-eq0-clause-below c = subst (RiseWithin 0 c.args.k) (sym c.none.ensures) tt

pub returns-then-self-eq0-clause-from : goal.returns-then-self-eq0-clause-from
returns-then-self-eq0-clause-from c =
    subst (RiseWithin c.args.k (2 ^ 56)) (sym c.whole.ensures)
    (elim c.then-self-eq0.branch [
      | then-self-eq0-via-then-self-eq0 w ↦ from_none c.args.k c.args.self.now c.self.inside.count c.self.inside.first c.self.inside.packed.now c.self.view_is w.if-self-eq0.true
      | then-self-eq0-via-else-self-eq0+then-k-self w ↦ from_first c.args.k c.args.self.now c.self.inside.count c.self.inside.first c.self.inside.packed.now c.self.inside.heads.now c.self.view_is c.self.invariant.parts w.if-k-self.true
    ])

pub returns-then-self-k-clause-whole : goal.returns-then-self-k-clause-whole
returns-then-self-k-clause-whole c = sym (ap (λ l. c.whole-then-self-k.result ++ l) c.none-then-self-k.ensures ∙ append-nil c.whole-then-self-k.result ∙ c.whole-then-self-k.ensures)

pub returns-then-self-k-clause-from : goal.returns-then-self-k-clause-from
returns-then-self-k-clause-from c = subst (RiseWithin c.args.k (2 ^ 56)) (sym c.none-then-self-k.ensures) tt

pub cut_before-requires-clause-can : goal.cut_before-requires-clause-can
cut_before-requires-clause-can c = (walk_on c.args.self.now c.self.inside.count c.self.inside.first c.self.inside.packed.now c.self.inside.heads.now c.self.view_is c.self.invariant.parts c.if-self-eq0.false).0

pub cut_before-requires-clause-enough : goal.cut_before-requires-clause-enough
cut_before-requires-clause-enough c = (walk_on c.args.self.now c.self.inside.count c.self.inside.first c.self.inside.packed.now c.self.inside.heads.now c.self.view_is c.self.invariant.parts c.if-self-eq0.false).1

pub cut_at-requires-clause-cut : goal.cut_at-requires-clause-cut
cut_at-requires-clause-cut c = cut_of _ _ _ _ _ _ _ c.self.view_is c.self.invariant c.if-self-eq0.false c.in-Some.ensures.cut

pub returns-in-Some-clause-whole : goal.returns-in-Some-clause-whole
returns-in-Some-clause-whole c =
    let n = c.in-Some.cut.steps + 1 in
    sym (ap (λ l. l ++ c.cut_at.result.1) c.cut_at.ensures.before ∙ ap (λ l. take n c.args.self.now ++ l) c.cut_at.ensures.behind ∙ take-append-drop n c.args.self.now)

pub returns-in-Some-clause-from : goal.returns-in-Some-clause-from
returns-in-Some-clause-from c =
    let at = cut_of _ _ _ _ _ _ _ c.self.view_is c.self.invariant c.if-self-eq0.false c.in-Some.ensures.cut in
    subst (RiseWithin c.args.k (2 ^ 56)) (sym c.cut_at.ensures.behind) (behind_from c.args.k c.args.self.now _ c.in-Some.cut (subst ArePostings c.self.view_is c.self.invariant.parts.rising) at c.in-Some.ensures.from)

pub returns-in-None-clause-whole : goal.returns-in-None-clause-whole
returns-in-None-clause-whole c = sym (ap (λ l. c.whole-in-None.result ++ l) c.none-in-None.ensures ∙ append-nil c.whole-in-None.result ∙ c.whole-in-None.ensures)

pub returns-in-None-clause-below : goal.returns-in-None-clause-below
returns-in-None-clause-below c =
    subst (RiseWithin 0 c.args.k) (sym c.whole-in-None.ensures)
    (walked_below c.args.k c.args.self.now c.self.inside.count c.self.inside.first c.self.inside.packed.now c.self.inside.heads.now c.self.view_is c.self.invariant.parts c.if-self-eq0.false (c.in-None.ensures.none refl))

pub returns-in-None-clause-from : goal.returns-in-None-clause-from
returns-in-None-clause-from c = subst (RiseWithin c.args.k (2 ^ 56)) (sym c.none-in-None.ensures) tt
