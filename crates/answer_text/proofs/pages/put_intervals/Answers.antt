use Rattle.std.proofs.Common.{ℕ, List, ◌∷◌, ◌++◌, [], refl, ◌∙◌, append_assoc}
use Rattle.gcl_model.specs.Extents.{Extent}
use Rattle.script_lang.specs.Answers.{interval_line}
use Rattle.answer_text.specs.Puts.{members_text}
use Rattle.answer_text.proofs.LineLemmas.{parts_all, parts_more}
use Rattle.answer_text.proofs.pages.put_intervals.Goals as goal

pub loop-interval-preserved : goal.loop-interval-preserved
loop-interval-preserved c =
    let line : List ℕ = interval_line c.interval-item.result in
    parts_more (λ (list : List Extent). members_text list) (line ++ 10 ∷ []) c.args.list.now c.loop-interval.interval-index c.interval-item.result c.loop-interval.out.items c.put_interval.new.out.items
    (c.args.out.now.items ++ members_text c.args.list.now) refl c.loop-interval-test.true c.interval-item.is
    (c.in_ok-put_interval.ensures.ok ∙ append_assoc c.loop-interval.out.items line (10 ∷ [])) c.loop-interval.invariant

pub returns : goal.returns
returns c = parts_all (λ (list : List Extent). members_text list) c.args.list.now c.loop-interval.interval-index c.loop-interval.out.items (c.args.out.now.items ++ members_text c.args.list.now)
    refl c.loop-interval-test.false c.loop-interval.invariant
