use Rattle.std.proofs.Common.{drop, sym, ◌∙◌, ap}
use Rattle.plain_text.specs.Holders.{first_holder}
use Rattle.plain_text.proofs.Holders.{next_place_by_count}
use Rattle.plain_text.proofs.leaves.PlainTextLeaves.next.Goals as goal

pub returns-clause-answer : goal.returns-clause-answer
returns-clause-answer g c =
    let text = c.args.self.now in
    c.first_from.ensures ∙ ap (λ n. first_holder (drop n text.words) c.args.term.now) c.count_before.ensures.count
    ∙ sym (next_place_by_count text.next text.first text.words c.args.term.now c.args.k c.count_before.ensures.sound.rising)
