use Rattle.std.proofs.Common.{leb, take, sym, ◌∙◌, ap}
use Rattle.std.proofs.lemmas.List.Sums.{prefix_len-le-length}
use Rattle.gcl_model.specs.Texts.{Word}
use Rattle.plain_text.specs.Holders.{last_holder}
use Rattle.plain_text.proofs.Holders.{previous_place_by_count}
use Rattle.plain_text.proofs.leaves.PlainTextLeaves.prev.Goals as goal

pub last_below-requires : goal.last_below-requires
last_below-requires g c =
    rw c.count_upto.ensures.count (prefix_len-le-length (λ (w : Word). leb w.address c.args.k) c.args.self.now.words)

pub returns-clause-answer : goal.returns-clause-answer
returns-clause-answer g c =
    let text = c.args.self.now in
    c.last_below.ensures ∙ ap (λ n. last_holder (take n text.words) c.args.term.now) c.count_upto.ensures.count
    ∙ sym (previous_place_by_count text.next text.first text.words c.args.term.now c.args.k c.count_upto.ensures.sound.rising)
