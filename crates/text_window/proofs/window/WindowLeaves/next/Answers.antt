use Rattle.text_window.proofs.Within.{within_is_text, next_within, none_next}
use Rattle.text_window.proofs.window.WindowLeaves.next.Goals as goal

pub returns-then-k-self-clause-answer : goal.returns-then-k-self-clause-answer
returns-then-k-self-clause-answer g c = none_next (g.L.Leaves.text c.args.self.now.leaves.now) c.args.self.now.low c.args.self.now.high c.args.k c.args.term.now c.if-k-self.true

pub returns-then-k-self-clause-sound : goal.returns-then-k-self-clause-sound
returns-then-k-self-clause-sound g c = within_is_text (g.L.Leaves.text c.args.self.now.leaves.now) c.args.self.now.low c.args.self.now.high c.span-span.ensures.sound

pub returns-clause-answer : goal.returns-clause-answer
returns-clause-answer g c =
    next_within (g.L.Leaves.text c.args.self.now.leaves.now) c.args.self.now.low c.args.self.now.high c.args.k c.max.result c.args.term.now c.next.result c.up_to_high.result
    c.span-span.ensures.sound c.max.ensures c.next.ensures.answer c.up_to_high.ensures

pub returns-clause-sound : goal.returns-clause-sound
returns-clause-sound g c = within_is_text (g.L.Leaves.text c.args.self.now.leaves.now) c.args.self.now.low c.args.self.now.high c.span-span.ensures.sound
