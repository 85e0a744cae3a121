use Rattle.text_window.proofs.Within.{within_is_text, previous_within, none_previous}
use Rattle.text_window.proofs.window.WindowLeaves.prev.Goals as goal

pub returns-then-k-self-clause-answer : goal.returns-then-k-self-clause-answer
returns-then-k-self-clause-answer g c = none_previous (g.L.Leaves.text c.args.self.now.leaves.now) c.args.self.now.low c.args.self.now.high c.args.k c.args.term.now c.if-k-self.true

pub returns-then-k-self-clause-sound : goal.returns-then-k-self-clause-sound
returns-then-k-self-clause-sound g c = within_is_text (g.L.Leaves.text c.args.self.now.leaves.now) c.args.self.now.low c.args.self.now.high c.span-span.ensures.sound

pub returns-clause-answer : goal.returns-clause-answer
returns-clause-answer g c =
    previous_within (g.L.Leaves.text c.args.self.now.leaves.now) c.args.self.now.low c.args.self.now.high c.args.k c.min.result c.args.term.now c.prev.result c.from_low.result
    c.span-span.ensures.sound c.min.ensures c.prev.ensures.answer c.from_low.ensures

pub returns-clause-sound : goal.returns-clause-sound
returns-clause-sound g c = within_is_text (g.L.Leaves.text c.args.self.now.leaves.now) c.args.self.now.low c.args.self.now.high c.span-span.ensures.sound
