use Rattle.text_window.proofs.Within.{within_is_text}
use Rattle.text_window.proofs.window.WindowLeaves.span.Goals as goal

pub returns-clause-sound : goal.returns-clause-sound
returns-clause-sound g c = within_is_text (g.L.Leaves.text c.args.self.now.leaves.now) c.args.self.now.low c.args.self.now.high c.span-span.ensures.sound
