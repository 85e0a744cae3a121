use Rattle.std.proofs.Common.{[], sym, append-nil, rules}
use Rattle.answer_text.proofs.PutLemmas.{held_more}
use Rattle.answer_text.proofs.pages.hand_over.Goals as goal

pub returns-then-len-lt-PIECE-clause-puts : goal.returns-then-len-lt-PIECE-clause-puts
returns-then-len-lt-PIECE-clause-puts g c = held_more (g.K.Sink.written c.args.sink.now) c.args.out.now.items c.args.out.now.items [] (sym (append-nil c.args.out.now.items))

pub returns-clause-puts : goal.returns-clause-puts
returns-clause-puts g c = record { part = c.args.out.now.items; whole = search rules; written = search rules }
