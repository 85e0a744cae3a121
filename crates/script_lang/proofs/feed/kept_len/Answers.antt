use Rattle.std.proofs.Common.{◌≡◌, ◌+◌, ◌<◌, ◌-◌, false, length, take, drop, arith, length-append, length-take, length-drop}
use Rattle.script_lang.specs.Feeds.{has_newline}
use Rattle.script_lang.proofs.FeedLemmas.{lines-kept, lines-begun, end-kept, has_newline-behind, has_newline-nowhere, is_newline}
use Rattle.script_lang.proofs.feed.kept_len.Goals as goal

pub returns-in-Some-clause-lines : goal.returns-in-Some-clause-lines
returns-in-Some-clause-lines c later =
    let piece = c.args.piece.now in
    let place = c.in-Some.last in
    let inside : place < length piece = c.in-Some.ensures.0.high in
    let none : has_newline (drop (place + 1) piece) ≡ false = has_newline-behind piece (place + 1) (omega arith) c.in-Some.ensures.0.after in
    let left : length (drop (place + 1) piece) ≡ length piece - (place + 1) = length-drop (place + 1) piece in
    lines-kept c.args.most c.args.held.now piece later place c.min.result inside (is_newline _ c.in-Some.ensures.1) none (omega arith) (λ before. omega arith)

pub returns-in-Some-clause-end : goal.returns-in-Some-clause-end
returns-in-Some-clause-end c =
    end-kept c.args.most c.args.held.now c.args.piece.now c.in-Some.last c.min.result c.in-Some.ensures.0.high (is_newline _ c.in-Some.ensures.1) (omega arith)

pub returns-in-None-clause-lines : goal.returns-in-None-clause-lines
returns-in-None-clause-lines c later =
    lines-begun c.args.most c.args.held.now c.args.piece.now later c.min-in-None.result c.requires.begun (has_newline-nowhere c.args.piece.now c.in-None.ensures) (omega arith) (λ before. omega arith)

pub returns-in-None-clause-end : goal.returns-in-None-clause-end
returns-in-None-clause-end c k none =
    let held = c.args.held.now in
    let piece = c.args.piece.now in
    let kept = c.min-in-None.result in
    omega (arith, length-append held (take kept piece), length-take kept piece)
