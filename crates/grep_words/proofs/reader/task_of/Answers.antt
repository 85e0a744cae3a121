use Rattle.std.proofs.Common.{◌≡◌, ◌∙◌, List, [], map, ap, sym}
use Rattle.std.specs.Prelude.{string_bytes}
use Rattle.clap.specs.Words.{App, Text, app_of, fault_of, found_of, is_simple, is_simple_and_free, matches_of, rows_of}
use Rattle.grep_words.specs.Grammar.{task_in, task_of}
use Rattle.grep_words.specs.Program.{program}
use Rattle.grep_words.proofs.Taken.{is_free_program, is_simple_program, not_taken, on_ok, refusal_is, taken_is}
use Rattle.grep_words.proofs.reader.task_of.Goals as goal

pub returns-in-Ok : goal.returns-in-Ok
returns-in-Ok c =
    let texts : List Text = map string_bytes c.args.words.now in
    let app : app_of c.in_ok-command.field-0 ≡ program = c.in_ok-command.ensures in
    let found : rows_of (found_of c.in-Ok.matches) ≡ matches_of program texts =
    (c.in-Ok.ensures.matches (ap is_simple app ∙ is_simple_program)).0 ∙ ap (λ (a : App). matches_of a texts) app in
    let clear : fault_of program texts ≡ [] = sym (ap (λ (a : App). fault_of a texts) app) ∙ c.in-Ok.ensures.kinds (ap is_simple_and_free app ∙ is_free_program) in
    on_ok c.task_in.result (task_in (rows_of (found_of c.in-Ok.matches))) (task_of texts) (taken_is texts (rows_of (found_of c.in-Ok.matches)) found clear) c.task_in.ensures

pub returns-in-Err : goal.returns-in-Err
returns-in-Err c =
    let texts : List Text = map string_bytes c.args.words.now in
    let app : app_of c.in_ok-command.field-0 ≡ program = c.in_ok-command.ensures in
    refusal_is c.refusal.result texts c.kind.result
    (λ other. not_taken texts c.in-Err.fault (fault_of (app_of c.in_ok-command.field-0) texts) (ap (λ (a : App). fault_of a texts) app)
    (c.in-Err.ensures.kinds (ap is_simple_and_free app ∙ is_free_program)) (λ memory. other (c.kind.ensures ∙ memory)))
    c.refusal.ensures
