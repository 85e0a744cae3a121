use Rattle.std.proofs.Common.{◌≡◌, ◌∙◌, ℕ, List, [], map, ap, sym, Bor}
use Rattle.std.proofs.lemmas.Result.{IfOk-weaker}
use Rattle.clap.specs.Words.{App, app_of, fault_of, found_of, is_simple, is_simple_and_free, matches_of, rows_of}
use Rattle.command_words.specs.Program.{program}
use Rattle.command_words.proofs.LevelLemmas.{error_outside, is_free_program, is_none, is_simple_program, matches_options}
use Rattle.command_words.proofs.reader.options_in.Goals as goal

pub returns-in-Ok : goal.returns-in-Ok
returns-in-Ok c =
    let texts = map (λ (text : Bor (List ℕ)). text.now) c.args.texts.now in
    let app : app_of c.in_ok-command.field-0 ≡ program = c.in_ok-command.ensures in
    let found : rows_of (found_of c.in-Ok.matches) ≡ matches_of program texts =
    (c.in-Ok.ensures.matches (ap is_simple app ∙ is_simple_program)).0 ∙ ap (λ (a : App). matches_of a texts) app in
    let clear : fault_of program texts ≡ [] = sym (ap (λ (a : App). fault_of a texts) app) ∙ c.in-Ok.ensures.kinds (ap is_simple_and_free app ∙ is_free_program) in
    c.options_of_matches.ensures ∙ matches_options (found_of c.in-Ok.matches) texts found c.requires clear

pub returns-in-Err : goal.returns-in-Err
returns-in-Err c =
    let texts = map (λ (text : Bor (List ℕ)). text.now) c.args.texts.now in
    let app : app_of c.in_ok-command.field-0 ≡ program = c.in_ok-command.ensures in
    IfOk-weaker c.refusal.result _ _
    (λ options h. is_none options h.0 ∙ sym (error_outside (fault_of (app_of c.in_ok-command.field-0) texts) texts c.in-Err.fault c.requires (ap (λ (a : App). fault_of a texts) app)
    (c.in-Err.ensures.kinds (ap is_simple_and_free app ∙ is_free_program)) (λ memory. h.1 (c.kind.ensures ∙ memory))))
    c.refusal.ensures
