use Rattle.std.proofs.Common.{◌≡◌, []}
use Rattle.gcl_model.specs.Limits.{most_line, most_script}
use Rattle.script_lang.specs.Lines.{lines}
use Rattle.command_words.specs.Grammar.{options_of}
use Rattle.script_answers.specs.States.{greatest_limits}
use Rattle.script_answers.specs.Stopped.{out_of_memory}
use Rattle.outside.specs.Causes.{Rose}
use Rattle.query_run.specs.declared.status.Status.TheVariants.{NoMemory}
use Rattle.query_run.specs.Statuses.{most_taken}
use Rattle.query_run.specs.Words.{first_of}
use Rattle.script_answers.specs.Answers.{output, names_of, names_kept_of}
use Rattle.query_run.proofs.Told.{nothing_of, nothing_of_made, none_stopped, kept_at, made_at, made_finishes}
use Rattle.query_run.proofs.StreamLemmas.{takes_none}
use Rattle.query_run.proofs.top.run.Goals as goal

pub returns-in-Err-clause-part : goal.returns-in-Err-clause-part
returns-in-Err-clause-part g c = nothing_of greatest_limits (first_of c.args.words.now) (g.S.Source.left c.args.source.now) (g.F.Files.held c.args.files.now) (g.K.Sink.written c.args.sink.now) output

pub returns-in-Err-clause-stopped : goal.returns-in-Err-clause-stopped
returns-in-Err-clause-stopped g c = none_stopped greatest_limits (first_of c.args.words.now) out_of_memory (λ failed. failed) (g.F.Files.unkept c.args.files.now ≡ g.F.Files.unkept c.args.files.now) (g.S.Source.left c.args.source.now) (g.F.Files.held c.args.files.now) (g.K.Sink.written c.args.sink.now)

pub returns-in-Err-clause-part_summed : goal.returns-in-Err-clause-part_summed
returns-in-Err-clause-part_summed g c = nothing_of_made (options_of c.args.words.now) (g.K.Sink.written c.args.sink.now)

-- a made run asks for no file of the caller's
pub returns-in-Some-clause-unasked : goal.returns-in-Some-clause-unasked
returns-in-Some-clause-unasked g c = kept_at (g.S.Source.left c.args.source.now) (λ script. names_of (lines most_line script) ≡ []) c.args.files.now

pub returns-in-Some-clause-unsaved : goal.returns-in-Some-clause-unsaved
returns-in-Some-clause-unsaved g c = kept_at (g.S.Source.left c.args.source.now) (λ script. names_kept_of (lines most_line script) ≡ []) (g.F.Files.held c.args.files.now)

pub returns-in-Err-clause-complete_made : goal.returns-in-Err-clause-complete_made
returns-in-Err-clause-complete_made g c = made_at (options_of c.args.words.now) _ NoMemory (λ calm. tt)

pub returns-in-Some-clause-complete_made : goal.returns-in-Some-clause-complete_made
returns-in-Some-clause-complete_made g c =
    let failed = Rose (g.K.Sink.faults c.args.sink.now) (g.K.Sink.faults c.run_made.new.sink) in
    made_at (options_of c.args.words.now) (failed → ⊥) c.run_made.result (made_finishes c.run_made.result failed c.run_made.ensures.ends c.run_made.ensures.write_fault)

pub returns-in-Err-clause-took : goal.returns-in-Err-clause-took
returns-in-Err-clause-took g c = takes_none most_script (g.S.Source.left c.args.source.now)

pub returns-in-Some-clause-took : goal.returns-in-Some-clause-took
returns-in-Some-clause-took g c = takes_none (most_taken most_script c.run_made.result) (g.S.Source.left c.args.source.now)
