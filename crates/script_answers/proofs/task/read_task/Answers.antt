use Rattle.std.proofs.Common.{rules}
use Rattle.script_answers.proofs.TaskLemmas.{task_of_line}
use Rattle.script_answers.proofs.task.read_task.Goals as goal

pub returns-clause-task : goal.returns-clause-task
returns-clause-task c = task_of_line (record { long = c.args.long; bytes = c.args.bytes.now }) (search rules) c.in_ok-task.task c.in_ok-command.command (search rules) c.in_ok-task.ensures.task
