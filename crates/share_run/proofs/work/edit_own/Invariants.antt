use Rattle.std.specs.Prelude.{◌≡◌, ◌+◌, ◌*◌, ◌<◌, ◌≤◌}
use Rattle.share_run.specs.Work.{answers_of, files_for}
use Rattle.share_run.proofs.work.edit_own.Given as goal

-- what the editor did with its files below i
abbrev pub invariant-loop-i : goal.invariant-loop-i
invariant-loop-i g l = record {
  number : l.editor.number ≡ l.initial.editor.number;
  answers : answers_of l.editor ≡ answers_of l.initial.editor + files_for l.editors l.initial.editor.number l.i + l.progress.dels;
  added : l.editor.added ≡ l.initial.editor.added + 3 * l.progress.dels + l.progress.taken;
  few : l.progress.taken < 3;
  within : l.editor.added ≤ l.initial.editor.added + files_for l.editors l.initial.editor.number l.i;
  gone : l.editor.gone ≤ l.initial.editor.gone + l.progress.dels;
  dels : l.progress.dels ≤ l.i;
}
