use Rattle.std.proofs.Common.{◌≡◌, [], refl, subst}
use Rattle.script_answers.specs.declared.task.Task.{Task}
use Rattle.script_answers.specs.inner.Tasks.{IsTaskOf, task_kept, task_names}
use Rattle.script_answers.proofs.Exits.{still}
use Rattle.script_answers.proofs.Service.{takes_as, takes_for}
use Rattle.script_answers.proofs.serving.serve_task.Goals as goal

pub returns-in-Ask-clause-takes : goal.returns-in-Ask-clause-takes
returns-in-Ask-clause-takes g c = takes_for _ _ _ _ _ IsTaskOf _ _ c.in-Ask.is
    (takes_as c.args.setting.now.limits _ _ _ _ _ c.serve_ask.result (λ kept. tt) (c.serve_ask.ensures.takes (g.F.Files.held c.args.files.now)))

pub returns-in-Ask-clause-leaves : goal.returns-in-Ask-clause-leaves
returns-in-Ask-clause-leaves g c = record { files = record { quiet = λ none. refl; unsaved = λ none. refl; sure = λ due. refl }; sink = c.serve_ask.ensures.leaves.sink; faults = still _ _ refl c.serve_ask.ensures.leaves.ours }

pub returns-in-Nothing-clause-takes : goal.returns-in-Nothing-clause-takes
returns-in-Nothing-clause-takes g c = takes_for _ _ _ _ _ IsTaskOf _ _ c.in-Nothing.is
    (takes_as c.args.setting.now.limits _ _ _ _ _ c.serve_nothing.result (λ kept. tt) (c.serve_nothing.ensures.takes (g.F.Files.held c.args.files.now)))

pub returns-in-Nothing-clause-leaves : goal.returns-in-Nothing-clause-leaves
returns-in-Nothing-clause-leaves g c = record { files = record { quiet = λ none. refl; unsaved = λ none. refl; sure = λ due. refl }; sink = c.serve_nothing.ensures.leaves.sink; faults = still _ _ refl c.serve_nothing.ensures.leaves.ours }

pub returns-in-Act-clause-takes : goal.returns-in-Act-clause-takes
returns-in-Act-clause-takes g c = takes_for _ _ _ _ _ IsTaskOf _ _ c.in-Act.is c.serve_action_behind.ensures.takes

pub returns-in-Act-clause-leaves : goal.returns-in-Act-clause-leaves
returns-in-Act-clause-leaves g c =
    let leaves = c.serve_action_behind.ensures.leaves in
    record {
      files = record {
        quiet = λ none. leaves.files.quiet (subst (λ (t : Task). task_names t ≡ []) c.in-Act.is none);
        unsaved = λ none. leaves.files.unsaved (subst (λ (t : Task). task_kept t ≡ []) c.in-Act.is none);
        sure = leaves.files.sure;
      };
      sink = leaves.sink;
      faults = leaves.faults;
    }
