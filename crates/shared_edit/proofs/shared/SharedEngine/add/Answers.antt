use Rattle.std.proofs.Common.{subst}
use Rattle.gcl_model.specs.Tokens.{tokens_of}
use Rattle.shared_edit.specs.Drafts.{DraftContent}
use Rattle.shared_edit.specs.Shared.{ShowsSpent}
use Rattle.shared_edit.proofs.shared.SharedEngine.add.Goals as goal

pub returns-clause-spent : goal.returns-clause-spent
returns-clause-spent g c = λ need seen e.
    let spent = c.add.ensures.spent need seen e in
    (spent.0, subst (λ (d : DraftContent). ShowsSpent (tokens_of d.bytes) need seen.history) c.in_ok-draft.ensures.draft spent.1)
