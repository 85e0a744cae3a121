use Rattle.std.proofs.Common.{◌≡◌, ◌∷◌, ◌∙◌, Some, ap, rules}
use Rattle.outside.specs.Contents.{sure_content_of}
use Rattle.outside.proofs.Keeping.{changes_none, sure_content_of-first}
use Rattle.outside.proofs.files.SureFilesFiles.keep.Goals as goal

pub returns-in-Err-clause-kept : goal.returns-in-Err-clause-kept
returns-in-Err-clause-kept c =
    let same : c.put_entry.new.held.items ≡ c.args.self.now.held.items = search rules in
    changes_none c.args.name.now _ _ (ap (λ held. Some (sure_content_of held)) same)

pub returns-in-Ok-clause-kept : goal.returns-in-Ok-clause-kept
returns-in-Ok-clause-kept c =
    let put : c.put_entry.new.held.items ≡ (c.args.name.now, c.args.bytes.now) ∷ c.args.self.now.held.items = search rules in
    ap (λ held. Some (sure_content_of held)) put ∙ ap Some (sure_content_of-first c.args.name.now c.args.bytes.now c.args.self.now.held.items)
