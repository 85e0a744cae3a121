use Rattle.std.proofs.Common.{◌≡◌, ◌∷◌, ◌∙◌, Some, ap, rules}
use Rattle.outside.specs.Contents.{content_of}
use Rattle.outside.proofs.Keeping.{changes_none, content_of-first}
use Rattle.outside.proofs.files.MemFilesFiles.keep.Goals as goal

pub returns-in-Err-clause-kept : goal.returns-in-Err-clause-kept
returns-in-Err-clause-kept c =
    let same : c.put.new.self.held.items ≡ c.args.self.now.held.items = search rules in
    changes_none c.args.name.now _ _ (ap (λ held. Some (content_of held)) same)

pub returns-in-Ok-clause-kept : goal.returns-in-Ok-clause-kept
returns-in-Ok-clause-kept c =
    let put : c.put.new.self.held.items ≡ (c.args.name.now, c.args.bytes.now) ∷ c.args.self.now.held.items = search rules in
    ap (λ held. Some (content_of held)) put ∙ ap Some (content_of-first c.args.name.now c.args.bytes.now c.args.self.now.held.items)
