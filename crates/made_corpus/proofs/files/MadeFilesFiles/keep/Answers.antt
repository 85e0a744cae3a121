use Rattle.std.proofs.Common.{◌≡◌, ◌∷◌, ◌∙◌, Some, ap, rules}
use Rattle.made_corpus.specs.MadeFiles.{made_files, kept_over}
use Rattle.made_corpus.proofs.FileLemmas.{kept_over-first}
use Rattle.made_corpus.proofs.files.MadeFilesFiles.keep.Goals as goal
use Rattle.outside.proofs.Keeping.{changes_none}

pub returns-in-Err-clause-kept : goal.returns-in-Err-clause-kept
returns-in-Err-clause-kept c =
    let same : c.put_entry.new.kept.items ≡ c.args.self.now.kept.items = search rules in
    changes_none c.args.name.now _ _ (ap (λ kept. Some (kept_over kept (made_files c.args.self.now.start c.args.self.now.count))) same)

pub returns-in-Ok-clause-kept : goal.returns-in-Ok-clause-kept
returns-in-Ok-clause-kept c =
    let put : c.put_entry.new.kept.items ≡ (c.args.name.now, c.args.bytes.now) ∷ c.args.self.now.kept.items = search rules in
    ap (λ kept. Some (kept_over kept (made_files c.args.self.now.start c.args.self.now.count))) put
    ∙ ap Some (kept_over-first c.args.name.now c.args.bytes.now c.args.self.now.kept.items (made_files c.args.self.now.start c.args.self.now.count))
