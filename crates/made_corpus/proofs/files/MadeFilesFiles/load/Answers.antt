use Rattle.std.proofs.Common.{arith}
use Rattle.made_corpus.specs.MadeFiles.{made_files, kept_over}
use Rattle.made_corpus.proofs.FileLemmas.{cut-long}
use Rattle.made_corpus.proofs.files.MadeFilesFiles.load.Goals as goal

pub returns-clause-loaded : goal.returns-clause-loaded
returns-clause-loaded c =
    cut-long (kept_over c.args.self.now.kept.items (made_files c.args.self.now.start c.args.self.now.count)) c.args.most c.args.name.now c.put_file.new.out.items c.truncate.new.self.items c.in_ok-put_file.ensures (omega arith) c.truncate.ensures.items
