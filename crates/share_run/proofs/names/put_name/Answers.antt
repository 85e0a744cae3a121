use Rattle.std.proofs.Common.{◌≡◌, List, ℕ, true, sym, subst, rules}
use Rattle.gcl_model.specs.Names.{is_name}
use Rattle.made_corpus.specs.MadeFiles.{name_of}
use Rattle.share_run.proofs.NameLemmas.{made_name}
use Rattle.share_run.proofs.names.put_name.Goals as goal

pub returns-clause-name : goal.returns-clause-name
returns-clause-name c =
    let same : c.extend_from_slice-2.new.self.items ≡ name_of c.args.i = search rules in
    subst (λ (l : List ℕ). is_name l ≡ true) (sym same) (made_name c.args.i c.ranges.i.fits)
