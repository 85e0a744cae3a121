use Rattle.std.proofs.Common.{◌≡◌, true, List, [], ◌∷◌, ◌++◌, sym, ap, ◌∙◌, subst}
use Rattle.std.specs.List.{AllByRecursion}
use Rattle.gcl_model.specs.Texts.{Word}
use Rattle.address_space.specs.Runs.{FileEntry}
use Rattle.index_shard.specs.Tables.{words_of}
use Rattle.live_version.specs.Contents.{is_of_files}
use Rattle.live_version.proofs.ChangeAdd.{owned_by_file}
use Rattle.live_version.proofs.slot_list.file_slot.Goals as goal

pub new-requires-clause-owned : goal.new-requires-clause-owned
new-requires-clause-owned c =
    let files : c.push.new.self ≡ c.args.file ∷ [] = c.in_ok-push.ensures.ok ∙ ap (λ l. l ++ c.args.file ∷ []) c.new-files.ensures in
    subst (λ (files : List FileEntry). AllByRecursion (λ (w : Word). is_of_files files w.address ≡ true) (words_of c.args.shard)) (sym files)
    (owned_by_file c.args.file c.args.shard c.known.ensures c.requires c.range-range.ensures.placed)
