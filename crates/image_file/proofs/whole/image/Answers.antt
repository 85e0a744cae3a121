use Rattle.std.proofs.Common.{◌++◌, [], length, ap, ◌∙◌}
use Rattle.live_version.specs.Contents.{files_of}
use Rattle.image_file.specs.declared.format.Format.TheVariants.{Two}
use Rattle.image_file.specs.Fields.{eight_bytes, mark, short_files}
use Rattle.image_file.proofs.ImageLaws.{image_is}
use Rattle.image_file.proofs.Writing.{image_spells, saved_packs, saved_short}
use Rattle.image_file.proofs.whole.image.Goals as goal

pub terms_text-requires : goal.terms_text-requires
terms_text-requires c = saved_short c.args.version.now c.requires

pub put_all-requires : goal.put_all-requires
put_all-requires c = saved_packs c.args.version.now c.requires

pub returns-clause-spells : goal.returns-clause-spells
returns-clause-spells c stands_for stands =
    let v = c.args.version.now in
    let text = c.in_ok-text.text in
    let out =
    c.of.ensures ∙ c.in_ok-put_all.ensures
    ∙ ap (λ l. l ++ mark Two ++ eight_bytes v.first ++ eight_bytes v.next ++ eight_bytes v.next_id ++ eight_bytes (length (files_of v.slots)) ++ short_files 0 v.first (files_of v.slots) ++ eight_bytes text.count ++ c.deref.result.now) c.new-out.ensures.items
    ∙ ap (λ l. [] ++ mark Two ++ eight_bytes v.first ++ eight_bytes v.next ++ eight_bytes v.next_id ++ eight_bytes (length (files_of v.slots)) ++ short_files 0 v.first (files_of v.slots) ++ eight_bytes text.count ++ l) c.deref.ensures.value in
    image_spells v text.count text.bytes.items c.of.result c.requires c.in_ok-text.ensures out stands_for stands

pub returns-clause-is : goal.returns-clause-is
returns-clause-is c = λ collection stands. image_is collection c.of.result (returns-clause-spells c collection stands)
