use Rattle.std.proofs.Common.{◌≡◌, ◌+◌, ◌-◌, Some, sym, ap, ◌∙◌, subst}
use Rattle.address_space.specs.Runs.{FileEntry}
use Rattle.gcl_locality.specs.Agreement.{AgreeOutside}
use Rattle.live_version.specs.Changes.{file_with_id}
use Rattle.live_version.specs.Contents.{files_of, version_text}
use Rattle.answer_text.specs.declared.answer.Answer.{Answer}
use Rattle.answer_text.specs.Given.{IsLocal}
use Rattle.answer_text.proofs.telling.edited.Goals as goal

pub returns-in-Added : goal.returns-in-Added
returns-in-Added c = λ now local. subst (λ (a : Answer). IsLocal a c.args.before.now now) c.in-Added.is local

pub returns-in_ok-file-in-Gone : goal.returns-in_ok-file-in-Gone
returns-in_ok-file-in-Gone c = λ now local.
    let here : (file : FileEntry) → file_with_id c.in-Gone.id (files_of c.args.before.now.slots) ≡ Some file → AgreeOutside (version_text c.args.before.now) (version_text now) file.base (file.base + file.len - 1) =
    subst (λ (a : Answer). IsLocal a c.args.before.now now) c.in-Gone.is local in
    here _ (c.in_ok-file-in-Gone.ensures.value ∙ ap (λ (f : FileEntry). Some f) (sym c.file.view_is))
