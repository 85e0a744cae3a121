use Rattle.std.proofs.Common.{◌≡◌, ◌++◌, ◌∷◌, [], ap, ◌∙◌}
use Rattle.address_space.specs.Runs.{FileEntry}
use Rattle.image_read.specs.Stretches.{stretch_of}
use Rattle.image_read.specs.declared.places.Stretch.{Stretch}
use Rattle.image_read.proofs.StretchLemmas.{counted_full, counted_step}
use Rattle.image_read.proofs.places.Places.new.Goals as goal

pub returns-then-most-total-clause-none : goal.returns-then-most-total-clause-none
returns-then-most-total-clause-none c none =
    let len : c.file.inside.len ≡ c.file-item.result.len = ap (λ (f : FileEntry). f.len) (c.file.view_is ∙ c.record-file.ensures.value) in
    counted_full c.args.files.now c.loop-file.file-index c.loop-file.stretches.items c.loop-file.total c.args.most c.file.inside.len c.file-item.result c.loop-file.invariant c.loop-file-test.true c.file-item.is len c.if-most-total.true

pub loop-file-preserved : goal.loop-file-preserved
loop-file-preserved c =
    let len : c.file.inside.len ≡ c.file-item.result.len = ap (λ (f : FileEntry). f.len) (c.file.view_is ∙ c.record-file.ensures.value) in
    let made = c.stretch_of.ensures ∙ ap (λ f. stretch_of f c.loop-file.total) c.record-file.ensures.value in
    counted_step c.args.files.now c.loop-file.file-index c.loop-file.stretches.items _ c.loop-file.total c.args.most c.file.inside.len c.file-item.result c.loop-file.invariant c.loop-file-test.true c.file-item.is len c.if-most-total.false
    (c.in_ok-push.ensures.items ∙ ap (λ (s : Stretch). c.loop-file.stretches.items ++ s ∷ []) made)
