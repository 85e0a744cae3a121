use Rattle.std.proofs.Common.{◌≡◌, ◌+◌, ◌++◌, drop, sym, ap, subst, arith}
use Rattle.address_space.specs.Runs.{FileEntry}
use Rattle.live_version.specs.Contents.{files_of}
use Rattle.image_file.specs.Fields.{short_files}
use Rattle.image_file.specs.Written.{ArePacked}
use Rattle.image_file.proofs.Packing.{packed_next, put_next}
use Rattle.image_file.proofs.files.put_files.Goals as goal

pub put_file-requires : goal.put_file-requires
put_file-requires c = (packed_next c.loop-i.id c.loop-i.at c.loop-i.i (files_of c.args.version.now.slots) c.file_at-file.result.now c.file_at-file.ensures.value c.loop-i.invariant.packed).can

pub overflow_add-id : goal.overflow_add-id
overflow_add-id c =
    let next = packed_next c.loop-i.id c.loop-i.at c.loop-i.i (files_of c.args.version.now.slots) c.file_at-file.result.now c.file_at-file.ensures.value c.loop-i.invariant.packed in
    let small = next.can.small in
    let id : c.file.inside.id.0 ≡ c.file_at-file.result.now.id = ap (λ (f : FileEntry). f.id) c.file.view_is in
    omega (arith, small, id)

pub loop-i-preserved : goal.loop-i-preserved
loop-i-preserved c =
    let v = c.args.version.now in
    let file = c.file_at-file.result.now in
    let files = files_of v.slots in
    let next = packed_next c.loop-i.id c.loop-i.at c.loop-i.i files file c.file_at-file.ensures.value c.loop-i.invariant.packed in
    let together = put_next c.loop-i.id c.loop-i.at c.loop-i.i files file c.loop-i.out.items c.put_file.new.out.items _ next c.loop-i.invariant.together c.in_ok-put_file.ensures in
    let is = sym c.file.view_is in
    record {
      version = c.loop-i.invariant.version;
      together = subst (λ (f : FileEntry). c.put_file.new.out.items ++ short_files (f.id + 1) (f.base + f.len) (drop (c.loop-i.i + 1) files) ≡ c.args.out.now.items ++ short_files 0 v.first files) is together;
      packed = subst (λ (f : FileEntry). ArePacked (f.id + 1) (f.base + f.len) (drop (c.loop-i.i + 1) files)) is next.later;
    }
