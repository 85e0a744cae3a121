use Rattle.std.proofs.Common.{◌≡◌, ◌++◌, drop}
use Rattle.live_version.specs.Contents.{IsVersion, files_of}
use Rattle.image_file.specs.Fields.{short_files}
use Rattle.image_file.specs.Written.{ArePacked}
use Rattle.image_file.proofs.files.put_files.Given as goal

-- what was put, and the files that are left, are all of them
abbrev pub invariant-loop-i : goal.invariant-loop-i
invariant-loop-i l = record {
  version : IsVersion l.fn.version;
  together : l.out.items ++ short_files l.id l.at (drop l.i (files_of l.fn.version.slots)) ≡ l.fn.out.items ++ short_files 0 l.fn.version.first (files_of l.fn.version.slots);
  packed : ArePacked l.id l.at (drop l.i (files_of l.fn.version.slots));
}
