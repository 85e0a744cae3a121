use Rattle.image_read.proofs.FileTracking.{AreReadFiles}
use Rattle.image_read.proofs.files.read_files.Given as goal

-- this many files were read, and an image of the bytes has these and others
abbrev pub invariant-loop-i : goal.invariant-loop-i
invariant-loop-i l = AreReadFiles l.fn.head.format l.fn.head.first l.fn.head.next l.fn.head.next_id l.fn.head.files l.fn.bytes l.i l.files l.least.id l.least.base l.rest
