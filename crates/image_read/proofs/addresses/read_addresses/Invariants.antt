use Rattle.std.proofs.Common.{ℕ, List, ◌+◌}
use Rattle.image_read.specs.Reading.{IsCountFront}
use Rattle.image_read.proofs.AddressTracking.{AreRead}
use Rattle.image_read.proofs.addresses.read_addresses.Given as goal

-- this many addresses were read behind their number, and an image of the bytes has these and others
abbrev pub invariant-loop-i : goal.invariant-loop-i
invariant-loop-i l =
    (whole : List ℕ) × IsCountFront l.fn.head.format l.fn.bytes l.i-end whole × AreRead l.fn.head.first l.fn.head.next l.i-end l.fn.places l.fn.role whole l.i l.before l.places l.list.list l.list.rest (l.before + 1)
