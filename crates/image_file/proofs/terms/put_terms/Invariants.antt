use Rattle.std.proofs.Common.{◌≡◌}
use Rattle.slot_terms.specs.Parts.{entries_left}
use Rattle.live_version.specs.Contents.{IsVersion}
use Rattle.image_file.proofs.Writing.{Writes}
use Rattle.image_file.proofs.terms.put_terms.Given as goal

-- the text has the terms so far, and the rest is still to come
abbrev pub invariant-loop-addresses : goal.invariant-loop-addresses
invariant-loop-addresses l = record {
  version : IsVersion l.fn.version;
  first : l.first ≡ l.fn.version.first;
  writes : Writes l.fn.version l.terms l.text.count l.text.bytes.items;
}

abbrev pub decreases-loop-addresses : goal.decreases-loop-addresses
decreases-loop-addresses l = entries_left l.terms
