use Rattle.std.proofs.Common.{◌≡◌, ◌^◌, ◌++◌, drop}
use Rattle.posting_code.specs.Packed.{packed_from}
use Rattle.posting_code.specs.Postings.{RiseWithin}
use Rattle.image_file.proofs.terms.put_differences.Given as goal

-- what was put, and the differences that are left, are all of them
abbrev pub invariant-loop-address : goal.invariant-loop-address
invariant-loop-address l = record {
  together : l.out.items ++ packed_from l.before (drop l.address-index l.fn.addresses) ≡ l.fn.out.items ++ packed_from l.fn.from l.fn.addresses;
  rising : RiseWithin l.before (2 ^ 56) (drop l.address-index l.fn.addresses);
}
