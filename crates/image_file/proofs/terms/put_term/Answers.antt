use Rattle.std.proofs.Common.{◌^◌, arith}
use Rattle.posting_code.proofs.Rising.{rise_length}
use Rattle.image_file.proofs.terms.put_term.Goals as goal

pub put_number-requires : goal.put_number-requires
put_number-requires c = let long = rise_length c.args.first (2 ^ 56) c.args.addresses.now c.requires.rising in omega (arith, long)
