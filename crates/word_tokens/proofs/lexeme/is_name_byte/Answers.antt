-- The table is held against the definition at each of the 256 bytes, by computing.
use Rattle.std.proofs.Common.{not, nat_eq, get_or, bit_and, refl, arith}
use Rattle.std.proofs.lemmas.Bool.{agree_below_at}
use Rattle.gcl_model.specs.Tokens.{is_name_byte}
use Rattle.word_tokens.specs.declared.classes.TheConstants.{CLASSES}
use Rattle.word_tokens.proofs.lexeme.is_name_byte.Goals as goal

pub returns : goal.returns
returns c = agree_below_at (λ k. not (nat_eq (bit_and (get_or CLASSES k 0) 2) 0)) is_name_byte 256 c.args.b refl (omega arith)
