-- Terms with their first bytes, for this crate alone.
use Rattle.std.specs.Prelude.{◌≡◌, List, Option}
use Rattle.std.specs.Option.{IfSome, option_map}
use Rattle.index_shard.specs.Kept.{AreBytes, leading}
use Rattle.index_shard.specs.Tables.{TermEntry}
use Rattle.slot_terms.specs.Parts.{head_term}
use Rattle.slot_terms.specs.declared.first.First.{First}

-- the number is that of the term's first eight bytes
pub record IsFirst (first : First) : Type 0 where
  pub head : first.head ≡ leading 8 0 first.term.now
  pub bytes : AreBytes first.term.now

-- the term of the first entry, if there is one
pub record IsFirstOf (entries : List TermEntry) (first : Option First) : Type 0 where
  pub term : option_map (λ (f : First). f.term.now) first ≡ head_term entries
  pub told : IfSome first IsFirst
