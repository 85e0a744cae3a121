-- A name's addresses as the next entry of a shard that is being made.
use Rattle.std.specs.Prelude.{ℕ, List}
use Rattle.std.specs.Option.{IfSome}
use Rattle.std.specs.List.{AllByRecursion}
use Rattle.gcl_model.specs.Slots.{SlotRange}
use Rattle.index_shard.specs.Tables.{TermEntry, ArePostingsIn, AreApart, ComesBefore, last_entry}
use Rattle.shard_build.specs.Groups.{table_entry}
use Rattle.shard_build.specs.Met.{row_at}
use Rattle.shard_build.specs.declared.seen.Seen.{Seen}

-- what an entry of a table is to those before it: its term comes after, its addresses lie in the range, and none is under two terms
pub record ComesNext (range : SlotRange) (done : List TermEntry) (e : TermEntry) : Type 0 where
  pub before : IfSome (last_entry done) (λ last. ComesBefore last.term e.term)
  pub postings : ArePostingsIn range e.addresses
  pub apart : AllByRecursion (λ d. AreApart d.addresses e.addresses) done

-- the entry of a name that was seen, with its list
abbrev pub entry_at : List (List ℕ × List ℕ) → Seen → TermEntry
entry_at entries s = table_entry (row_at entries s)
