-- The rows of the names that were seen, handed over one after the other.
use Rattle.std.proofs.Common.{◌≡◌, ℕ, List, [], ◌∷◌, ◌++◌, get_or, refl, sym, ap, ◌∙◌, subst}
use Rattle.std.proofs.lemmas.List.{append_assoc}
use Rattle.gcl_model.specs.Slots.{SlotRange}
use Rattle.index_shard.specs.Tables.{TermEntry, ShardContent, IsTable}
use Rattle.shard_build.specs.Groups.{table_of}
use Rattle.shard_build.specs.Handed.{ComesNext, entry_at}
use Rattle.shard_build.specs.Met.{AreNames, list_at, name_at, names_of, rows_of, with_list}
use Rattle.shard_build.specs.declared.seen.Seen.{Seen}
use Rattle.shard_build.proofs.NameLists.{Entries, keys_set}
use Rattle.shard_build.proofs.SeenRows.{rows_next}
use Rattle.shard_build.proofs.Tables.{comes_next}

-- what is made, the entry of the last that was seen, and the rows that are left, are the whole table
pub row_comes : (es fs : Entries) (seen all : List Seen) (s : Seen) (done whole : List TermEntry) → all ≡ seen ++ s ∷ [] → fs ≡ with_list es s.number [] → AreNames (names_of es all) →
    done ++ table_of (rows_of (names_of es all)) ≡ whole → done ++ entry_at es s ∷ table_of (rows_of (names_of fs seen)) ≡ whole
row_comes es fs seen all s done whole is set names rest = ap (λ rows. done ++ table_of rows) (sym (rows_next es fs seen all s is set names)) ∙ rest

-- so it comes next
pub row_fits : (range range' : SlotRange) (es : Entries) (seen all : List Seen) (s : Seen) (done whole : List TermEntry) → all ≡ seen ++ s ∷ [] → AreNames (names_of es all) →
    done ++ table_of (rows_of (names_of es all)) ≡ whole → IsTable range whole → range' ≡ range → ComesNext range' done (entry_at es s)
row_fits range range' es seen all s done whole is names rest table same =
    let left = table_of (rows_of (names_of (with_list es s.number []) seen)) in
    let here = row_comes es (with_list es s.number []) seen all s done whole is refl names rest in
    subst (λ r. ComesNext r done (entry_at es s)) (sym same) (comes_next range done left (entry_at es s) (subst (IsTable range) (sym here) table))

-- and so it is when the maker has the entry
pub row_made : (done made left whole : List TermEntry) (e : TermEntry) → made ≡ done ++ e ∷ [] → done ++ e ∷ left ≡ whole → made ++ left ≡ whole
row_made done made left whole e pushed is = ap (λ l. l ++ left) pushed ∙ append_assoc done (e ∷ []) left ∙ is

-- the entry by what was read of it
pub entry_read : (es : Entries) (s : Seen) (term addresses : List ℕ) → term ≡ name_at es s.number → addresses ≡ list_at es s.number → record { term = term; addresses = addresses } ≡ entry_at es s
entry_read es s term addresses named listed = λ i. record { term = named i; addresses = listed i }

-- the entry by what was read of it, once its list was taken
pub entry_taken : (es fs : Entries) (s : Seen) (term addresses : List ℕ) → fs ≡ with_list es s.number [] → term ≡ name_at fs s.number → addresses ≡ list_at es s.number → record { term = term; addresses = addresses } ≡ entry_at es s
entry_taken es fs s term addresses set named listed = entry_read es s term addresses (named ∙ ap (λ l. name_at l s.number) set ∙ ap (λ ks. get_or ks s.number []) (keys_set es s.number [])) listed

pub same_shard : (s : ShardContent) (range : SlotRange) (table : List TermEntry) → s.range ≡ range → s.table ≡ table → s ≡ record { range = range; table = table }
same_shard s range table a b = λ i. record { range = a i; table = b i }
