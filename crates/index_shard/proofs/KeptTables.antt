-- What is kept of a table: one entry more, and halving over the entries as over the table.
use Rattle.std.proofs.Common.{◌≡◌, ℕ, zero, suc, ◌+◌, ◌<◌, ◌≤◌, Bool, Option, List, [], ◌∷◌, ◌++◌, length, map, get_or, take, drop, nat_cmp, Some, refl, sym, ap, ◌∙◌, subst, arith, le_refl}
use Rattle.std.specs.declared.cmp.Ordering.TheVariants.{Less, Equal, Greater}
use Rattle.std.specs.Ordering.{ordering_index, ordering_then}
use Rattle.std.specs.Cmp.Lexicographic.{slice_cmp}
use Rattle.std.specs.List.{AllByRecursion, slice_get}
use Rattle.std.specs.List.Sorted.{IsNonDecreasingBy, IsPartitionPoint}
use Rattle.std.proofs.lemmas.List.{get_or-map, get_or_append_left, get_or-append-add, length-map, map-append, take-append-le, take-append-drop, drop-append-le, length-append, length-drop, take_all}
use Rattle.std.proofs.Math.Seq.{drop-append_seam, take-append_seam}
use Rattle.gcl_model.specs.Slots.{SlotRange}
use Rattle.posting_code.specs.Postings.{ArePostings}
use Rattle.posting_code.specs.Packed.{kept, last_of, packed_of, IsKeptTo}
use Rattle.posting_code.proofs.Shorts.{short_of}
use Rattle.index_shard.specs.Tables.{TermEntry, IsTable, addresses_at, place_of, least_term}
use Rattle.index_shard.specs.Kept.{leading, AreBytes, part_of, list_in, entry_in, kept_entry, table_in, IsTermIn, IsListIn, AreKeptIn, IsPutShort, order_in}
use Rattle.index_shard.specs.declared.entry.Entry.{Entry}
use Rattle.index_shard.specs.declared.entry.Kept.{Kept}
use Rattle.index_shard.specs.declared.entry.Kept.TheVariants.{Short, Long}
use Rattle.index_shard.proofs.Heads.{heads_first}
use Rattle.index_shard.proofs.TableLaws.{all_at, all_push, term_entry}

pub part_bytes : (bytes : List ℕ) (start size : ℕ) → AreBytes bytes → AreBytes (part_of bytes start size)
part_bytes [] zero zero bytes k = bytes k
part_bytes [] zero (suc size) bytes k = bytes k
part_bytes [] (suc start) zero bytes k = bytes k
part_bytes [] (suc start) (suc size) bytes k = bytes k
part_bytes (x ∷ xs) (suc start) size bytes k = part_bytes xs start size (λ j. bytes (suc j)) k
part_bytes (x ∷ xs) zero zero bytes k = omega arith
part_bytes (x ∷ xs) zero (suc size) bytes zero = bytes 0
part_bytes (x ∷ xs) zero (suc size) bytes (suc k) = part_bytes xs zero size (λ j. bytes (suc j)) k

-- the order that an entry shows is that of its term
pub kept_order : (bytes packed : List ℕ) (long : List (List ℕ)) (term : List ℕ) (head : ℕ) (e : Entry) → AreBytes bytes → AreBytes term → head ≡ leading 8 0 term → IsTermIn bytes e →
    order_in bytes head term e ≡ slice_cmp nat_cmp (entry_in bytes packed long e).term term
kept_order bytes packed long term head e bs ts is kept =
    let mine = part_of bytes e.start e.size in
    ap (λ h. ordering_then (nat_cmp h head) (slice_cmp nat_cmp mine term)) kept.head
    ∙ ap (λ h. ordering_then (nat_cmp (leading 8 0 mine) h) (slice_cmp nat_cmp mine term)) is
    ∙ heads_first 8 mine term (part_bytes bytes e.start e.size bs) ts

order_here : (bytes packed : List ℕ) (long : List (List ℕ)) (term : List ℕ) (head : ℕ) (es : List Entry) (k : ℕ) (d : Entry) (f : TermEntry) → AreBytes bytes → AreBytes term → head ≡ leading 8 0 term → AllByRecursion (IsTermIn bytes) es → k < length es →
    order_in bytes head term (get_or es k d) ≡ slice_cmp nat_cmp (get_or (table_in bytes packed long es) k f).term term
order_here bytes packed long term head es k d f bs ts is kept lt =
    kept_order bytes packed long term head (get_or es k d) bs ts is (all_at (IsTermIn bytes) es k d kept lt)
    ∙ ap (λ (x : TermEntry). slice_cmp nat_cmp x.term term) (sym (get_or-map (entry_in bytes packed long) es k d f lt))

no_entry : Entry
no_entry = record { head = 0; start = 0; size = 0; list = Long 0 }

-- halving may search the entries if it may search the table
pub kept_searchable : (bytes packed : List ℕ) (long : List (List ℕ)) (term : List ℕ) (head : ℕ) (es : List Entry) → AreBytes bytes → AreBytes term → head ≡ leading 8 0 term → AllByRecursion (IsTermIn bytes) es →
    IsNonDecreasingBy (λ e. ordering_index (slice_cmp nat_cmp e.term term)) (table_in bytes packed long es) → IsNonDecreasingBy (λ e. ordering_index (order_in bytes head term e)) es
kept_searchable bytes packed long term head es bs ts is kept rises i j d le lt =
    let f : TermEntry = entry_in bytes packed long d in
    let reach : j < length (table_in bytes packed long es) = subst (λ n. j < n) (sym (length-map es (entry_in bytes packed long))) lt in
    let one = ap ordering_index (order_here bytes packed long term head es i d f bs ts is kept (omega (arith, le, lt))) in
    let two = ap ordering_index (order_here bytes packed long term head es j d f bs ts is kept lt) in
    subst (λ a. a ≤ ordering_index (order_in bytes head term (get_or es j d))) (sym one) (subst (λ b. ordering_index (slice_cmp nat_cmp (get_or (table_in bytes packed long es) i f).term term) ≤ b) (sym two) (rises i j f le reach))

-- an entry that was met is met in the table
pub kept_met : (bytes packed : List ℕ) (long : List (List ℕ)) (term : List ℕ) (head : ℕ) (es : List Entry) (i : ℕ) (f : TermEntry) → AreBytes bytes → AreBytes term → head ≡ leading 8 0 term → AllByRecursion (IsTermIn bytes) es → i < length es →
    ((d : Entry) → order_in bytes head term (get_or es i d) ≡ Equal) → slice_cmp nat_cmp (get_or (table_in bytes packed long es) i f).term term ≡ Equal
kept_met bytes packed long term head es i f bs ts is kept lt met = sym (order_here bytes packed long term head es i no_entry f bs ts is kept lt) ∙ met no_entry

-- and a place between the lesser and the greater ones is one in the table
pub kept_parted : (bytes packed : List ℕ) (long : List (List ℕ)) (term : List ℕ) (head : ℕ) (es : List Entry) (i : ℕ) → AreBytes bytes → AreBytes term → head ≡ leading 8 0 term → AllByRecursion (IsTermIn bytes) es → i ≤ length es →
    IsPartitionPoint (λ e. order_in bytes head term e ≡ Less) (λ e. order_in bytes head term e ≡ Greater) es i →
    IsPartitionPoint (λ e. slice_cmp nat_cmp e.term term ≡ Less) (λ e. slice_cmp nat_cmp e.term term ≡ Greater) (table_in bytes packed long es) i
kept_parted bytes packed long term head es i bs ts is kept le parted =
    let reach = length-map es (entry_in bytes packed long) in (
      λ k f low lt. sym (order_here bytes packed long term head es k no_entry f bs ts is kept (omega (arith, lt, le))) ∙ parted.0 k no_entry low lt,
      λ k f low lt. let within : k < length es = omega (arith, lt, reach) in sym (order_here bytes packed long term head es k no_entry f bs ts is kept within) ∙ parted.1 k no_entry low within,
    )

-- what is in a row stays there when more is added at the end
part_more : (bytes more : List ℕ) (start size : ℕ) → start + size ≤ length bytes → part_of (bytes ++ more) start size ≡ part_of bytes start size
part_more bytes more start size le =
    let long = length-drop start bytes in
    ap (take size) (drop-append-le start bytes more (omega (arith, le))) ∙ take-append-le size (drop start bytes) more (omega (arith, le, long))

list_more : (packed p : List ℕ) (long l : List (List ℕ)) (list : Kept) → IsListIn packed long list → list_in (packed ++ p) (long ++ l) list ≡ list_in packed long list
list_more packed p long l (Short first last at size count) is = ap (kept count first) (part_more packed p at size is.0)
list_more packed p long l (Long place) is = get_or_append_left long l [] place is

still_list : (packed p : List ℕ) (long l : List (List ℕ)) (list : Kept) → IsListIn packed long list → IsListIn (packed ++ p) (long ++ l) list
still_list packed p long l (Short first last at size count) is =
    let within = is.0 in
    let wide = length-append packed p in
    (omega (arith, within, wide), subst (λ part. IsKeptTo last count first part []) (sym (part_more packed p at size is.0)) is.1)
still_list packed p long l (Long place) is = let wide = length-append long l in omega (arith, is, wide)

-- the entries after the first
rest_kept : (bytes packed : List ℕ) (long : List (List ℕ)) (e : Entry) (es : List Entry) → AreKeptIn bytes packed long (e ∷ es) → AreKeptIn bytes packed long es
rest_kept bytes packed long e es are = record { terms = are.terms.1; lists = are.lists.1 }

-- what is put after the rows changes no entry
pub table_more : (bytes b packed p : List ℕ) (long l : List (List ℕ)) (es : List Entry) → AreKeptIn bytes packed long es → table_in (bytes ++ b) (packed ++ p) (long ++ l) es ≡ table_in bytes packed long es
table_more bytes b packed p long l [] are = refl
table_more bytes b packed p long l (e ∷ es) are =
    let rest : List TermEntry = table_in (bytes ++ b) (packed ++ p) (long ++ l) es in
    ap (λ (t : List ℕ). term_entry t (list_in (packed ++ p) (long ++ l) e.list) ∷ rest) (part_more bytes b e.start e.size are.terms.0.within)
    ∙ ap (λ (a : List ℕ). term_entry (part_of bytes e.start e.size) a ∷ rest) (list_more packed p long l e.list are.lists.0)
    ∙ ap (λ (t : List TermEntry). entry_in bytes packed long e ∷ t) (table_more bytes b packed p long l es (rest_kept bytes packed long e es are))

terms_more : (bytes b : List ℕ) (es : List Entry) → AllByRecursion (IsTermIn bytes) es → AllByRecursion (IsTermIn (bytes ++ b)) es
terms_more bytes b [] are = tt
terms_more bytes b (e ∷ es) are =
    let k = are.0 in
    let wide = length-append bytes b in
    let within = k.within in
    let same = part_more bytes b e.start e.size within in (
      record { within = omega (arith, wide, within); head = k.head ∙ ap (leading 8 0) (sym same) },
      terms_more bytes b es are.1,
    )

lists_more : (packed p : List ℕ) (long l : List (List ℕ)) (es : List Entry) → AllByRecursion (λ (e : Entry). IsListIn packed long e.list) es → AllByRecursion (λ (e : Entry). IsListIn (packed ++ p) (long ++ l) e.list) es
lists_more packed p long l [] are = tt
lists_more packed p long l (e ∷ es) are = (still_list packed p long l e.list are.0, lists_more packed p long l es are.1)

pub kept_more : (bytes b packed p : List ℕ) (long l : List (List ℕ)) (es : List Entry) → AreKeptIn bytes packed long es → AreKeptIn (bytes ++ b) (packed ++ p) (long ++ l) es
kept_more bytes b packed p long l es are = record { terms = terms_more bytes b es are.terms; lists = lists_more packed p long l es are.lists }

-- what is at a place of a table
pub record IsEntryAt (table : List TermEntry) (i : ℕ) (entry : TermEntry) : Type 0 where
  pub addresses : addresses_at table i ≡ entry.addresses
  pub term : slice_get (map (λ (e : TermEntry). e.term) table) i ≡ Some entry.term
  pub postings : slice_get (map (λ (e : TermEntry). e.addresses) table) i ≡ Some entry.addresses

here : (bytes packed : List ℕ) (long : List (List ℕ)) (es : List Entry) (i : ℕ) (e : Entry) → i < length (table_in bytes packed long es) → e ≡ get_or es i e → IsEntryAt (table_in bytes packed long es) i (entry_in bytes packed long e)
here bytes packed long [] i e lt is = absurd (omega (arith, lt))
here bytes packed long (x ∷ xs) zero e lt is = record {
  addresses = ap (λ (k : Entry). list_in packed long k.list) (sym is);
  term = ap (λ (k : Entry). Some (part_of bytes k.start k.size)) (sym is);
  postings = ap (λ (k : Entry). Some (list_in packed long k.list)) (sym is);
}
here bytes packed long (x ∷ xs) (suc i) e lt is = let rest = here bytes packed long xs i e (omega (arith, lt)) is in record { addresses = rest.addresses; term = rest.term; postings = rest.postings }

pub entry_here : (bytes packed : List ℕ) (long : List (List ℕ)) (es : List Entry) (table : List TermEntry) (i : ℕ) (e : Entry) → table_in bytes packed long es ≡ table → i < length table → e ≡ get_or es i e →
    IsEntryAt table i (entry_in bytes packed long e)
entry_here bytes packed long es table i e same lt is =
    subst (λ t. IsEntryAt t i (entry_in bytes packed long e)) same (here bytes packed long es i e (subst (λ t. i < length t) (sym same) lt) is)

-- a place of the table is one of the entries
pub place_within : (bytes packed : List ℕ) (long : List (List ℕ)) (es : List Entry) (table : List TermEntry) (i : ℕ) → table_in bytes packed long es ≡ table → i < length table → i < length es
place_within bytes packed long es table i same lt = subst (λ n. i < n) (ap length (sym same) ∙ length-map es (entry_in bytes packed long)) lt

-- the entry at a place has its term and its addresses
pub kept_here : (bytes packed : List ℕ) (long : List (List ℕ)) (es : List Entry) (i : ℕ) (e : Entry) → AreKeptIn bytes packed long es → i < length es → e ≡ get_or es i e → IsTermIn bytes e × IsListIn packed long e.list
kept_here bytes packed long es i e are lt is = (
  subst (IsTermIn bytes) (sym is) (all_at (IsTermIn bytes) es i e are.terms lt),
  subst (λ (k : Entry). IsListIn packed long k.list) (sym is) (all_at (λ (k : Entry). IsListIn packed long k.list) es i e are.lists lt),
)

-- one entry more, whose term and addresses come after what the rows had
pub record IsPushed (bytes packed : List ℕ) (long : List (List ℕ)) (es : List Entry) (table : List TermEntry) (term addresses : List ℕ) : Type 0 where
  pub kept : AreKeptIn bytes packed long es
  pub is : table_in bytes packed long es ≡ table ++ record { term = term; addresses = addresses } ∷ []

pushed_here : (bytes packed p : List ℕ) (long l : List (List ℕ)) (es : List Entry) (table : List TermEntry) (term addresses : List ℕ) (list : Kept) → table_in bytes packed long es ≡ table → AreKeptIn bytes packed long es →
    list_in (packed ++ p) (long ++ l) list ≡ addresses → IsListIn (packed ++ p) (long ++ l) list → IsPushed (bytes ++ term) (packed ++ p) (long ++ l) (es ++ kept_entry bytes term list ∷ []) table term addresses
pushed_here bytes packed p long l es table term addresses list same are is within =
    let all : List ℕ = bytes ++ term in
    let e : Entry = kept_entry bytes term list in
    let mine : part_of all (length bytes) (length term) ≡ term = ap (take (length term)) (drop-append_seam bytes term) ∙ take_all (length term) term (le_refl (length term)) in
    let wide = length-append bytes term in
    let one : IsTermIn all e = record { within = omega (arith, wide); head = ap (leading 8 0) (sym mine) } in
    let rows = kept_more bytes term packed p long l es are in
    record {
      kept = record {
        terms = all_push (IsTermIn all) es e rows.terms one;
        lists = all_push (λ (k : Entry). IsListIn (packed ++ p) (long ++ l) k.list) es e rows.lists within;
      };
      is = map-append (entry_in all (packed ++ p) (long ++ l)) es (e ∷ [])
          ∙ ap (λ t. t ++ entry_in all (packed ++ p) (long ++ l) e ∷ []) (table_more bytes term packed p long l es are ∙ same)
          ∙ ap (λ (t : List ℕ). table ++ term_entry t (list_in (packed ++ p) (long ++ l) list) ∷ []) mine
          ∙ ap (λ (a : List ℕ). table ++ term_entry term a ∷ []) is;
    }

-- a row that begins as another one is that one, with more after it
front_split : {X : Type 0} (xs ys : List X) → take (length xs) ys ≡ xs → ys ≡ xs ++ drop (length xs) ys
front_split xs ys is = sym (take-append-drop (length xs) ys) ∙ ap (λ front. front ++ drop (length xs) ys) is

pub pushed : (bytes packed : List ℕ) (long : List (List ℕ)) (es : List Entry) (table : List TermEntry) (term addresses : List ℕ) (list : Kept) (bytes' packed' : List ℕ) (long' : List (List ℕ)) (more : List Entry) →
    table_in bytes packed long es ≡ table → AreKeptIn bytes packed long es → bytes' ≡ bytes ++ term → take (length packed) packed' ≡ packed → take (length long) long' ≡ long → more ≡ es ++ kept_entry bytes term list ∷ [] →
    list_in packed' long' list ≡ addresses → IsListIn packed' long' list → IsPushed bytes' packed' long' more table term addresses
pushed bytes packed long es table term addresses list bytes' packed' long' more same are bytes_is packed_is long_is more_is is within =
    let p = drop (length packed) packed' in
    let l = drop (length long) long' in
    let ps : packed' ≡ packed ++ p = front_split packed packed' packed_is in
    let ls : long' ≡ long ++ l = front_split long long' long_is in
    let is_there = subst (λ q. list_in (packed ++ p) q list ≡ addresses) ls (subst (λ q. list_in q long' list ≡ addresses) ps is) in
    let stands = subst (λ q. IsListIn (packed ++ p) q list) ls (subst (λ q. IsListIn q long' list) ps within) in
    subst (λ q. IsPushed q packed' long' more table term addresses) (sym bytes_is)
    (subst (λ q. IsPushed (bytes ++ term) q long' more table term addresses) (sym ps)
    (subst (λ q. IsPushed (bytes ++ term) (packed ++ p) q more table term addresses) (sym ls)
    (subst (λ q. IsPushed (bytes ++ term) (packed ++ p) (long ++ l) q table term addresses) (sym more_is)
    (pushed_here bytes packed p long l es table term addresses list same are is_there stands))))

-- no entry more, whatever was put after the rows
pub record IsUnchanged (bytes packed : List ℕ) (long : List (List ℕ)) (es : List Entry) (table : List TermEntry) : Type 0 where
  pub kept : AreKeptIn bytes packed long es
  pub is : table_in bytes packed long es ≡ table

pub unchanged : (bytes packed : List ℕ) (long : List (List ℕ)) (es : List Entry) (table : List TermEntry) (bytes' packed' : List ℕ) (long' : List (List ℕ)) (more : List Entry) →
    table_in bytes packed long es ≡ table → AreKeptIn bytes packed long es → take (length bytes) bytes' ≡ bytes → take (length packed) packed' ≡ packed → take (length long) long' ≡ long → more ≡ es → IsUnchanged bytes' packed' long' more table
unchanged bytes packed long es table bytes' packed' long' more same are bytes_is packed_is long_is more_is =
    let b = drop (length bytes) bytes' in
    let p = drop (length packed) packed' in
    let l = drop (length long) long' in
    subst (λ q. IsUnchanged q packed' long' more table) (sym (front_split bytes bytes' bytes_is))
    (subst (λ q. IsUnchanged (bytes ++ b) q long' more table) (sym (front_split packed packed' packed_is))
    (subst (λ q. IsUnchanged (bytes ++ b) (packed ++ p) q more table) (sym (front_split long long' long_is))
    (subst (λ q. IsUnchanged (bytes ++ b) (packed ++ p) (long ++ l) q table) (sym more_is)
    record { kept = kept_more bytes b packed p long l es are; is = table_more bytes b packed p long l es are ∙ same })))

-- a row begins as itself
pub itself : {X : Type 0} (xs : List X) → take (length xs) xs ≡ xs
itself xs = take_all (length xs) xs (le_refl (length xs))

pub behind_front : {X : Type 0} (xs ys zs : List X) → zs ≡ xs ++ ys → take (length xs) zs ≡ xs
behind_front xs ys zs is = ap (take (length xs)) is ∙ take-append_seam xs ys

-- a list after the others is at the place that was their number
pub long_here : (packed : List ℕ) (long more : List (List ℕ)) (list : List ℕ) (place : ℕ) → place ≡ length long → more ≡ long ++ list ∷ [] → (list_in packed more (Long place) ≡ list) × IsListIn packed more (Long place)
long_here packed long more list place place_is more_is =
    let seam : length long + 0 ≡ place = omega (arith, place_is) in
    let wide = ap length more_is ∙ length-append long (list ∷ []) in (
      ap (λ ls. get_or ls place []) more_is ∙ ap (λ n. get_or (long ++ list ∷ []) n []) (sym seam) ∙ get_or-append-add long (list ∷ []) 0 [],
      omega (arith, wide, place_is),
    )

-- addresses whose differences were put after the others
pub short_here : (list packed more : List ℕ) (first last at size count : ℕ) → ArePostings list → length list ≤ 64 → at ≡ length packed → size ≡ length (packed_of list) → count ≡ length list → first ≡ get_or list 0 0 → last ≡ last_of list →
    more ≡ packed ++ packed_of list → IsPutShort more list (Short first last at size count)
short_here list packed more first last at size count rising few at_is size_is counted first_is last_is more_is =
    let bytes = packed_of list in
    let wide = ap length more_is ∙ length-append packed bytes in
    let mine : part_of more at size ≡ bytes =
    ap (λ m. part_of m at size) more_is ∙ ap (λ n. part_of (packed ++ bytes) n size) at_is ∙ ap (take size) (drop-append_seam packed bytes) ∙ ap (λ n. take n bytes) size_is ∙ itself bytes in
    let short = short_of list first last count (part_of more at size) rising few counted first_is last_is mine in
    record { is = λ long. short.0; within = λ long. (omega (arith, wide, at_is, size_is), short.1) }

-- what halving finds among the entries is in the table that they make
pub placed : (bytes bytes' packed : List ℕ) (long : List (List ℕ)) (es es' : List Entry) (table : List TermEntry) (range : SlotRange) (term : List ℕ) (found : Option ℕ) →
    table_in bytes packed long es ≡ table → bytes' ≡ bytes → es' ≡ es → IsTable range table →
    ((packed : List ℕ) (long : List (List ℕ)) (range : SlotRange) → IsTable range (table_in bytes' packed long es') → found ≡ place_of (table_in bytes' packed long es') term) → found ≡ place_of table term
placed bytes bytes' packed long es es' table range term found same bytes_is es_is is by =
    let whole : table_in bytes' packed long es' ≡ table = ap (λ b. table_in b packed long es') bytes_is ∙ ap (table_in bytes packed long) es_is ∙ same in
    by packed long range (subst (IsTable range) (sym whole) is) ∙ ap (λ t. place_of t term) whole

pub found_from : (bytes bytes' packed : List ℕ) (long : List (List ℕ)) (es es' : List Entry) (table : List TermEntry) (range : SlotRange) (low : List ℕ) (strict : Bool) (place : ℕ) →
    table_in bytes packed long es ≡ table → bytes' ≡ bytes → es' ≡ es → IsTable range table →
    ((packed : List ℕ) (long : List (List ℕ)) (range : SlotRange) → IsTable range (table_in bytes' packed long es')
    → slice_get (map (λ (e : TermEntry). e.term) (table_in bytes' packed long es')) place ≡ least_term (table_in bytes' packed long es') low strict) →
    slice_get (map (λ (e : TermEntry). e.term) table) place ≡ least_term table low strict
found_from bytes bytes' packed long es es' table range low strict place same bytes_is es_is is by =
    let whole : table_in bytes' packed long es' ≡ table = ap (λ b. table_in b packed long es') bytes_is ∙ ap (table_in bytes packed long) es_is ∙ same in
    subst (λ t. slice_get (map (λ (e : TermEntry). e.term) t) place ≡ least_term t low strict) whole (by packed long range (subst (IsTable range) (sym whole) is))
