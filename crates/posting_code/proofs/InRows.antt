-- Lists in rows: more at the ends of the rows, one list more, and the heads of a list that comes behind others.
use Rattle.std.proofs.Common.{◌≡◌, ℕ, ◌+◌, ◌-◌, ◌*◌, ◌/◌, ◌^◌, ◌<◌, ◌≤◌, List, [], ◌∷◌, ◌++◌, length, length-drop, length-append, take, drop, get_or, refl, sym, ap, ◌∙◌, subst, arith, le_refl}
use Rattle.std.specs.Prelude.{Result, Ok, Err, OnErr}
use Rattle.std.specs.List.{AllByRecursion}
use Rattle.std.proofs.Math.Seq.{drop-append_seam, take-append_seam}
use Rattle.std.proofs.lemmas.List.{append-nil, map-append, take-append-le, take-append-drop, drop-append-le, take_all}
use Rattle.posting_code.specs.Postings.{ArePostings}
use Rattle.posting_code.specs.Packed.{IsHead, IsKeptTo, kept, last_of, packed_of}
use Rattle.posting_code.specs.Joined.{last_in, step_from}
use Rattle.posting_code.specs.Rows.{AreListsIn, ComesBehind, HasHeads, IsListIn, IsPartIn, between, heads_between, list_in, lists_in}
use Rattle.posting_code.specs.declared.head.Head.{Head}
use Rattle.posting_code.specs.declared.rows.RowList.{RowList}
use Rattle.posting_code.specs.declared.rows.RowList.TheVariants.{Own, Shared}
use Rattle.posting_code.specs.declared.rows.RowPart.{RowPart}
use Rattle.posting_code.proofs.Rising.{rise_length}
use Rattle.posting_code.proofs.Joining.{AreHeads, head_before, head_behind, kept_joined, one_head_more}
use Rattle.posting_code.proofs.Shorts.{kept_short, packed_length}
use Rattle.posting_code.proofs.Steps.{packed_more}

-- a row that begins as another one is that one and more
grown : {X : Type 0} (row longer : List X) → take (length row) longer ≡ row → longer ≡ row ++ drop (length row) longer
grown row longer begins = sym (take-append-drop (length row) longer) ∙ ap (λ r. r ++ drop (length row) longer) begins

pub no_shorter : {X : Type 0} (row longer : List X) → take (length row) longer ≡ row → length row ≤ length longer
no_shorter row longer begins =
    let long = ap length (grown row longer begins) ∙ length-append row (drop (length row) longer) in
    omega (arith, long)

-- and so is one that begins as a longer one
pub still_begins : {X : Type 0} (row longer longest : List X) → take (length row) longer ≡ row → take (length longer) longest ≡ longer → take (length row) longest ≡ row
still_begins row longer longest begins begins' =
    ap (take (length row)) (grown longer longest begins') ∙ take-append-le (length row) longer (drop (length longer) longest) (no_shorter row longer begins) ∙ begins

pub begins_pushed : {X : Type 0} (row longer longest more : List X) → take (length row) longer ≡ row → longest ≡ longer ++ more → take (length row) longest ≡ row
begins_pushed row longer longest more begins is = still_begins row longer longest begins (ap (take (length longer)) is ∙ take-append_seam longer more)

-- what is in a row stays there when more is added at the end
part_stays : {X : Type 0} (row longer : List X) (start end : ℕ) → take (length row) longer ≡ row → start ≤ end → end ≤ length row → take (end - start) (drop start longer) ≡ take (end - start) (drop start row)
part_stays row longer start end begins le within =
    let more = drop (length row) longer in
    let long = length-drop start row in
    ap (λ l. take (end - start) (drop start l)) (grown row longer begins)
    ∙ ap (take (end - start)) (drop-append-le start row more (omega (arith, le, within)))
    ∙ take-append-le (end - start) (drop start row) more (omega (arith, le, within, long))

still_part : (packed packed' : List ℕ) (heads heads' : List Head) (part : RowPart) → IsPartIn packed heads part → take (length packed) packed' ≡ packed → take (length heads) heads' ≡ heads → IsPartIn packed' heads' part
still_part packed packed' heads heads' part is begins begins' =
    let bytes = part_stays packed packed' part.start part.end begins is.spelled.0 is.spelled.1 in
    let marks = part_stays heads heads' part.heads_start part.heads_end begins' is.headed.0 is.headed.1 in
    let wide = no_shorter packed packed' begins in
    let wide' = no_shorter heads heads' begins' in
    let within = is.spelled.1 in
    let within' = is.headed.1 in
    record {
      spelled = (is.spelled.0, omega (arith, within, wide));
      headed = (is.headed.0, omega (arith, within', wide'));
      whole = subst (λ b. IsKeptTo part.last part.count part.first b (heads_between heads' part.heads_start part.heads_end)) (sym bytes)
          (subst (λ h. IsKeptTo part.last part.count part.first (between packed part.start part.end) h) (sym marks) is.whole);
    }

still_in : (packed packed' : List ℕ) (heads heads' : List Head) (lists : List RowList) → AreListsIn packed heads lists → take (length packed) packed' ≡ packed → take (length heads) heads' ≡ heads → AreListsIn packed' heads' lists
still_in packed packed' heads heads' [] are begins begins' = tt
still_in packed packed' heads heads' (Shared p ∷ ls) are begins begins' = (still_part packed packed' heads heads' p are.0 begins begins', still_in packed packed' heads heads' ls are.1 begins begins')
still_in packed packed' heads heads' (Own l ∷ ls) are begins begins' = (tt, still_in packed packed' heads heads' ls are.1 begins begins')

still_lists : (packed packed' : List ℕ) (heads : List Head) (lists : List RowList) → AreListsIn packed heads lists → take (length packed) packed' ≡ packed → lists_in packed' lists ≡ lists_in packed lists
still_lists packed packed' heads [] are begins = refl
still_lists packed packed' heads (Shared p ∷ ls) are begins =
    ap (λ (b : List ℕ). kept p.count p.first b ∷ lists_in packed' ls) (part_stays packed packed' p.start p.end begins are.0.spelled.0 are.0.spelled.1)
    ∙ ap (λ (rest : List (List ℕ)). list_in packed (Shared p) ∷ rest) (still_lists packed packed' heads ls are.1 begins)
still_lists packed packed' heads (Own l ∷ ls) are begins = ap (λ (rest : List (List ℕ)). l ∷ rest) (still_lists packed packed' heads ls are.1 begins)

-- rows with more at their ends have the same lists
pub unchanged : (packed packed' : List ℕ) (heads heads' : List Head) (parts : List RowList) (lists : List (List ℕ)) → lists_in packed parts ≡ lists → AreListsIn packed heads parts →
    take (length packed) packed' ≡ packed → take (length heads) heads' ≡ heads → AreListsIn packed' heads' parts × (lists_in packed' parts ≡ lists)
unchanged packed packed' heads heads' parts lists same are begins begins' =
    (still_in packed packed' heads heads' parts are begins begins', still_lists packed packed' heads parts are begins ∙ same)

-- a list that was put at the ends of the rows
pub record IsPutAt (list packed packed' : List ℕ) (heads heads' : List Head) (part : RowPart) : Type 0 where
  pub first : part.first ≡ get_or list 0 0
  pub last : part.last ≡ last_of list
  pub count : part.count ≡ length list
  pub start : part.start ≡ length packed
  pub end : part.end ≡ length packed'
  pub heads_start : part.heads_start ≡ length heads
  pub heads_end : part.heads_end ≡ length heads'
  pub bytes : packed' ≡ packed ++ packed_of list
  pub begins : take (length heads) heads' ≡ heads
  pub marks : HasHeads list (drop (length heads) heads')

put_bytes : (list packed packed' : List ℕ) (heads heads' : List Head) (part : RowPart) → IsPutAt list packed packed' heads heads' part → between packed' part.start part.end ≡ packed_of list
put_bytes list packed packed' heads heads' part put =
    let start = put.start in
    let end = put.end in
    let long = ap length put.bytes ∙ length-append packed (packed_of list) in
    let size : part.end - part.start ≡ length (packed_of list) = omega (arith, start, end, long) in
    ap (take (part.end - part.start)) (ap (λ n. drop n packed') put.start ∙ ap (drop (length packed)) put.bytes ∙ drop-append_seam packed (packed_of list))
    ∙ ap (λ n. take n (packed_of list)) size ∙ take_all (length (packed_of list)) (packed_of list) (le_refl (length (packed_of list)))

put_marks : (list packed packed' : List ℕ) (heads heads' : List Head) (part : RowPart) → IsPutAt list packed packed' heads heads' part → heads_between heads' part.heads_start part.heads_end ≡ drop (length heads) heads'
put_marks list packed packed' heads heads' part put =
    let start = put.heads_start in
    let end = put.heads_end in
    let long = length-drop (length heads) heads' in
    ap (λ n. take (part.heads_end - part.heads_start) (drop n heads')) put.heads_start ∙ take_all (part.heads_end - part.heads_start) (drop (length heads) heads') (omega (arith, start, end, long))

put_part : (list packed packed' : List ℕ) (heads heads' : List Head) (part : RowPart) → ArePostings list → IsPutAt list packed packed' heads heads' part → (list_in packed' (Shared part) ≡ list) × IsPartIn packed' heads' part
put_part list packed packed' heads heads' part rising put =
    let bytes = put_bytes list packed packed' heads heads' part put in
    let marks = put_marks list packed packed' heads heads' part put in
    let is = kept_short list part.count part.first (between packed' part.start part.end) rising put.count put.first bytes in
    let start = put.start in
    let end = put.end in
    let long = ap length put.bytes ∙ length-append packed (packed_of list) in
    let heads_start = put.heads_start in
    let heads_end = put.heads_end in
    let wide = no_shorter heads heads' put.begins in
    let count = put.count in
    let marked = put.marks.marked in
    let same = ap length marks in (
      is,
      record {
        spelled = (omega (arith, start, end, long), omega (arith, end));
        headed = (omega (arith, heads_start, heads_end, wide), omega (arith, heads_end));
        whole = record {
          parts = kept_joined list part.count part.first (between packed' part.start part.end) (heads_between heads' part.heads_start part.heads_end) rising is bytes put.count (omega (arith, same, marked, count))
              (record { blocks = subst (λ (hs : List Head). (b : ℕ) (d : Head) → b < length hs → IsHead list (packed_of list) (64 * (b + 1)) (get_or hs b d)) (sym marks) put.marks.blocks });
          end = put.last ∙ ap last_of (sym is);
        };
      },
    )

all_push : {X : Type 0} (P : X → Type 0) (xs : List X) (y : X) → AllByRecursion P xs → P y → AllByRecursion P (xs ++ y ∷ [])
all_push P [] y all p = (p, tt)
all_push P (x ∷ xs) y all p = (all.0, all_push P xs y all.1 p)

-- it comes after the other lists
pub pushed : (packed : List ℕ) (heads : List Head) (row : RowList) (list : List ℕ) (rows rows' : List RowList) (lists : List (List ℕ)) → lists_in packed rows ≡ lists → AreListsIn packed heads rows →
    list_in packed row ≡ list → IsListIn packed heads row → rows' ≡ rows ++ row ∷ [] → AreListsIn packed heads rows' × (lists_in packed rows' ≡ lists ++ list ∷ [])
pushed packed heads row list rows rows' lists same are is within more = (
  subst (AreListsIn packed heads) (sym more) (all_push (IsListIn packed heads) rows row are within),
  ap (lists_in packed) more ∙ map-append (list_in packed) rows (row ∷ []) ∙ ap (λ ls. ls ++ list_in packed row ∷ []) same ∙ ap (λ l. lists ++ l ∷ []) is,
)

pub put_pushed : (list packed packed' : List ℕ) (heads heads' : List Head) (part : RowPart) (rows rows' : List RowList) (lists : List (List ℕ)) → lists_in packed rows ≡ lists → AreListsIn packed heads rows → ArePostings list →
    IsPutAt list packed packed' heads heads' part → rows' ≡ rows ++ Shared part ∷ [] → AreListsIn packed' heads' rows' × (lists_in packed' rows' ≡ lists ++ list ∷ [])
put_pushed list packed packed' heads heads' part rows rows' lists same are rising put more =
    let begins : take (length packed) packed' ≡ packed = ap (take (length packed)) put.bytes ∙ take-append_seam packed (packed_of list) in
    let old = unchanged packed packed' heads heads' rows lists same are begins put.begins in
    let new = put_part list packed packed' heads heads' part rising put in
    pushed packed' heads' (Shared part) list rows rows' lists old.1 old.0 new.0 new.1 more

-- the heads of a list so far, and the place of the next one
pub record ArePlaced (list : List ℕ) (heads : List Head) (next : ℕ) : Type 0 where
  pub are : AreHeads list heads
  pub at : next ≡ 64 * (length heads + 1)

-- those of the members before
pub placed_before : (before list : List ℕ) (heads : List Head) (next : ℕ) → HasHeads before heads → next ≡ 64 * ((length before + 63) / 64 - 1 + 1) → ArePlaced (before ++ list) heads next
placed_before before list heads next has at =
    let marked = has.marked in
    record {
      are = record { blocks = λ b d lt. head_before before list (64 * (b + 1)) (get_or heads b d) (omega (arith, lt, marked)) (has.blocks b d lt) };
      at = omega (arith, at, marked);
    }

-- one more
pub placed_more : (before list : List ℕ) (count shift place : ℕ) (heads heads' : List Head) (found : Head) → ComesBehind before list count shift → place < length list → ArePlaced (before ++ list) heads (count + place) → IsHead list (packed_of list) place found →
    heads' ≡ heads ++ record { first = found.first; at = shift + found.at } ∷ [] → ArePlaced (before ++ list) heads' (count + (place + 64))
placed_more before list count shift place heads heads' found behind lt placed is more =
    let front = packed_of before ++ step_from (last_in before) (get_or list 0 0) in
    let parts : packed_of (before ++ list) ≡ front ++ packed_of list = packed_more before list (omega (arith, lt)) in
    let long = ap length parts ∙ length-append front (packed_of list) in
    let shifted = behind.shifted in
    let counted = behind.counted in
    let size : length front ≡ shift = omega (arith, long, shifted) in
    let at = placed.at in
    let wide = ap length more ∙ length-append heads (record { first = found.first; at = shift + found.at } ∷ []) in
    let head = head_behind before list front place (count + place) found parts (omega (arith, counted)) is in
    let head' = subst (λ n. IsHead (before ++ list) (packed_of (before ++ list)) (count + place) record { first = found.first; at = n + found.at }) size head in
    record {
      are = one_head_more (before ++ list) heads heads' (record { first = found.first; at = shift + found.at }) (count + place) placed.are more at head';
      at = omega (arith, at, wide);
    }

-- all of them
pub placed_all : (before list : List ℕ) (count place : ℕ) (heads : List Head) → count ≡ length before → ArePlaced (before ++ list) heads (count + place) → length list ≤ place → place < length list + 64 → HasHeads (before ++ list) heads
placed_all before list count place heads counted placed past near =
    let at = placed.at in
    let long = length-append before list in
    record { marked = omega (arith, at, past, near, counted, long); blocks = placed.are.blocks }

-- no members more
pub heads_still : (before list : List ℕ) (heads : List Head) → length list ≡ 0 → HasHeads before heads → HasHeads (before ++ list) heads
heads_still before [] heads none has = subst (λ l. HasHeads l heads) (sym (append-nil before)) has
heads_still before (x ∷ xs) heads none has = absurd (omega (arith, none))

-- if a head is put, the row is long enough
pub head_fits : (before list : List ℕ) (count shift at : ℕ) → ComesBehind before list count shift → at ≤ length (packed_of list) → shift + at < 2 ^ 63
head_fits before list count shift at behind within =
    let shifted = behind.shifted in
    let short = packed_length (before ++ list) in
    let few = rise_length 0 (2 ^ 56) (before ++ list) behind.rising in
    omega (arith, shifted, short, few, within)

-- the bytes of a list are no more than those of it behind others
pub packed_within : (before list : List ℕ) → length (packed_of list) ≤ length (packed_of (before ++ list))
packed_within before [] = omega arith
packed_within before (x ∷ xs) =
    let front = packed_of before ++ step_from (last_in before) (get_or (x ∷ xs) 0 0) in
    let long = ap length (packed_more before (x ∷ xs) (omega arith)) ∙ length-append front (packed_of (x ∷ xs)) in
    omega (arith, long)

-- what holds anyhow holds after an Err
pub on_err : {T E : Type 0} (P : Type 0) (result : Result T E) → P → OnErr result P
on_err P (Ok value) p = tt
on_err P (Err fault) p = p

-- rows whose members are the same
pub same_rows : (packed packed' : List ℕ) (heads heads' : List Head) (lists lists' : List RowList) → packed' ≡ packed → heads' ≡ heads → lists' ≡ lists → AreListsIn packed heads lists → AreListsIn packed' heads' lists'
same_rows packed packed' heads heads' lists lists' p h l are =
    subst (λ bytes. AreListsIn bytes heads' lists') (sym p) (subst (λ marks. AreListsIn packed marks lists') (sym h) (subst (λ rows. AreListsIn packed heads rows) (sym l) are))

pub same_lists : (packed packed' : List ℕ) (lists lists' : List RowList) → packed' ≡ packed → lists' ≡ lists → lists_in packed' lists' ≡ lists_in packed lists
same_lists packed packed' lists lists' p l = ap (λ bytes. lists_in bytes lists') p ∙ ap (lists_in packed) l
