-- Lists that are moved up: their packed differences stay.
use Rattle.std.proofs.Common.{◌≡◌, ℕ, zero, suc, ◌+◌, ◌-◌, ◌*◌, ◌^◌, ◌++◌, ◌<◌, ◌≤◌, true, false, List, [], ◌∷◌, length, map, slice_set, take, drop, get_or, inl, inr, refl, sym, ap, ◌∙◌, subst, arith}
use Rattle.std.proofs.lemmas.Bool.{lt-ltb, le-ltb, cases_lt, cases_Bool, cond-true, cond-false}
use Rattle.std.proofs.lemmas.List.{append-nil, drop-map, drop_all, take-map, take_all, get_or-map, length-map}
use Rattle.posting_code.specs.Numbers.{spelling}
use Rattle.posting_code.specs.Postings.{RiseWithin, ArePostings}
use Rattle.posting_code.specs.Packed.{unpacked, kept, packed_from, packed_of, last_of, IsHead, IsKeptTo}
use Rattle.posting_code.specs.Moved.{moved, can_move, moved_below_end, moved_address, moved_head, moved_heads, emptied, moved_part, moved_row}
use Rattle.posting_code.specs.Rows.{between, heads_between, list_in, lists_in, IsPartIn, AreListsIn}
use Rattle.posting_code.specs.declared.head.Head.{Head}
use Rattle.posting_code.specs.declared.rows.RowList.{RowList}
use Rattle.posting_code.specs.declared.rows.RowList.TheVariants.{Own, Shared}
use Rattle.posting_code.specs.declared.rows.RowPart.{RowPart}
use Rattle.posting_code.proofs.Rising.{rise_wider, rise_index}

-- one element more of a list that is mapped in place
map_step : {X : Type 0} (f : X → X) (xs : List X) (i : ℕ) (d : X) → i < length xs →
    slice_set (map f (take i xs) ++ drop i xs) i (f (get_or (map f (take i xs) ++ drop i xs) i d)) ≡ map f (take (i + 1) xs) ++ drop (i + 1) xs
map_step f [] i d lt = absurd (omega (arith, lt))
map_step f (x ∷ xs) zero d lt = refl
map_step f (x ∷ xs) (suc i) d lt =
    let next : suc i + 1 ≡ suc (i + 1) = omega arith in
    ap (λ l. f x ∷ l) (map_step f xs i d (omega (arith, lt))) ∙ sym (ap (λ n. map f (take n (x ∷ xs)) ++ drop n (x ∷ xs)) next)

pub map_more : {X : Type 0} (f : X → X) (xs now : List X) (i : ℕ) (d new : X) → i < length xs → now ≡ map f (take i xs) ++ drop i xs → new ≡ f (get_or now i d) → slice_set now i new ≡ map f (take (i + 1) xs) ++ drop (i + 1) xs
map_more f xs now i d new lt was is = ap (slice_set now i) is ∙ ap (λ l. slice_set l i (f (get_or l i d))) was ∙ map_step f xs i d lt

-- what is written over all elements of a row
pub written : {X : Type 0} (len : ℕ) (items new : List X) → len ≡ length items → length new ≡ length items → take len (new ++ drop (length new) items) ≡ new
written len items new size same =
    ap (λ r. take len (new ++ r)) (drop_all (length new) items (omega (arith, same))) ∙ ap (take len) (append-nil new) ∙ take_all len new (omega (arith, size, same))

-- what may be moved up
pub record CanMove (count last by : ℕ) : Type 0 where
  pub some : 0 < count
  pub below : last + by < 2 ^ 56

pub move_tells : (count last by : ℕ) → can_move count last by ≡ true → CanMove count last by
move_tells count last by can =
    elim (cases_lt 0 count) [
      | inr none ↦ absurd (no_false (sym (rw (le-ltb 0 count none) refl) ∙ can))
      | inl some ↦ elim (cases_lt by (2 ^ 56)) [
        | inr far ↦ absurd (no_false (sym (rw (lt-ltb 0 count some, le-ltb by (2 ^ 56) far) refl) ∙ can))
        | inl near ↦ elim (cases_lt last (2 ^ 56 - by)) [
          | inr past ↦ absurd (no_false (sym (rw (lt-ltb 0 count some, lt-ltb by (2 ^ 56) near, le-ltb last (2 ^ 56 - by) past) refl) ∙ can))
          | inl room ↦ record { some = some; below = omega (arith, room, near) }
        ]
      ]
    ]
  where
    no_false : false ≡ true → ⊥
    no_false e = absurd cc

pub move_told : (count last by : ℕ) → 0 < count → last + by < 2 ^ 56 → can_move count last by ≡ true
move_told count last by some below =
    let near : by < 2 ^ 56 = omega (arith, below) in
    let room : last < 2 ^ 56 - by = omega (arith, below) in
    rw (lt-ltb 0 count some, lt-ltb by (2 ^ 56) near, lt-ltb last (2 ^ 56 - by) room) refl

unpacked_moved : (by before value scale : ℕ) (bs : List ℕ) → unpacked (before + by) value scale bs ≡ moved by (unpacked before value scale bs)
unpacked_moved by before value scale [] = refl
unpacked_moved by before value scale (b ∷ bs) =
    elim (cases_lt b 128) [
      | inl small ↦
          let next = before + (value + scale * b) in
          let same : before + by + (value + scale * b) ≡ next + by = omega arith in
          rw (lt-ltb b 128 small) (ap (λ q. q ∷ unpacked q 0 1 bs) same ∙ ap (λ qs. (next + by) ∷ qs) (unpacked_moved by next 0 1 bs))
      | inr large ↦ rw (le-ltb b 128 large) (unpacked_moved by before (value + scale * (b - 128)) (scale * 128) bs)
    ]

-- a list by its first member moved up, and the same differences
pub kept_moved : (by count first : ℕ) (packed : List ℕ) → kept count (first + by) packed ≡ moved by (kept count first packed)
kept_moved by zero first packed = refl
kept_moved by (suc n) first packed = ap (λ qs. (first + by) ∷ qs) (unpacked_moved by first 0 1 packed)

packed_from_moved : (by before : ℕ) (ps : List ℕ) → packed_from (before + by) (moved by ps) ≡ packed_from before ps
packed_from_moved by before [] = refl
packed_from_moved by before (p ∷ ps) =
    let same : p + by - (before + by) ≡ p - before = omega arith in
    ap (λ d. spelling d ++ packed_from (p + by) (moved by ps)) same ∙ ap (λ bs. spelling (p - before) ++ bs) (packed_from_moved by p ps)

packed_of_moved : (by : ℕ) (ps : List ℕ) → packed_of (moved by ps) ≡ packed_of ps
packed_of_moved by [] = refl
packed_of_moved by (p ∷ ps) = packed_from_moved by p ps

pub last_of_moved : (by : ℕ) (ps : List ℕ) → 0 < length ps → last_of (moved by ps) ≡ last_of ps + by
last_of_moved by [] some = absurd (omega (arith, some))
last_of_moved by (p ∷ []) some = refl
last_of_moved by (p ∷ q ∷ qs) some = last_of_moved by (q ∷ qs) (omega arith)

-- what rises within two bounds rises within these moved up
pub rise_moved : (by low end : ℕ) (ps : List ℕ) → RiseWithin low end ps → RiseWithin (low + by) (end + by) (moved by ps)
rise_moved by low end [] r = tt
rise_moved by low end (p ∷ ps) r =
    let a = r.0 in
    let b = r.1 in
    (omega (arith, a), omega (arith, b), rise_wider (p + 1 + by) (p + by + 1) (end + by) (end + by) (moved by ps) (rise_moved by (p + 1) end ps r.2) (omega arith) (omega arith))

-- what rises is below what its last member is below
pub rise_below : (low end bound : ℕ) (ps : List ℕ) → RiseWithin low end ps → last_of ps < bound → RiseWithin low bound ps
rise_below low end bound [] r lt = tt
rise_below low end bound (p ∷ []) r lt = (r.0, lt, tt)
rise_below low end bound (p ∷ q ∷ qs) r lt =
    let rest = rise_below (p + 1) end bound (q ∷ qs) r.2 lt in
    let a = rest.0 in
    let b = rest.1 in
    (r.0, omega (arith, a, b), rest)

postings_moved : (by : ℕ) (ps : List ℕ) → ArePostings ps → last_of ps + by < 2 ^ 56 → ArePostings (moved by ps)
postings_moved by ps r lt =
    rise_wider (0 + by) 0 (2 ^ 56 - by + by) (2 ^ 56) (moved by ps) (rise_moved by 0 (2 ^ 56 - by) ps (rise_below 0 (2 ^ 56) (2 ^ 56 - by) ps r (omega (arith, lt)))) (omega arith) (omega (arith, lt))

-- an address of a list is moved up by all of the number
address_moved : (by p : ℕ) → p < 2 ^ 56 → by < 2 ^ 56 → moved_address by p ≡ p + by
address_moved by p small near = omega (arith, small, near)

member_small : (list : List ℕ) (i : ℕ) → ArePostings list → i < length list → get_or list i 0 < 2 ^ 56
member_small list i rising lt = (rise_index 0 (2 ^ 56) list i rising lt).1

head_moved : (by place : ℕ) (list packed : List ℕ) (head : Head) → ArePostings list → by < 2 ^ 56 → place < length list → IsHead list packed place head → IsHead (moved by list) packed place (moved_head by head)
head_moved by place list packed head rising near lt is =
    let first = is.first in
    let small = member_small list place rising lt in
    let up : moved_address by head.first ≡ head.first + by = address_moved by head.first (omega (arith, first, small)) near in
    record {
      first = up ∙ ap (λ p. p + by) is.first ∙ sym (get_or-map (λ p. p + by) list place 0 0 lt);
      within = is.within;
      rest =
          is.rest
          ∙ sym (packed_from_moved by head.first (drop (place + 1) list))
          ∙ ap (λ f. packed_from f (moved by (drop (place + 1) list))) (sym up)
          ∙ ap (packed_from (moved_address by head.first)) (sym (drop-map (λ p. p + by) (place + 1) list));
    }

first_small : (count first : ℕ) (packed : List ℕ) → ArePostings (kept count first packed) → 0 < count → first < 2 ^ 56
first_small zero first packed rising some = absurd (omega (arith, some))
first_small (suc n) first packed rising some = rising.1

kept_some : (count first : ℕ) (packed : List ℕ) → 0 < count → 0 < length (kept count first packed)
kept_some zero first packed some = absurd (omega (arith, some))
kept_some (suc n) first packed some = omega arith

-- what a list is kept by, moved up
pub record IsMovedTo (by last count first : ℕ) (packed : List ℕ) (heads : List Head) : Type 0 where
  pub list : kept count (moved_address by first) packed ≡ moved by (kept count first packed)
  pub parts : IsKeptTo (moved_address by last) count (moved_address by first) packed (moved_heads by heads)

pub kept_to_moved : (by last count first : ℕ) (packed : List ℕ) (heads : List Head) → 0 < count → last + by < 2 ^ 56 → IsKeptTo last count first packed heads → IsMovedTo by last count first packed heads
kept_to_moved by last count first packed heads some below is =
    let list = kept count first packed in
    let near : by < 2 ^ 56 = omega (arith, below) in
    let up = address_moved by first (first_small count first packed is.parts.rising some) near in
    let whole : kept count (moved_address by first) packed ≡ moved by list = ap (λ f. kept count f packed) up ∙ kept_moved by count first packed in
    let end = is.end in
    let long = length-map heads (moved_head by) in
    let marked = is.parts.marked in
    let counted = is.parts.counted in
    record {
      list = whole;
      parts = record {
        parts = record {
          rising = subst ArePostings (sym whole) (postings_moved by list is.parts.rising (omega (arith, below, end)));
          counted = is.parts.counted ∙ sym (length-map list (λ p. p + by)) ∙ ap length (sym whole);
          differences = is.parts.differences ∙ sym (packed_of_moved by list) ∙ ap packed_of (sym whole);
          marked = omega (arith, long, marked);
          blocks = λ b d lt.
              let within : b < length heads = omega (arith, lt, long) in
              let there : 64 * (b + 1) < length list = omega (arith, within, marked, counted) in
              subst (λ l. IsHead l packed (64 * (b + 1)) (get_or (moved_heads by heads) b d)) (sym whole)
              (subst (λ h. IsHead (moved by list) packed (64 * (b + 1)) h) (sym (get_or-map (moved_head by) heads b d d within))
              (head_moved by (64 * (b + 1)) list packed (get_or heads b d) is.parts.rising near there (is.parts.blocks b d within)));
        };
        end =
            address_moved by last (omega (arith, below)) near
            ∙ ap (λ l. l + by) is.end
            ∙ sym (last_of_moved by list (kept_some count first packed some))
            ∙ ap last_of (sym whole);
      };
    }

-- the same of a list that contracts see
pub list_moved : (by : ℕ) (list : List ℕ) → CanMove (length list) (last_of list) by → moved_below_end by list ≡ moved by list
list_moved by list can = rw (move_told (length list) (last_of list) by can.some can.below) refl

-- a list of which nothing is left
pub list_emptied : (by count last : ℕ) (list : List ℕ) → count ≡ length list → last ≡ last_of list → can_move count last by ≡ false → moved_below_end by list ≡ []
list_emptied by count last list counted end cannot = rw (sym (ap (λ c. can_move c last by) counted ∙ ap (λ l. can_move (length list) l by) end) ∙ cannot) refl

pub list_kept : (by count last : ℕ) (list : List ℕ) → count ≡ length list → last ≡ last_of list → can_move count last by ≡ true → moved_below_end by list ≡ moved by list
list_kept by count last list counted end can = rw (sym (ap (λ c. can_move c last by) counted ∙ ap (λ l. can_move (length list) l by) end) ∙ can) refl

-- a list that contracts see, moved up with what it is kept by
pub record IsListUp (by last count first : ℕ) (packed : List ℕ) (heads : List Head) (list : List ℕ) : Type 0 where
  pub is : kept count (moved_address by first) packed ≡ moved_below_end by list
  pub parts : IsKeptTo (moved_address by last) count (moved_address by first) packed (moved_heads by heads)

pub list_up : (by last count first : ℕ) (packed : List ℕ) (heads : List Head) (list : List ℕ) → kept count first packed ≡ list → IsKeptTo last count first packed heads → can_move count last by ≡ true → IsListUp by last count first packed heads list
list_up by last count first packed heads list view is can =
    let tells = move_tells count last by can in
    let up = kept_to_moved by last count first packed heads tells.some tells.below is in
    record { is = up.list ∙ sym (list_kept by count last (kept count first packed) is.parts.counted is.end can) ∙ ap (moved_below_end by) view; parts = up.parts }

-- and one of which nothing is left
pub list_gone : (by last count first : ℕ) (packed : List ℕ) (heads : List Head) (list : List ℕ) → kept count first packed ≡ list → IsKeptTo last count first packed heads → can_move count last by ≡ false → [] ≡ moved_below_end by list
list_gone by last count first packed heads list view is cannot = sym (list_emptied by count last (kept count first packed) is.parts.counted is.end cannot) ∙ ap (moved_below_end by) view

-- a part of the rows moved up, with all places of blocks
record IsPartMoved (by : ℕ) (packed : List ℕ) (heads : List Head) (part up : RowPart) : Type 0 where
  is : IsPartIn packed (moved_heads by heads) up
  list : list_in packed (Shared up) ≡ moved_below_end by (list_in packed (Shared part))

-- a part with its ends moved up
abbrev raised : ℕ → RowPart → RowPart
raised by part = record part { first = moved_address by part.first; last = moved_address by part.last }

heads_part : (by : ℕ) (heads : List Head) (start end : ℕ) → heads_between (moved_heads by heads) start end ≡ moved_heads by (heads_between heads start end)
heads_part by heads start end = ap (take (end - start)) (drop-map (moved_head by) start heads) ∙ take-map (moved_head by) (end - start) (drop start heads)

part_moved : (by : ℕ) (packed : List ℕ) (heads : List Head) (part : RowPart) → IsPartIn packed heads part → can_move part.count part.last by ≡ true → IsPartMoved by packed heads part (raised by part)
part_moved by packed heads part is can =
    let tells = move_tells part.count part.last by can in
    let bytes = between packed part.start part.end in
    let mine = heads_between heads part.heads_start part.heads_end in
    let up = kept_to_moved by part.last part.count part.first bytes mine tells.some tells.below is.whole in
    let long = length-map heads (moved_head by) in
    let reach = is.headed.1 in
    let wide : part.heads_end ≤ length (moved_heads by heads) = omega (arith, long, reach) in
    record {
      is = record {
        spelled = is.spelled;
        headed = (is.headed.0, wide);
        whole = subst (λ h. IsKeptTo (moved_address by part.last) part.count (moved_address by part.first) bytes h) (sym (heads_part by heads part.heads_start part.heads_end)) up.parts;
      };
      list = up.list ∙ sym (list_kept by part.count part.last (kept part.count part.first bytes) is.whole.parts.counted is.whole.end can);
    }

nothing_between : {X : Type 0} (row : List X) (start : ℕ) → take (start - start) (drop start row) ≡ []
nothing_between row start = let none : start - start ≡ 0 = omega arith in ap (λ n. take n (drop start row)) none

part_emptied : (by : ℕ) (packed : List ℕ) (heads : List Head) (part : RowPart) → IsPartIn packed heads part → can_move part.count part.last by ≡ false → IsPartMoved by packed heads part (emptied part)
part_emptied by packed heads part is cannot =
    let bytes = between packed part.start part.end in
    let long = length-map heads (moved_head by) in
    let a = is.spelled.0 in
    let b = is.spelled.1 in
    let d = is.headed.0 in
    let e = is.headed.1 in
    let none : IsKeptTo 0 0 part.first [] [] = record {
      parts = record { rising = tt; counted = refl; differences = refl; marked = refl; blocks = λ b d lt. absurd (omega (arith, lt)) };
      end = refl;
    } in
    record {
      is = record {
        spelled = (omega arith, omega (arith, a, b));
        headed = (omega arith, omega (arith, d, e, long));
        whole = subst (λ h. IsKeptTo 0 0 part.first (between packed part.start part.start) h) (sym (nothing_between (moved_heads by heads) part.heads_start))
            (subst (λ p. IsKeptTo 0 0 part.first p []) (sym (nothing_between packed part.start)) none);
      };
      list = sym (list_emptied by part.count part.last (kept part.count part.first bytes) is.whole.parts.counted is.whole.end cannot);
    }

part_either : (by : ℕ) (packed : List ℕ) (heads : List Head) (part : RowPart) → IsPartIn packed heads part → IsPartMoved by packed heads part (moved_part by part)
part_either by packed heads part is =
    elim (cases_Bool (can_move part.count part.last by)) [
      | inl can ↦ subst (IsPartMoved by packed heads part) (sym (cond-true (can_move part.count part.last by) (raised by part) (emptied part) can)) (part_moved by packed heads part is can)
      | inr cannot ↦ subst (IsPartMoved by packed heads part) (sym (cond-false (can_move part.count part.last by) (raised by part) (emptied part) cannot)) (part_emptied by packed heads part is cannot)
    ]

-- all lists moved up
pub record AreRowsMoved (by : ℕ) (packed : List ℕ) (heads : List Head) (rows : List RowList) : Type 0 where
  pub are : AreListsIn packed (moved_heads by heads) (map (moved_row by) rows)
  pub lists : lists_in packed (map (moved_row by) rows) ≡ map (moved_below_end by) (lists_in packed rows)

pub rows_moved : (by : ℕ) (packed : List ℕ) (heads : List Head) (rows : List RowList) → AreListsIn packed heads rows → AreRowsMoved by packed heads rows
rows_moved by packed heads [] are = record { are = tt; lists = refl }
rows_moved by packed heads (Shared part ∷ rows) are =
    let one = part_either by packed heads part are.0 in
    let rest = rows_moved by packed heads rows are.1 in
    record {
      are = (one.is, rest.are);
      lists = ap (λ l. l ∷ lists_in packed (map (moved_row by) rows)) one.list ∙ ap (λ ls. moved_below_end by (list_in packed (Shared part)) ∷ ls) rest.lists;
    }
rows_moved by packed heads (Own list ∷ rows) are =
    let rest = rows_moved by packed heads rows are.1 in
    record { are = (tt, rest.are); lists = ap (λ ls. moved_below_end by list ∷ ls) rest.lists }

-- the rows once all heads and all lists are moved up in place
pub rows_up : (by : ℕ) (packed : List ℕ) (heads heads' new_heads : List Head) (heads_len : ℕ) (rows rows' new_rows : List RowList) (rows_len : ℕ) (lists : List (List ℕ)) → AreListsIn packed heads rows → lists_in packed rows ≡ lists →
    heads_len ≡ length heads → rows_len ≡ length rows → heads' ≡ heads → rows' ≡ rows → new_heads ≡ moved_heads by heads' → new_rows ≡ map (moved_row by) rows' →
    AreListsIn packed (take heads_len (new_heads ++ drop (length new_heads) heads)) (take rows_len (new_rows ++ drop (length new_rows) rows))
    × (lists_in packed (take rows_len (new_rows ++ drop (length new_rows) rows)) ≡ map (moved_below_end by) lists)
rows_up by packed heads heads' new_heads heads_len rows rows' new_rows rows_len lists are view size size' from from' new new' =
    let up = rows_moved by packed heads rows are in
    let heads_is : new_heads ≡ moved_heads by heads = new ∙ ap (moved_heads by) from in
    let rows_is : new_rows ≡ map (moved_row by) rows = new' ∙ ap (map (moved_row by)) from' in
    let all : take heads_len (new_heads ++ drop (length new_heads) heads) ≡ moved_heads by heads =
    written heads_len heads new_heads size (ap length heads_is ∙ length-map heads (moved_head by)) ∙ heads_is in
    let all' : take rows_len (new_rows ++ drop (length new_rows) rows) ≡ map (moved_row by) rows =
    written rows_len rows new_rows size' (ap length rows_is ∙ length-map rows (moved_row by)) ∙ rows_is in (
      subst (λ h. AreListsIn packed h (take rows_len (new_rows ++ drop (length new_rows) rows))) (sym all) (subst (AreListsIn packed (moved_heads by heads)) (sym all') up.are),
      ap (lists_in packed) all' ∙ up.lists ∙ ap (map (moved_below_end by)) view,
    )
