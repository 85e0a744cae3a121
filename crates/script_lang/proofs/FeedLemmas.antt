-- The lines of a text that comes in pieces.
use Rattle.std.proofs.Common.{◌≡◌, ℕ, suc, ◌+◌, ◌-◌, ◌<◌, ◌≤◌, Bool, true, false, not, ◌||◌, List, [], ◌∷◌, ◌++◌, length, take, drop, map, get_or, get_or-drop, refl, sym, subst, ap, Option, Some, IfSome, MatchOption, ◌↔◌, ◌∙◌, arith, cond, length-take, length-drop, length-append, append_assoc, add-one, drop-cons}
use Rattle.std.specs.Prelude.{◌==◌, nat_lt, nat_le}
use Rattle.std.specs.List.{onto_first, position_or_len}
use Rattle.std.proofs.lemmas.Bool.Decides.{nat_tests}
use Rattle.std.proofs.lemmas.List.{take-append-le, drop-append-le, take-append-drop, map-append, length-take-le, take_all, drop-drop}
use Rattle.std.proofs.lemmas.List.Folds.{list_any-append}
use Rattle.std.proofs.lemmas.List.Sums.{prefix_len-le-length}
use Rattle.std.proofs.lemmas.Bool.{false_from_ne_true, true_from_ne_false, or_parts}
use Rattle.std.proofs.Math.Seq.{drop-append-add, take-append-add, take-add, take-length}
use Rattle.std.proofs.Math.ListN.{drop_of_length-le}
use Rattle.script_lang.specs.Lines.{Line, line_of, lines, line_end, cut_at_newlines}
use Rattle.memchr.specs.Find.{Nowhere, Passes, is_byte}
use Rattle.script_lang.specs.Feeds.{has_newline, HasShortEnd, BeginsLong, IsTakenFrom}
use Rattle.script_lang.proofs.LineLemmas.{lines-first, cut-first, line_of-long, newline-nowhere}

abbrev pub first_newline : List ℕ → ℕ
first_newline = position_or_len (λ b. b == 10)

-- Where the first newline is.

step_none : (t r : Bool) (n len : ℕ) → (t || r) ≡ false → (r ≡ false → n ≡ len) → cond (not t) (1 + n) 0 ≡ suc len
step_none true r n len is more = cc
step_none false r n len is more = omega (arith, more is)

step_some : (t r : Bool) (n len : ℕ) → (t || r) ≡ true → (r ≡ true → n < len) → cond (not t) (1 + n) 0 < suc len
step_some true r n len is more = omega arith
step_some false r n len is more = omega (arith, more is)

-- without a newline the whole is one line
pub newline-none : (bytes : List ℕ) → has_newline bytes ≡ false → first_newline bytes ≡ length bytes
newline-none [] is = refl
newline-none (b ∷ bytes) is = step_none (b == 10) (has_newline bytes) (first_newline bytes) (length bytes) is (newline-none bytes)

pub newline-some : (bytes : List ℕ) → has_newline bytes ≡ true → first_newline bytes < length bytes
newline-some [] is = cc
newline-some (b ∷ bytes) is = step_some (b == 10) (has_newline bytes) (first_newline bytes) (length bytes) is (newline-some bytes)

pub has_newline-none : (bytes : List ℕ) → length bytes ≤ first_newline bytes → has_newline bytes ≡ false
has_newline-none bytes is = false_from_ne_true (has_newline bytes) (λ some. absurd (omega (arith, newline-some bytes some)))

pub has_newline-some : (bytes : List ℕ) → first_newline bytes < length bytes → has_newline bytes ≡ true
has_newline-some bytes is = true_from_ne_false (has_newline bytes) (λ none. absurd (omega (arith, newline-none bytes none)))

step_behind : (t r : Bool) (n len more : ℕ) → (t || r) ≡ false → (r ≡ false → n ≡ len + more) → cond (not t) (1 + n) 0 ≡ suc len + more
step_behind true r n len more is next = cc
step_behind false r n len more is next = omega (arith, next is)

pub newline-behind : (bytes later : List ℕ) → has_newline bytes ≡ false → first_newline (bytes ++ later) ≡ length bytes + first_newline later
newline-behind [] later is = omega arith
newline-behind (b ∷ bytes) later is =
    step_behind (b == 10) (has_newline bytes) (first_newline (bytes ++ later)) (length bytes) (first_newline later) is (newline-behind bytes later)

step_within : (t r : Bool) (n m : ℕ) → (t || r) ≡ true → (r ≡ true → n ≡ m) → cond (not t) (1 + n) 0 ≡ cond (not t) (1 + m) 0
step_within true r n m is next = refl
step_within false r n m is next = ap (λ k. 1 + k) (next is)

newline-within : (bytes later : List ℕ) → has_newline bytes ≡ true → first_newline (bytes ++ later) ≡ first_newline bytes
newline-within [] later is = cc
newline-within (b ∷ bytes) later is =
    step_within (b == 10) (has_newline bytes) (first_newline (bytes ++ later)) (first_newline bytes) is (newline-within bytes later)

-- a part of bytes without a newline has none
has_newline-take : (bytes : List ℕ) (n : ℕ) → has_newline bytes ≡ false → has_newline (take n bytes) ≡ false
has_newline-take bytes n is =
    (or_parts (has_newline (take n bytes)) (has_newline (drop n bytes)) (sym (list_any-append (λ b. b == 10) (take n bytes) (drop n bytes)) ∙ ap has_newline (take-append-drop n bytes) ∙ is)).0

-- Lines that are taken.

-- the first of what is held, whatever follows
pub lines-taken : (most : ℕ) (held later : List ℕ) (n : ℕ) → has_newline held ≡ true → n ≡ first_newline held →
    lines most (held ++ later) ≡ line_of most (take n held) ∷ lines most (drop (n + 1) held ++ later)
lines-taken most held later n some is =
    let inside : first_newline held < length held = newline-some held some in
    let place : n ≡ first_newline (held ++ later) = is ∙ sym (newline-within held later some) in
    let front : take n (held ++ later) ≡ take n held = take-append-le n held later (omega arith) in
    let behind : drop (n + 1) (held ++ later) ≡ drop (n + 1) held ++ later = drop-append-le (n + 1) held later (omega arith) in
    lines-first most (held ++ later) n (omega (arith, length-append held later)) place ∙ rw (front, behind) refl

-- the one line of what has no newline
pub lines-last : (most : ℕ) (held : List ℕ) → has_newline held ≡ false → 0 < length held → lines most held ≡ line_of most held ∷ []
lines-last most held none some =
    let all : take (length held) held ≡ held = take-length held in
    let behind : drop (length held + 1) held ≡ [] = drop_of_length-le held (omega arith) in
    lines-first most held (length held) some (sym (newline-none held none)) ∙ rw (all, behind) refl

-- Pieces that are pushed.

-- a line that is long with its first bytes alone
lines-over : (most : ℕ) (bytes later : List ℕ) → has_newline bytes ≡ false → most < length bytes →
    lines most (bytes ++ later) ≡ record { long = true; bytes = [] } ∷ lines most (drop (first_newline later + 1) later)
lines-over most bytes later none over =
    let n : ℕ = length bytes + first_newline later in
    let place : n ≡ first_newline (bytes ++ later) = sym (newline-behind bytes later none) in
    let inside : first_newline later ≤ length later = prefix_len-le-length (λ b. not (b == 10)) later in
    let wide : most < length (take n (bytes ++ later)) = omega (arith, length-take n (bytes ++ later), length-append bytes later) in
    let long : line_of most (take n (bytes ++ later)) ≡ record { long = true; bytes = [] } = line_of-long most (take n (bytes ++ later)) wide in
    let regroup : n + 1 ≡ length bytes + (first_newline later + 1) = omega arith in
    let behind : drop (n + 1) (bytes ++ later) ≡ drop (first_newline later + 1) later = ap (λ k. drop k (bytes ++ later)) regroup ∙ drop-append-add bytes later (first_newline later + 1) in
    lines-first most (bytes ++ later) n (omega (arith, length-append bytes later)) place ∙ rw (long, behind) refl

lines-cut_by : (t : Bool) (most n : ℕ) (bytes later : List ℕ) → nat_lt n (length bytes) ≡ t → has_newline bytes ≡ false → n ≤ length bytes → (n < length bytes → most < n) →
    lines most (take n bytes ++ later) ≡ lines most (bytes ++ later)
lines-cut_by true most n bytes later is none inside over =
    let before : n < length bytes = grind (arith, nat_tests) in
    let long : most < n = over before in
    lines-over most (take n bytes) later (has_newline-take bytes n none) (omega (arith, length-take-le n bytes inside)) ∙ sym (lines-over most bytes later none (omega arith))
lines-cut_by false most n bytes later is none inside over =
    let whole : n ≡ length bytes = grind (arith, nat_tests) in
    ap (λ text. lines most (text ++ later)) (ap (λ k. take k bytes) whole ∙ take-length bytes)

-- of bytes without a newline, as many as show that the line is long say as much as all
lines-cut : (most n : ℕ) (bytes later : List ℕ) → has_newline bytes ≡ false → n ≤ length bytes → (n < length bytes → most < n) →
    lines most (take n bytes ++ later) ≡ lines most (bytes ++ later)
lines-cut most n bytes later = lines-cut_by (nat_lt n (length bytes)) most n bytes later refl

step_split : (t : Bool) (b : ℕ) (first : List ℕ) (others both front later : List (List ℕ)) → both ≡ front ++ later → front ≡ first ∷ others →
    cond t ([] ∷ both) (onto_first b both) ≡ cond t ([] ∷ front) (onto_first b front) ++ later
step_split true b first others both front later is some = rw is refl
step_split false b first others both front later is some = rw (is, some) refl

-- a newline parts the lines before it from those after it
cut-split : (front rest : List ℕ) → cut_at_newlines (front ++ 10 ∷ rest) ≡ cut_at_newlines (front ++ 10 ∷ []) ++ cut_at_newlines rest
cut-split [] rest = refl
cut-split (b ∷ front) rest =
    step_split (b == 10) b _ _ (cut_at_newlines (front ++ 10 ∷ rest)) (cut_at_newlines (front ++ 10 ∷ [])) (cut_at_newlines rest)
    (cut-split front rest) (cut-first (front ++ 10 ∷ []) (omega (arith, length-append front (10 ∷ []))))

pub lines-split : (most : ℕ) (front rest : List ℕ) → lines most (front ++ 10 ∷ rest) ≡ lines most (front ++ 10 ∷ []) ++ lines most rest
lines-split most front rest = ap (map (line_of most)) (cut-split front rest) ∙ map-append (line_of most) (cut_at_newlines (front ++ 10 ∷ [])) (cut_at_newlines rest)

-- the bytes at a newline, and as many after it
pub piece-parts : (piece : List ℕ) (place n : ℕ) → place < length piece → get_or piece place 0 ≡ 10 → take (place + 1 + n) piece ≡ take place piece ++ 10 ∷ take n (drop (place + 1) piece)
piece-parts piece place n inside here =
    let regroup : place + 1 + n ≡ place + suc n = omega arith in
    let next : drop place piece ≡ 10 ∷ drop (place + 1) piece = rw add-one (drop-cons piece place 0 inside ∙ ap (λ b. b ∷ drop (suc place) piece) here) in
    ap (λ k. take k piece) regroup ∙ take-add place (suc n) piece ∙ ap (λ rest. take place piece ++ take (suc n) rest) next

-- a piece in which a newline is: what is after the last one may be cut
pub lines-kept : (most : ℕ) (held piece later : List ℕ) (place n : ℕ) → place < length piece → get_or piece place 0 ≡ 10 → has_newline (drop (place + 1) piece) ≡ false →
    n ≤ length (drop (place + 1) piece) → (n < length (drop (place + 1) piece) → most < n) →
    lines most (held ++ take (place + 1 + n) piece ++ later) ≡ lines most (held ++ piece ++ later)
lines-kept most held piece later place n inside here none fits over =
    let rest : List ℕ = drop (place + 1) piece in
    let front : List ℕ = held ++ take place piece in
    let kept : held ++ take (place + 1 + n) piece ++ later ≡ front ++ 10 ∷ (take n rest ++ later) = rw (piece-parts piece place n inside here) (simp append_assoc) in
    let long_enough : length piece ≤ place + 1 + length rest = omega (arith, length-drop (place + 1) piece) in
    let whole : piece ≡ take place piece ++ 10 ∷ rest =
    sym (take_all (place + 1 + length rest) piece long_enough) ∙ piece-parts piece place (length rest) inside here ∙ ap (λ part. take place piece ++ 10 ∷ part) (take-length rest) in
    let all : held ++ piece ++ later ≡ front ++ 10 ∷ (rest ++ later) = ap (λ text. held ++ text ++ later) whole ∙ simp append_assoc in
    rw (kept, all) (lines-split most front (take n rest ++ later) ∙ ap (λ tail. lines most (front ++ 10 ∷ []) ++ tail) (lines-cut most n rest later none fits over) ∙ sym (lines-split most front (rest ++ later)))

-- a piece without a newline, after what has none
pub lines-begun : (most : ℕ) (held piece later : List ℕ) (n : ℕ) → has_newline held ≡ false → has_newline piece ≡ false → n ≤ length piece → (n < length piece → most < length held + n) →
    lines most (held ++ take n piece ++ later) ≡ lines most (held ++ piece ++ later)
lines-begun most held piece later n begun none fits over =
    let both : has_newline (held ++ piece) ≡ false = list_any-append (λ b. b == 10) held piece ∙ rw (begun, none) refl in
    let inside : length held + n ≤ length (held ++ piece) = omega (arith, length-append held piece) in
    let long : length held + n < length (held ++ piece) → most < length held + n = λ before. over (omega (arith, length-append held piece)) in
    ap (λ text. lines most (text ++ later)) (sym (take-append-add held piece n)) ∙ lines-cut most (length held + n) (held ++ piece) later both inside long

end-behind_by : (t : Bool) (most : ℕ) (front rest : List ℕ) (k : ℕ) → nat_le k (length front) ≡ t → length rest ≤ most + 1 → has_newline (drop k (front ++ 10 ∷ rest)) ≡ false →
    length (front ++ 10 ∷ rest) ≤ k + (most + 1)
end-behind_by true most front rest k is few none =
    let before : k ≤ length front = grind (arith, nat_tests) in
    let there : has_newline (10 ∷ rest) ≡ false =
    (or_parts (has_newline (drop k front)) (has_newline (10 ∷ rest)) (sym (list_any-append (λ b. b == 10) (drop k front) (10 ∷ rest)) ∙ ap has_newline (sym (drop-append-le k front (10 ∷ rest) before)) ∙ none)).1 in
    absurd (no_newline there)
  where
    no_newline : true ≡ false → ⊥
    no_newline is = cc
end-behind_by false most front rest k is few none =
    let behind : length front < k = grind (arith, nat_tests) in
    omega (arith, length-append front (10 ∷ rest))

end-behind : (most : ℕ) (front rest : List ℕ) → length rest ≤ most + 1 → HasShortEnd most (front ++ 10 ∷ rest)
end-behind most front rest few k none = end-behind_by (nat_le k (length front)) most front rest k refl few none

-- what is kept of a piece with a newline has a short end
pub end-kept : (most : ℕ) (held piece : List ℕ) (place n : ℕ) → place < length piece → get_or piece place 0 ≡ 10 → n ≤ most + 1 → HasShortEnd most (held ++ take (place + 1 + n) piece)
end-kept most held piece place n inside here few =
    let kept : held ++ take (place + 1 + n) piece ≡ (held ++ take place piece) ++ 10 ∷ take n (drop (place + 1) piece) = rw (piece-parts piece place n inside here) (simp append_assoc) in
    subst (HasShortEnd most) (sym kept) (end-behind most (held ++ take place piece) (take n (drop (place + 1) piece)) (omega (arith, length-take n (drop (place + 1) piece))))

-- a search that found nothing
pub has_newline-nowhere : (bytes : List ℕ) → Nowhere (Passes (is_byte 10) bytes) 0 (length bytes) → has_newline bytes ≡ false
has_newline-nowhere bytes none = has_newline-none bytes (omega (arith, newline-nowhere bytes none))

pub has_newline-behind : (bytes : List ℕ) (n : ℕ) → n ≤ length bytes → Nowhere (Passes (is_byte 10) bytes) n (length bytes) → has_newline (drop n bytes) ≡ false
has_newline-behind bytes n inside none =
    has_newline-nowhere (drop n bytes) (λ k low high here. none (n + k) (omega arith) (omega (arith, length-drop n bytes)) (ap (λ b. b == 10) (sym (get_or-drop n bytes k 0)) ∙ here))

pub is_newline : (b : ℕ) → (b == 10) ≡ true → b ≡ 10
is_newline b is = grind (arith, nat_tests)

-- A feed.

pub told : {X : Type 0} (said : Option X) (x : X) (A : Type 0) (P : X → Type 0) → said ≡ Some x → P x → MatchOption said A P
told said x A P is p = rw is p

pub told-some : {X : Type 0} (said : Option X) (x : X) (P : X → Type 0) → said ≡ Some x → P x → IfSome said P
told-some said x P is p = rw is p

-- the last line, which is all that is held
pub finish-told : (said : Option Line) (most : ℕ) (held line : List ℕ) → line ≡ held → has_newline held ≡ false → 0 < length held → said ≡ Some (line_of most line) →
    IfSome said (λ last. lines most held ≡ last ∷ [])
finish-told said most held line same none some is = told-some said (line_of most line) (λ last. lines most held ≡ last ∷ []) is (lines-last most held none some ∙ ap (λ text. line_of most text ∷ []) (sym same))

-- what is held once a part is appended
pub held-pushed : (bytes now part : List ℕ) (at : ℕ) → at ≤ length bytes → now ≡ bytes ++ part → drop at now ≡ drop at bytes ++ part
held-pushed bytes now part at inside is = ap (drop at) is ∙ drop-append-le at bytes part inside

line_end-pushed : (bytes part : List ℕ) (at : ℕ) → at ≤ length bytes → has_newline (drop at bytes) ≡ false → line_end (bytes ++ part) at ≡ length bytes + first_newline part
line_end-pushed bytes part at inside none =
    let place : first_newline (drop at (bytes ++ part)) ≡ length (drop at bytes) + first_newline part = ap first_newline (drop-append-le at bytes part inside) ∙ newline-behind (drop at bytes) part none in
    omega (arith, place, length-drop at bytes)

-- a search from after what was seen goes on as one from the front
pub same_end-pushed : (bytes now part : List ℕ) (at seen : ℕ) → at ≤ seen → seen ≤ length bytes → line_end bytes seen ≡ line_end bytes at → has_newline (drop at bytes) ≡ false → now ≡ bytes ++ part →
    line_end now seen ≡ line_end now at
same_end-pushed bytes now part at seen begins within same none is =
    let all : first_newline (drop at bytes) ≡ length (drop at bytes) = newline-none (drop at bytes) none in
    let none_seen : has_newline (drop seen bytes) ≡ false = has_newline-none (drop seen bytes) (omega (arith, all, length-drop at bytes, length-drop seen bytes)) in
    rw is (line_end-pushed bytes part seen within none_seen ∙ sym (line_end-pushed bytes part at (omega arith) none))

-- a search to the end found no newline
pub take-none : (bytes : List ℕ) (at seen end : ℕ) → at ≤ seen → seen ≤ length bytes → line_end bytes seen ≡ line_end bytes at → end ≡ line_end bytes seen → end ≡ length bytes →
    has_newline (drop at bytes) ≡ false
take-none bytes at seen end begins within same is all = has_newline-none (drop at bytes) (omega (arith, length-drop at bytes))

pub take-some : (bytes : List ℕ) (at seen end : ℕ) → at ≤ seen → seen ≤ length bytes → line_end bytes seen ≡ line_end bytes at → end ≡ line_end bytes seen → end < length bytes →
    has_newline (drop at bytes) ≡ true
take-some bytes at seen end begins within same is before = has_newline-some (drop at bytes) (omega (arith, length-drop at bytes))

-- the line that ends at the newline that was found
pub take-first : (most : ℕ) (bytes : List ℕ) (at seen end : ℕ) → at ≤ seen → seen ≤ length bytes → line_end bytes seen ≡ line_end bytes at → end ≡ line_end bytes seen → end < length bytes →
    IsTakenFrom (record { most = most; held = drop at bytes }) (record { most = most; held = drop (end + 1) bytes }) (line_of most (take (end - at) (drop at bytes)))
take-first most bytes at seen end begins within same is before =
    let some : has_newline (drop at bytes) ≡ true = take-some bytes at seen end begins within same is before in
    let place : end - at ≡ first_newline (drop at bytes) = omega arith in
    let regroup : at + (end - at + 1) ≡ end + 1 = omega arith in
    let behind : drop (end - at + 1) (drop at bytes) ≡ drop (end + 1) bytes = drop-drop (end - at + 1) at bytes ∙ ap (λ k. drop k bytes) regroup in
    record {
      first = λ later. lines-taken most (drop at bytes) later (end - at) some place ∙ rw behind refl;
      fewer = omega (arith, length-drop at bytes, length-drop (end + 1) bytes);
    }

-- a part of what is held has as short an end
pub end-later : (most : ℕ) (bytes : List ℕ) (at next : ℕ) → at ≤ next → next ≤ length bytes → HasShortEnd most (drop at bytes) → HasShortEnd most (drop next bytes)
end-later most bytes at next after inside short k none =
    let regroup : at + (next - at + k) ≡ next + k = omega arith in
    let same : drop (next - at + k) (drop at bytes) ≡ drop k (drop next bytes) = drop-drop (next - at + k) at bytes ∙ ap (λ j. drop j bytes) regroup ∙ sym (drop-drop k next bytes) in
    let bound : length (drop at bytes) ≤ next - at + k + (most + 1) = short (next - at + k) (ap has_newline same ∙ none) in
    omega (arith, length-drop at bytes, length-drop next bytes)

-- the line that was taken is long
pub take-long : (P : Type 0) (most : ℕ) (bytes line : List ℕ) (at seen end : ℕ) → at ≤ seen → seen ≤ length bytes → line_end bytes seen ≡ line_end bytes at → end ≡ line_end bytes seen → end < length bytes →
    line ≡ take (end - at) (drop at bytes) → (P ↔ (most < length line)) → P ↔ BeginsLong (record { most = most; held = drop at bytes })
take-long P most bytes line at seen end begins within same is before cut told =
    let some : has_newline (drop at bytes) ≡ true = take-some bytes at seen end begins within same is before in
    let wide : length line ≡ end - at = ap length cut ∙ length-take-le (end - at) (drop at bytes) (omega (arith, length-drop at bytes)) in
    (λ p. let over : most < length line = told.0 p in record { ended = some; over = omega arith }, λ b. told.1 (omega (arith, b.over)))

-- whether a search comes to the end
pub has_line-told : (t : Bool) (bytes : List ℕ) (at seen end : ℕ) → at ≤ seen → seen ≤ length bytes → line_end bytes seen ≡ line_end bytes at → end ≡ line_end bytes seen → end ≤ length bytes →
    nat_lt end (length bytes) ≡ t → t ≡ has_newline (drop at bytes)
has_line-told true bytes at seen end begins within same is bound test =
    let before : end < length bytes = grind (arith, nat_tests) in
    sym (take-some bytes at seen end begins within same is before)
has_line-told false bytes at seen end begins within same is bound test =
    let all : end ≡ length bytes = grind (arith, nat_tests) in
    sym (take-none bytes at seen end begins within same is all)
