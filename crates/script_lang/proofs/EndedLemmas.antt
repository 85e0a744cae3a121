-- The whole lines at the front of a text: its bytes up to the last newline.
use Rattle.std.proofs.Common.{◌≡◌, ℕ, ◌+◌, ◌-◌, ◌<◌, ◌≤◌, Bool, true, false, not, ◌||◌, List, [], ◌∷◌, ◌++◌, length, take, drop, get_or, get_or-drop, refl, sym, ap, ◌∙◌, arith, cond, length-append, length-drop, append_assoc}
use Rattle.std.specs.Prelude.{◌==◌}
use Rattle.std.proofs.lemmas.List.{append-nil, append_cancel_left, take-append-le, take-append-drop, take_all, drop-drop}
use Rattle.std.proofs.lemmas.List.Folds.{list_any-append}
use Rattle.std.proofs.lemmas.List.Sums.{prefix_len-le-length}
use Rattle.std.proofs.Math.Seq.{take-length}
use Rattle.std.proofs.Math.ListN.{drop_of_length-le}
use Rattle.script_lang.specs.Lines.{Line, line_of, lines, line_end, before_any, ended}
use Rattle.memchr.specs.Find.{NoneAfter, Nowhere, Passes, is_byte}
use Rattle.script_lang.specs.Feeds.{has_newline}
use Rattle.script_lang.proofs.LineLemmas.{lines-first}
use Rattle.script_lang.proofs.FeedLemmas.{first_newline, newline-none, newline-behind, lines-split, piece-parts, has_newline-nowhere, has_newline-behind, is_newline, take-none}

-- The last newline.

step_whole : (t r : Bool) (b : ℕ) (part : List ℕ) → (t || r) ≡ false → (r ≡ false → part ≡ []) → cond t (10 ∷ part) (before_any b part) ≡ []
step_whole true r b part is whole = cc
step_whole false r b part is whole = ap (before_any b) (whole is)

-- without a newline there is no whole line
pub ended_whole : (bytes : List ℕ) → has_newline bytes ≡ false → ended bytes ≡ []
ended_whole [] none = refl
ended_whole (b ∷ bytes) none = step_whole (b == 10) (has_newline bytes) b (ended bytes) none (ended_whole bytes)

step_ended : (t : Bool) (b : ℕ) (front : List ℕ) → (t ≡ true → b ≡ 10) → cond t (10 ∷ (front ++ 10 ∷ [])) (before_any b (front ++ 10 ∷ [])) ≡ b ∷ (front ++ 10 ∷ [])
step_ended true b front is = ap (λ first. first ∷ (front ++ 10 ∷ [])) (sym (is refl))
step_ended false b [] is = refl
step_ended false b (c ∷ front) is = refl

-- the last newline ends the whole lines
pub ended-at : (front rest : List ℕ) → has_newline rest ≡ false → ended (front ++ 10 ∷ rest) ≡ front ++ 10 ∷ []
ended-at [] rest none = ap (λ part. 10 ∷ part) (ended_whole rest none)
ended-at (b ∷ front) rest none =
    ap (λ part. cond (b == 10) (10 ∷ part) (before_any b part)) (ended-at front rest none) ∙ step_ended (b == 10) b front (is_newline b)

-- what comes before the last newline, and what comes after it
record LastNewline (bytes : List ℕ) : Type 0 where
  front : List ℕ
  rest : List ℕ
  whole : bytes ≡ front ++ 10 ∷ rest
  none : has_newline rest ≡ false

or_first : (t : Bool) → (t || false) ≡ true → t ≡ true
or_first true is = refl
or_first false is = is

step_last : (t : Bool) (b : ℕ) (bytes : List ℕ) → has_newline bytes ≡ t → ((b == 10) || t) ≡ true → (t ≡ true → LastNewline bytes) → LastNewline (b ∷ bytes)
step_last true b bytes is some later =
    let last : LastNewline bytes = later refl in
    record { front = b ∷ last.front; rest = last.rest; whole = ap (λ part. b ∷ part) last.whole; none = last.none }
step_last false b bytes is some later =
    record { front = []; rest = bytes; whole = ap (λ first. first ∷ bytes) (is_newline b (or_first (b == 10) some)); none = is }

last-newline : (bytes : List ℕ) → has_newline bytes ≡ true → LastNewline bytes
last-newline [] some = cc
last-newline (b ∷ bytes) some = step_last (has_newline bytes) b bytes refl some (last-newline bytes)

-- The lines of the whole lines.

-- what comes after the whole lines, and that lines which follow them come after theirs
record EndedParts (bytes : List ℕ) : Type 0 where
  behind : List ℕ
  whole : ended bytes ++ behind ≡ bytes
  none : has_newline behind ≡ false
  lines_are : (most : ℕ) (later : List ℕ) → lines most (ended bytes ++ later) ≡ lines most (ended bytes) ++ lines most later

ended-parts_by : (t : Bool) (bytes : List ℕ) → has_newline bytes ≡ t → EndedParts bytes
ended-parts_by true bytes is =
    let last : LastNewline bytes = last-newline bytes is in
    let front : ended bytes ≡ last.front ++ 10 ∷ [] = ap ended last.whole ∙ ended-at last.front last.rest last.none in
    record {
      behind = last.rest;
      whole = ap (λ part. part ++ last.rest) front ∙ append_assoc last.front (10 ∷ []) last.rest ∙ sym last.whole;
      none = last.none;
      lines_are = λ most later. ap (λ part. lines most (part ++ later)) front ∙ ap (lines most) (append_assoc last.front (10 ∷ []) later) ∙ lines-split most last.front later ∙ ap (λ part. lines most part ++ lines most later) (sym front);
    }
ended-parts_by false bytes is =
    let none : ended bytes ≡ [] = ended_whole bytes is in
    record {
      behind = bytes;
      whole = ap (λ part. part ++ bytes) none;
      none = is;
      lines_are = λ most later. ap (λ part. lines most (part ++ later)) none ∙ ap (λ part. lines most part ++ lines most later) (sym none);
    }

ended-parts : (bytes : List ℕ) → EndedParts bytes
ended-parts bytes = ended-parts_by (has_newline bytes) bytes refl

-- the lines of a text are those of its whole lines, and then those of what comes after them, whatever follows
pub lines_of_ended : (most : ℕ) (bytes rest later : List ℕ) → ended bytes ++ rest ≡ bytes → lines most (bytes ++ later) ≡ lines most (ended bytes) ++ lines most (rest ++ later)
lines_of_ended most bytes rest later whole =
    let regroup : bytes ++ later ≡ ended bytes ++ (rest ++ later) = ap (λ text. text ++ later) (sym whole) ∙ append_assoc (ended bytes) rest later in
    ap (lines most) regroup ∙ (ended-parts bytes).lines_are most (rest ++ later)

-- no newline comes after the whole lines
pub none_behind_ended : (bytes rest : List ℕ) → ended bytes ++ rest ≡ bytes → has_newline rest ≡ false
none_behind_ended bytes rest whole =
    let parts : EndedParts bytes = ended-parts bytes in
    ap has_newline (append_cancel_left (ended bytes) rest parts.behind (whole ∙ sym parts.whole)) ∙ parts.none

-- More bytes.

ended-append_none_by : (t : Bool) (a b : List ℕ) → has_newline a ≡ t → has_newline b ≡ false → ended (a ++ b) ≡ ended a
ended-append_none_by true a b is none =
    let last : LastNewline a = last-newline a is in
    let neither : has_newline (last.rest ++ b) ≡ false = list_any-append (λ c. c == 10) last.rest b ∙ rw (last.none, none) refl in
    let all : a ++ b ≡ last.front ++ 10 ∷ (last.rest ++ b) = ap (λ text. text ++ b) last.whole ∙ append_assoc last.front (10 ∷ last.rest) b in
    ap ended all ∙ ended-at last.front (last.rest ++ b) neither ∙ sym (ap ended last.whole ∙ ended-at last.front last.rest last.none)
ended-append_none_by false a b is none =
    let neither : has_newline (a ++ b) ≡ false = list_any-append (λ c. c == 10) a b ∙ rw (is, none) refl in
    ended_whole (a ++ b) neither ∙ sym (ended_whole a is)

-- bytes without a newline end no line
pub ended-append_none : (a b : List ℕ) → has_newline b ≡ false → ended (a ++ b) ≡ ended a
ended-append_none a b = ended-append_none_by (has_newline a) a b refl

-- with a newline after them all bytes are in whole lines
pub ended-append_some : (a b : List ℕ) → has_newline b ≡ true → ended (a ++ b) ≡ a ++ ended b
ended-append_some a b some =
    let last : LastNewline b = last-newline b some in
    let all : a ++ b ≡ (a ++ last.front) ++ 10 ∷ last.rest = ap (λ text. a ++ text) last.whole ∙ sym (append_assoc a last.front (10 ∷ last.rest)) in
    let front : ended b ≡ last.front ++ 10 ∷ [] = ap ended last.whole ∙ ended-at last.front last.rest last.none in
    ap ended all ∙ ended-at (a ++ last.front) last.rest last.none ∙ append_assoc a last.front (10 ∷ []) ∙ ap (λ text. a ++ text) (sym front)

ended_begins_by : (t : Bool) (most : ℕ) (a b : List ℕ) → has_newline b ≡ t → (more : List Line) × (lines most (ended (a ++ b)) ≡ lines most (ended a) ++ more)
ended_begins_by true most a b is =
    let parts : EndedParts a = ended-parts a in
    let regroup : ended (a ++ b) ≡ ended a ++ (parts.behind ++ ended b) = ended-append_some a b is ∙ ap (λ text. text ++ ended b) (sym parts.whole) ∙ append_assoc (ended a) parts.behind (ended b) in
    (lines most (parts.behind ++ ended b), ap (lines most) regroup ∙ parts.lines_are most (parts.behind ++ ended b))
ended_begins_by false most a b is = ([], ap (lines most) (ended-append_none a b is) ∙ sym (append-nil (lines most (ended a))))

-- the whole lines of a text begin with those of its front
pub ended_begins : (most : ℕ) (a b : List ℕ) → (more : List Line) × (lines most (ended (a ++ b)) ≡ lines most (ended a) ++ more)
ended_begins most a b = ended_begins_by (has_newline b) most a b refl

-- Lines that were taken.

-- a newline after bytes without one makes them a line
line-ended : (most : ℕ) (held : List ℕ) → has_newline held ≡ false → lines most (held ++ 10 ∷ []) ≡ line_of most held ∷ []
line-ended most held none =
    let count : length (held ++ 10 ∷ []) ≡ length held + 1 = length-append held (10 ∷ []) in
    let place : length held ≡ first_newline (held ++ 10 ∷ []) = omega (arith, newline-behind held (10 ∷ []) none) in
    let front : take (length held) (held ++ 10 ∷ []) ≡ held = take-append-le (length held) held (10 ∷ []) (omega arith) ∙ take-length held in
    let behind : drop (length held + 1) (held ++ 10 ∷ []) ≡ [] = drop_of_length-le (held ++ 10 ∷ []) (omega arith) in
    lines-first most (held ++ 10 ∷ []) (length held) (omega arith) place ∙ rw (front, behind) refl

-- lists with one more member each
fronts-same : (xs ys : List Line) (x y : Line) → xs ++ x ∷ [] ≡ ys ++ y ∷ [] → xs ≡ ys
fronts-same xs ys x y same =
    let counts : length xs ≡ length ys = omega (arith, ap length same, length-append xs (x ∷ []), length-append ys (y ∷ [])) in
    let front : take (length xs) (xs ++ x ∷ []) ≡ xs = take-append-le (length xs) xs (x ∷ []) (omega arith) ∙ take-length xs in
    let other : take (length ys) (ys ++ y ∷ []) ≡ ys = take-append-le (length ys) ys (y ∷ []) (omega arith) ∙ take-length ys in
    sym front ∙ ap (take (length xs)) same ∙ ap (λ k. take k (ys ++ y ∷ [])) counts ∙ other

-- the lines that were taken before a rest without a newline are the whole lines
pub done_is_ended : (most : ℕ) (read held : List ℕ) (done : List Line) → ((later : List ℕ) → lines most (read ++ later) ≡ done ++ lines most (held ++ later)) → has_newline held ≡ false →
    done ≡ lines most (ended read)
done_is_ended most read held done taken none =
    let parts : EndedParts read = ended-parts read in
    let as_taken : lines most (read ++ 10 ∷ []) ≡ done ++ line_of most held ∷ [] = taken (10 ∷ []) ∙ ap (λ last. done ++ last) (line-ended most held none) in
    let as_ended : lines most (read ++ 10 ∷ []) ≡ lines most (ended read) ++ line_of most parts.behind ∷ [] =
    lines_of_ended most read parts.behind (10 ∷ []) parts.whole ∙ ap (λ last. lines most (ended read) ++ last) (line-ended most parts.behind parts.none) in
    fronts-same done (lines most (ended read)) (line_of most held) (line_of most parts.behind) (sym as_taken ∙ as_ended)

-- How many lines there are.

-- A feed.

-- a place that holds a newline, after which none is, ends the whole lines
pub ended-found : (bytes : List ℕ) (place : ℕ) → place < length bytes → get_or bytes place 0 ≡ 10 → has_newline (drop (place + 1) bytes) ≡ false → take (place + 1) bytes ≡ ended bytes
ended-found bytes place inside here none =
    let rest : List ℕ = drop (place + 1) bytes in
    let count : place + 1 ≡ place + 1 + 0 = omega arith in
    let front : take (place + 1) bytes ≡ take place bytes ++ 10 ∷ [] = ap (λ k. take k bytes) count ∙ piece-parts bytes place 0 inside here in
    let long_enough : length bytes ≤ place + 1 + length rest = omega (arith, length-drop (place + 1) bytes) in
    let whole : bytes ≡ take place bytes ++ 10 ∷ rest =
    sym (take_all (place + 1 + length rest) bytes long_enough) ∙ piece-parts bytes place (length rest) inside here ∙ ap (λ part. take place bytes ++ 10 ∷ part) (take-length rest) in
    front ∙ sym (ap ended whole ∙ ended-at (take place bytes) rest none)

-- the last newline after a place that has none before it
pub ended-last : (bytes slice : List ℕ) (at seen last : ℕ) → at ≤ seen → slice ≡ drop seen bytes → NoneAfter (Passes (is_byte 10) slice) 0 (length slice) last → Passes (is_byte 10) slice last →
    take (seen + last + 1 - at) (drop at bytes) ≡ ended (drop at bytes)
ended-last bytes slice at seen last begins same after here =
    let held : List ℕ = drop at bytes in
    let place : ℕ = seen - at + last in
    let from : at + (seen - at) ≡ seen = omega arith in
    let tail : drop (seen - at) held ≡ slice = drop-drop (seen - at) at bytes ∙ ap (λ k. drop k bytes) from ∙ sym same in
    let inside : place < length held = omega (arith, after.high, ap length same, length-drop seen bytes, length-drop at bytes) in
    let newline : get_or held place 0 ≡ 10 = sym (get_or-drop (seen - at) held last 0) ∙ ap (λ part. get_or part last 0) tail ∙ is_newline (get_or slice last 0) here in
    let regroup : place + 1 ≡ seen - at + (last + 1) = omega arith in
    let behind : drop (place + 1) held ≡ drop (last + 1) slice = ap (λ k. drop k held) regroup ∙ sym (drop-drop (last + 1) (seen - at) held) ∙ ap (drop (last + 1)) tail in
    let none : has_newline (drop (place + 1) held) ≡ false = ap has_newline behind ∙ has_newline-behind slice (last + 1) (omega (arith, after.high)) after.after in
    let count : seen + last + 1 - at ≡ place + 1 = omega arith in
    ap (λ k. take k held) count ∙ ended-found held place inside newline none

-- a search that found no newline after that place
pub ended-nowhere : (bytes slice : List ℕ) (at seen : ℕ) → at ≤ seen → seen ≤ length bytes → line_end bytes seen ≡ line_end bytes at → slice ≡ drop seen bytes → Nowhere (Passes (is_byte 10) slice) 0 (length slice) →
    [] ≡ ended (drop at bytes)
ended-nowhere bytes slice at seen begins within same_end same none =
    let all : first_newline (drop seen bytes) ≡ length (drop seen bytes) = newline-none (drop seen bytes) (ap has_newline (sym same) ∙ has_newline-nowhere slice none) in
    let end : line_end bytes seen ≡ length bytes = omega (arith, all, length-drop seen bytes) in
    sym (ended_whole (drop at bytes) (take-none bytes at seen (line_end bytes seen) begins within same_end refl end))

-- what is held after the whole lines that are taken
pub ready-parts : (bytes held : List ℕ) (at n : ℕ) → drop at bytes ≡ held → take n held ≡ ended held → ended held ++ drop (at + n) bytes ≡ held
ready-parts bytes held at n same front =
    let behind : drop (at + n) bytes ≡ drop n held = sym (drop-drop n at bytes) ∙ ap (drop n) same in
    ap (λ rest. ended held ++ rest) behind ∙ ap (λ part. part ++ drop n held) (sym front) ∙ take-append-drop n held

-- a search starting at the end finds as much as one through bytes without a newline
pub same_end-taken : (bytes : List ℕ) (at seen : ℕ) → at ≤ length bytes → seen ≡ length bytes → has_newline (drop at bytes) ≡ false → line_end bytes seen ≡ line_end bytes at
same_end-taken bytes at seen inside is none =
    let past : first_newline (drop seen bytes) ≤ length (drop seen bytes) = prefix_len-le-length (λ b. not (b == 10)) (drop seen bytes) in
    omega (arith, past, length-drop seen bytes, newline-none (drop at bytes) none, length-drop at bytes)
