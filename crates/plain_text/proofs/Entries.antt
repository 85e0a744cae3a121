-- Words by their entries.
use Rattle.std.proofs.Common.{◌≡◌, ℕ, zero, suc, ◌+◌, ◌-◌, ◌<◌, ◌≤◌, Bool, cond, List, [], ◌∷◌, ◌++◌, length, take, drop, get_or, slice_get, Some, refl, ap, sym, ◌∙◌, subst, arith, le_refl}
use Rattle.std.specs.List.{prefix_len, slice_range}
use Rattle.std.specs.List.Sorted.{IsNonDecreasingBy}
use Rattle.std.proofs.lemmas.List.{drop_at, take_all, drop-append-le, take-append-le, length-drop}
use Rattle.gcl_model.specs.Texts.{Word, AreRisingBelow}
use Rattle.plain_text.specs.declared.entry.Entry.{Entry}
use Rattle.plain_text.specs.Puts.{word}
use Rattle.plain_text.specs.Entries.{words_in, start_at, AreCuts}

pub length-words_in : (bytes : List ℕ) (start : ℕ) (entries : List Entry) → length (words_in bytes start entries) ≡ length entries
length-words_in bytes start [] = refl
length-words_in bytes start (e ∷ es) = ap suc (length-words_in bytes e.end es)

-- the word at a place
pub word_in : (bytes : List ℕ) (start : ℕ) (entries : List Entry) (i : ℕ) (e : Entry) → slice_get entries i ≡ Some e →
    slice_get (words_in bytes start entries) i ≡ Some (word e.address (slice_range bytes (start_at start entries i) e.end))
word_in bytes start [] i e is = absurd cc
word_in bytes start (x ∷ xs) zero e is = let same : x ≡ e = cc in ap (λ (y : Entry). Some (word y.address (slice_range bytes start y.end))) same
word_in bytes start (x ∷ xs) (suc i) e is = word_in bytes x.end xs i e is

cuts_within : (size start : ℕ) (entries : List Entry) → AreCuts size start entries → start ≤ size
cuts_within size start [] cuts = omega arith
cuts_within size start (e ∷ es) cuts = let le : start ≤ e.end = cuts.0 in let rest = cuts_within size e.end es cuts.1 in omega arith

-- its bytes lie in the block
pub cut_at : (size start : ℕ) (entries : List Entry) → AreCuts size start entries → (i : ℕ) (e : Entry) → slice_get entries i ≡ Some e → (start_at start entries i ≤ e.end) × (e.end ≤ size)
cut_at size start [] cuts i e is = absurd cc
cut_at size start (x ∷ xs) cuts zero e is = let same : x ≡ e = cc in subst (λ (y : Entry). (start ≤ y.end) × (y.end ≤ size)) same (cuts.0, cuts_within size x.end xs cuts.1)
cut_at size start (x ∷ xs) cuts (suc i) e is = cut_at size x.end xs cuts.1 i e is

pub start_at-first : (start : ℕ) (entries : List Entry) → start_at start entries 0 ≡ start
start_at-first start [] = refl
start_at-first start (e ∷ es) = refl

-- the bytes begin where those of the word before end
pub start_at-next : (start : ℕ) (entries : List Entry) (i : ℕ) (e : Entry) → slice_get entries i ≡ Some e → start_at start entries (suc i) ≡ e.end
start_at-next start [] i e is = absurd cc
start_at-next start (x ∷ xs) zero e is = let same : x ≡ e = cc in start_at-first x.end xs ∙ ap (λ (y : Entry). y.end) same
start_at-next start (x ∷ xs) (suc i) e is = start_at-next x.end xs i e is

-- a test on addresses counts entries as it counts words
pub prefix_len-words_in : (test : ℕ → Bool) (bytes : List ℕ) (start : ℕ) (entries : List Entry) → prefix_len (λ (e : Entry). test e.address) entries ≡ prefix_len (λ (w : Word). test w.address) (words_in bytes start entries)
prefix_len-words_in test bytes start [] = refl
prefix_len-words_in test bytes start (e ∷ es) = ap (λ n. cond (test e.address) (1 + n) 0) (prefix_len-words_in test bytes e.end es)

stands_from : (next low : ℕ) (bytes : List ℕ) (start : ℕ) (entries : List Entry) → AreRisingBelow next low (words_in bytes start entries) → (j : ℕ) (d : Entry) → j < length entries → low ≤ (get_or entries j d).address
stands_from next low bytes start [] r j d lt = absurd (omega arith)
stands_from next low bytes start (e ∷ es) r zero d lt = r.0
stands_from next low bytes start (e ∷ es) r (suc j) d lt = let le : low ≤ e.address = r.0 in let rest = stands_from next (e.address + 1) bytes e.end es r.2 j d (omega arith) in omega arith

pub entries_rise : (next low : ℕ) (bytes : List ℕ) (start : ℕ) (entries : List Entry) → AreRisingBelow next low (words_in bytes start entries) → IsNonDecreasingBy (λ (e : Entry). e.address) entries
entries_rise next low bytes start [] r i j d le lt = absurd (omega arith)
entries_rise next low bytes start (e ∷ es) r zero zero d le lt = le_refl e.address
entries_rise next low bytes start (e ∷ es) r zero (suc j) d le lt = let rest = stands_from next (e.address + 1) bytes e.end es r.2 j d (omega arith) in omega arith
entries_rise next low bytes start (e ∷ es) r (suc i) zero d le lt = absurd (omega arith)
entries_rise next low bytes start (e ∷ es) r (suc i) (suc j) d le lt = entries_rise next (e.address + 1) bytes e.end es r.2 i j d (omega arith) (omega arith)

abbrev entry : ℕ → ℕ → Entry
entry address end = record { address = address; end = end }

-- more bytes leave a part as it is
part_kept : (bytes token : List ℕ) (a b : ℕ) → a ≤ b → b ≤ length bytes → slice_range (bytes ++ token) a b ≡ slice_range bytes a b
part_kept bytes token a b le in' =
    let short : a ≤ length bytes = omega arith in
    let fits : b - a ≤ length (drop a bytes) = omega (arith, length-drop a bytes) in
    ap (take (b - a)) (drop-append-le a bytes token short) ∙ take-append-le (b - a) (drop a bytes) token fits

-- one word more, with its bytes after all others
pub words_in-put : (bytes token : List ℕ) (start : ℕ) (entries : List Entry) (address : ℕ) → AreCuts (length bytes) start entries →
    words_in (bytes ++ token) start (entries ++ record { address = address; end = length bytes + length token } ∷ []) ≡ words_in bytes start entries ++ word address token ∷ []
words_in-put bytes token start [] address cuts =
    let whole : slice_range (bytes ++ token) start (length bytes + length token) ≡ token =
    ap (take (length bytes + length token - start)) (drop_at bytes token start (sym cuts)) ∙ take_all (length bytes + length token - start) token (omega arith) in
    ap (λ t. word address t ∷ []) whole
words_in-put bytes token start (e ∷ es) address cuts =
    let kept = part_kept bytes token start e.end cuts.0 (cuts_within (length bytes) e.end es cuts.1) in
    rw (kept, words_in-put bytes token e.end es address cuts.1) refl

pub cuts-put : (size more start : ℕ) (entries : List Entry) (address : ℕ) → AreCuts size start entries → AreCuts (size + more) start (entries ++ record { address = address; end = size + more } ∷ [])
cuts-put size more start [] address cuts = (omega arith, refl)
cuts-put size more start (e ∷ es) address cuts = (cuts.0, cuts-put size more e.end es address cuts.1)
