-- The members of a phrase's list are its rows, and its accesses find the nearest row.
use Rattle.std.proofs.Common.{◌≡◌, ℕ, ◌+◌, ◌-◌, ◌<◌, ◌≤◌, leb, eqb, List, [], ◌∷◌, length, Option, Some, None, sym, ap, ◌∙◌, arith}
use Rattle.std.proofs.lemmas.Bool.{and_parts, and_from, leb-true, le-leb, eqb-true, eq-eqb}
use Rattle.gcl_model.specs.Extents.{Extent, extent, all_extents}
use Rattle.gcl_model.specs.Access.{first_start, first_end, last_end, last_start}
use Rattle.gcl_model.specs.Texts.{Text, IsText}
use Rattle.gcl_model.specs.Forms.{phrase}
use Rattle.gcl_model.specs.Meaning.{concordance, denotes, holds_in_row}
use Rattle.gcl_model.proofs.Covers.{Has, find_agree_on, find_last_agree_on, find_gives}
use Rattle.gcl_model.proofs.Minimal.{filter_has, has_filter, has_extent, same_truth}
use Rattle.gcl_model.proofs.Meanings.{concordance_rises}
use Rattle.phrase_walk.specs.Starts.{IsRow}
use Rattle.phrase_walk.proofs.Places.{held_within}
use Rattle.phrase_walk.proofs.Rows.{InRow, row_parts}
use Rattle.phrase_walk.proofs.Finds.{none_first, none_last, one_first, one_last}

-- a row lies within the text
pub row_within : (text : Text) → IsText text → (tokens : List (List ℕ)) (r : ℕ) → 1 ≤ length tokens → InRow text tokens r → (text.first ≤ r) × (r + length tokens ≤ text.next)
row_within text sound [] r some row = absurd (omega arith)
row_within text sound (token ∷ []) r some row =
    let h = held_within text.next text.first text.words token r sound.rising (row_parts text token [] r row).0 in
    let above : text.first ≤ r = h.0 in
    let below : r < text.next = h.1 in
    (above, omega arith)
row_within text sound (token ∷ next ∷ tokens) r some row =
    let parts = row_parts text token (next ∷ tokens) r row in
    let rest = row_within text sound (next ∷ tokens) (r + 1) (omega arith) parts.1 in
    let below : r + 1 + length (next ∷ tokens) ≤ text.next = rest.1 in
    ((held_within text.next text.first text.words token r sound.rising parts.0).0, omega arith)

row_has : (text : Text) → IsText text → (tokens : List (List ℕ)) (r e : ℕ) → 1 ≤ length tokens → InRow text tokens r → e + 1 ≡ r + length tokens → Has (concordance text (phrase tokens)) (extent r e)
row_has text sound tokens r e some row is =
    let within = row_within text sound tokens r some row in
    let below : r + length tokens ≤ text.next = within.1 in
    filter_has (denotes text (phrase tokens)) (all_extents text.first text.next) (extent r e)
    (has_extent text.first text.next r e within.0 (omega arith) (omega arith))
    (and_from (eqb (e + 1) (r + length tokens)) (holds_in_row text.words tokens r) (eq-eqb (e + 1) (r + length tokens) is) row)

pub member_row : (text : Text) (tokens : List (List ℕ)) (a : Extent) → Has (concordance text (phrase tokens)) a → IsRow text tokens a
member_row text tokens a m =
    let parts = and_parts (eqb (a.end + 1) (a.start + length tokens)) (holds_in_row text.words tokens a.start)
    (has_filter (denotes text (phrase tokens)) (all_extents text.first text.next) a m).1 in
    record { wide = eqb-true (a.end + 1) (a.start + length tokens) parts.0; row = parts.1 }

pub first_row : (text : Text) → IsText text → (tokens : List (List ℕ)) (k s e : ℕ) → 1 ≤ length tokens → k ≤ s → InRow text tokens s → e + 1 ≡ s + length tokens →
    ((r : ℕ) → k ≤ r → InRow text tokens r → s ≤ r) → first_start (concordance text (phrase tokens)) k ≡ Some (extent s e)
first_row text sound tokens k s e some from row wide least =
    one_first (λ a. leb k a.start) (concordance text (phrase tokens)) (concordance_rises text (phrase tokens)) (extent s e) (row_has text sound tokens s e some row wide) (le-leb k s from)
    (λ d m t. least d.start (leb-true k d.start t) (member_row text tokens d m).row)

pub no_first_row : (text : Text) (tokens : List (List ℕ)) (k : ℕ) → ((r : ℕ) → k ≤ r → InRow text tokens r → ⊥) → first_start (concordance text (phrase tokens)) k ≡ None
no_first_row text tokens k no_row =
    none_first (λ a. leb k a.start) (concordance text (phrase tokens)) (λ d m t. no_row d.start (leb-true k d.start t) (member_row text tokens d m).row)

pub last_row : (text : Text) → IsText text → (tokens : List (List ℕ)) (k s e : ℕ) → 1 ≤ length tokens → s ≤ k → InRow text tokens s → e + 1 ≡ s + length tokens →
    ((r : ℕ) → r ≤ k → InRow text tokens r → r ≤ s) → last_start (concordance text (phrase tokens)) k ≡ Some (extent s e)
last_row text sound tokens k s e some upto row wide greatest =
    one_last (λ a. leb a.start k) (concordance text (phrase tokens)) (concordance_rises text (phrase tokens)) (extent s e) (row_has text sound tokens s e some row wide) (le-leb s k upto)
    (λ d m t. greatest d.start (leb-true d.start k t) (member_row text tokens d m).row)

pub no_last_row : (text : Text) (tokens : List (List ℕ)) (k : ℕ) → ((r : ℕ) → r ≤ k → InRow text tokens r → ⊥) → last_start (concordance text (phrase tokens)) k ≡ None
no_last_row text tokens k no_row =
    none_last (λ a. leb a.start k) (concordance text (phrase tokens)) (λ d m t. no_row d.start (leb-true d.start k t) (member_row text tokens d m).row)

-- a row ends at or after k if it starts at or after k less its other addresses
first_end_by_start : (text : Text) (tokens : List (List ℕ)) (k s : ℕ) → 1 ≤ length tokens → s ≡ k - (length tokens - 1) →
    first_start (concordance text (phrase tokens)) s ≡ first_end (concordance text (phrase tokens)) k
first_end_by_start text tokens k s some is =
    find_agree_on (λ a. leb s a.start) (λ a. leb k a.end) (concordance text (phrase tokens)) (λ a m.
    let wide : a.end + 1 ≡ a.start + length tokens = (member_row text tokens a m).wide in
    same_truth (leb s a.start) (leb k a.end)
    (λ t. let le : s ≤ a.start = leb-true s a.start t in le-leb k a.end (omega arith))
    (λ t. let le : k ≤ a.end = leb-true k a.end t in le-leb s a.start (omega arith)))

last_end_by_start : (text : Text) (tokens : List (List ℕ)) (k s : ℕ) → 1 ≤ length tokens → s + (length tokens - 1) ≡ k →
    last_start (concordance text (phrase tokens)) s ≡ last_end (concordance text (phrase tokens)) k
last_end_by_start text tokens k s some is =
    find_last_agree_on (λ a. leb a.start s) (λ a. leb a.end k) (concordance text (phrase tokens)) (λ a m.
    let wide : a.end + 1 ≡ a.start + length tokens = (member_row text tokens a m).wide in
    same_truth (leb a.start s) (leb a.end k)
    (λ t. let le : a.start ≤ s = leb-true a.start s t in le-leb a.end k (omega arith))
    (λ t. let le : a.end ≤ k = leb-true a.end k t in le-leb a.start s (omega arith)))

pub no_last_end : (text : Text) (tokens : List (List ℕ)) (k : ℕ) → k + 1 < length tokens → last_end (concordance text (phrase tokens)) k ≡ None
no_last_end text tokens k short =
    none_last (λ a. leb a.end k) (concordance text (phrase tokens)) (λ a m t.
    let wide : a.end + 1 ≡ a.start + length tokens = (member_row text tokens a m).wide in
    let le : a.end ≤ k = leb-true a.end k t in
    absurd (omega arith))

pub first_end_found : (text : Text) (slice tokens : List (List ℕ)) (k s : ℕ) (o : Option Extent) → slice ≡ tokens → 1 ≤ length tokens → s ≡ k - (length tokens - 1) →
    o ≡ first_start (concordance text (phrase slice)) s → o ≡ first_end (concordance text (phrase tokens)) k
first_end_found text slice tokens k s o same some is found =
    found ∙ ap (λ ts. first_start (concordance text (phrase ts)) s) same ∙ first_end_by_start text tokens k s some is

pub last_end_found : (text : Text) (slice tokens : List (List ℕ)) (k s : ℕ) (o : Option Extent) → slice ≡ tokens → 1 ≤ length tokens → s + (length tokens - 1) ≡ k →
    o ≡ last_start (concordance text (phrase slice)) s → o ≡ last_end (concordance text (phrase tokens)) k
last_end_found text slice tokens k s o same some is found =
    found ∙ ap (λ ts. last_start (concordance text (phrase ts)) s) same ∙ last_end_by_start text tokens k s some is

-- what an access finds is a row
pub found_row : (text : Text) (tokens : List (List ℕ)) (k : ℕ) (a : Extent) → Some a ≡ first_start (concordance text (phrase tokens)) k → IsRow text tokens a
found_row text tokens k a is = member_row text tokens a (find_gives (λ a. leb k a.start) (concordance text (phrase tokens)) a (sym is)).0
