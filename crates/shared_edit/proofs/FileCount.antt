-- How many files a history of edits leaves.
use Rattle.std.proofs.Common.{◌≡◌, ℕ, ◌+◌, ◌<◌, ◌≤◌, Bool, true, false, not, ◌||◌, ◌==◌, cond, List, [], ◌∷◌, ◌++◌, length, filter, refl, sym, ap, ◌∙◌, subst, arith, length-append, eqb-true}
use Rattle.std.proofs.lemmas.List.{length-map}
use Rattle.std.specs.List.{list_any}
use Rattle.gcl_model.specs.Collections.{Collection, File, empty_from, has_file, with_file, without_file}
use Rattle.gcl_model.specs.Tokens.{tokens_of}
use Rattle.live_version.specs.Contents.{files_of}
use Rattle.live_version.specs.StandsFor.{entry_of}
use Rattle.collection.specs.Engines.{EngineContent}
use Rattle.shared_edit.specs.declared.entry.Edit.{Edit}
use Rattle.shared_edit.specs.declared.entry.Edit.TheVariants.{Add, Del}
use Rattle.shared_edit.specs.declared.entry.EditReply.{EditReply}
use Rattle.shared_edit.specs.declared.entry.EditReply.TheVariants.{Added, Spent, Gone, NotLive}
use Rattle.shared_edit.specs.declared.entry.Entry.{Entry}
use Rattle.shared_edit.specs.Histories.{IsHistory, after_edit, add_reply, count_of, del_reply, end_of, fits, is_added, is_gone, is_refused, reply_to}
use Rattle.shared_edit.specs.Books.{IsClosed, IsJournalOf, closed_content}
use Rattle.shared_edit.proofs.BookLemmas.{added_ids, count-cons, gone_dels}

-- the ids rise, at or above the low bound and below the high one
abbrev Rise : ℕ → ℕ → List File → Type 0
Rise low high [] = low ≤ high
Rise low high (file ∷ files) = (low ≤ file.id) × Rise (file.id + 1) high files

rise_snoc : (low high : ℕ) (files : List File) (file : File) → file.id ≡ high → Rise low high files → Rise low (high + 1) (files ++ file ∷ [])
rise_snoc low high [] file is h = (omega (arith, is, h), omega (arith, is))
rise_snoc low high (f ∷ files) file is h = (h.0, rise_snoc (f.id + 1) high files file is h.1)

rise_lower : (low low' high : ℕ) (files : List File) → low' ≤ low → Rise low high files → Rise low' high files
rise_lower low low' high [] le h = omega (arith, le, h)
rise_lower low low' high (f ∷ files) le h = (omega (arith, le, h.0), h.1)

abbrev kept : ℕ → List File → List File
kept id files = filter (λ file. not (file.id == id)) files

rise_kept : (id low high : ℕ) (files : List File) → Rise low high files → Rise low high (kept id files)
rise_kept id low high [] h = h
rise_kept id low high (f ∷ files) h = by_case (f.id == id) (rise_kept id (f.id + 1) high files h.1)
  where
    by_case : (b : Bool) → Rise (f.id + 1) high (kept id files) → Rise low high (cond (not b) (f ∷ kept id files) (kept id files))
    by_case true rest = let from = h.0 in rise_lower (f.id + 1) low high (kept id files) (omega (arith, from)) rest
    by_case false rest = (h.0, rest)

-- if all ids lie above it, every file is kept
all_kept : (id low high : ℕ) (files : List File) → id < low → Rise low high files → length (kept id files) ≡ length files
all_kept id low high [] lt h = refl
all_kept id low high (f ∷ files) lt h = by_case (f.id == id) refl (all_kept id (f.id + 1) high files (let from = h.0 in omega (arith, lt, from)) h.1)
  where
    by_case : (b : Bool) → (f.id == id) ≡ b → length (kept id files) ≡ length files → length (cond (not b) (f ∷ kept id files) (kept id files)) ≡ length (f ∷ files)
    by_case true e rest = let from = h.0 in let same : f.id ≡ id = eqb-true f.id id e in absurd (omega (arith, lt, from, same))
    by_case false e rest = omega (arith, rest)

-- of rising ids, one file at most has the id
one_gone : (id low high : ℕ) (files : List File) → Rise low high files → list_any (λ file. file.id == id) files ≡ true → length (kept id files) + 1 ≡ length files
one_gone id low high [] h has = absurd (cc has)
one_gone id low high (f ∷ files) h has = by_case (f.id == id) refl has (one_gone id (f.id + 1) high files h.1)
  where
    by_case : (b : Bool) → (f.id == id) ≡ b → (b || list_any (λ file. file.id == id) files) ≡ true → (list_any (λ file. file.id == id) files ≡ true → length (kept id files) + 1 ≡ length files)
        → length (cond (not b) (f ∷ kept id files) (kept id files)) + 1 ≡ length (f ∷ files)
    by_case true e has rest = let same : f.id ≡ id = eqb-true f.id id e in let all = all_kept id (f.id + 1) high files (omega (arith, same)) h.1 in omega (arith, all)
    by_case false e has rest = let r = rest has in omega (arith, r)

-- what one edit leaves: rising ids, and one file more or less if it was accepted
record Leaves (c d : Collection) (x : Entry) : Type 0 where
  rise : Rise 0 d.next_id d.files
  count : length d.files + count_of is_gone (x ∷ []) ≡ length c.files + count_of is_added (x ∷ [])

add-leaves : (b : Bool) (c : Collection) (name bytes : List ℕ) (x : Entry) → Rise 0 c.next_id c.files → x.reply ≡ add_reply b c bytes → Leaves c (cond b (with_file c name (tokens_of bytes)) c) x
add-leaves true c name bytes x h e = record {
  rise = rise_snoc 0 c.next_id c.files record { id = c.next_id; name = name; base = c.next; tokens = tokens_of bytes } refl h;
  count = subst (λ r. length (with_file c name (tokens_of bytes)).files + length (cond (is_gone r) (x ∷ []) []) ≡ length c.files + length (cond (is_added r) (x ∷ []) [])) (sym e)
      (let n = length-append c.files (record { id = c.next_id; name = name; base = c.next; tokens = tokens_of bytes } ∷ []) in omega (arith, n));
}
add-leaves false c name bytes x h e = record {
  rise = h;
  count = subst (λ r. length c.files + length (cond (is_gone r) (x ∷ []) []) ≡ length c.files + length (cond (is_added r) (x ∷ []) [])) (sym e) refl;
}

del-leaves : (b : Bool) (c : Collection) (id : ℕ) (x : Entry) → Rise 0 c.next_id c.files → has_file c id ≡ b → x.reply ≡ del_reply b id → Leaves c (cond b (without_file c id) c) x
del-leaves true c id x h has e = record {
  rise = rise_kept id 0 c.next_id c.files h;
  count = subst (λ r. length (without_file c id).files + length (cond (is_gone r) (x ∷ []) []) ≡ length c.files + length (cond (is_added r) (x ∷ []) [])) (sym e)
      (let n = one_gone id 0 c.next_id c.files h has in omega (arith, n));
}
del-leaves false c id x h has e = record {
  rise = h;
  count = subst (λ r. length c.files + length (cond (is_gone r) (x ∷ []) []) ≡ length c.files + length (cond (is_added r) (x ∷ []) [])) (sym e) refl;
}

one-leaves : (edit : Edit) (c : Collection) (x : Entry) → Rise 0 c.next_id c.files → x.reply ≡ reply_to edit c → Leaves c (after_edit edit c) x
one-leaves (Add name bytes) c x h e = add-leaves (fits c bytes) c name bytes x h e
one-leaves (Del id) c x h e = del-leaves (has_file c id) c id x h refl e

-- as many files are left as there were and were added, without those that were deleted
files-left : (c : Collection) (es : List Entry) → Rise 0 c.next_id c.files → IsHistory c es → length (end_of c es).files + count_of is_gone es ≡ length c.files + count_of is_added es
files-left c [] rise h = refl
files-left c (x ∷ es) rise h =
    let one = one-leaves x.edit c x rise h.1 in
    let rest = files-left (after_edit x.edit c) es one.rise h.2 in
    omega (arith, one.count, rest, count-cons is_gone x es, count-cons is_added x es)

-- a reply is of one of three kinds
one-kind : (r : EditReply) (x : Entry) → x.reply ≡ r → count_of is_added (x ∷ []) + count_of is_gone (x ∷ []) + count_of is_refused (x ∷ []) ≡ 1
one-kind (Added id first last) x e = subst (λ r. length (cond (is_added r) (x ∷ []) []) + length (cond (is_gone r) (x ∷ []) []) + length (cond (is_refused r) (x ∷ []) []) ≡ 1) (sym e) refl
one-kind (Spent next need) x e = subst (λ r. length (cond (is_added r) (x ∷ []) []) + length (cond (is_gone r) (x ∷ []) []) + length (cond (is_refused r) (x ∷ []) []) ≡ 1) (sym e) refl
one-kind Gone x e = subst (λ r. length (cond (is_added r) (x ∷ []) []) + length (cond (is_gone r) (x ∷ []) []) + length (cond (is_refused r) (x ∷ []) []) ≡ 1) (sym e) refl
one-kind (NotLive id) x e = subst (λ r. length (cond (is_added r) (x ∷ []) []) + length (cond (is_gone r) (x ∷ []) []) + length (cond (is_refused r) (x ∷ []) []) ≡ 1) (sym e) refl

kinds : (es : List Entry) → length es ≡ count_of is_added es + count_of is_gone es + count_of is_refused es
kinds [] = refl
kinds (x ∷ es) =
    let one = one-kind x.reply x refl in
    let rest = kinds es in
    omega (arith, one, rest, count-cons is_added x es, count-cons is_gone x es, count-cons is_refused x es)

pub is-closed : (e : EngineContent) (es : List Entry) → IsJournalOf e es → IsClosed (closed_content e es)
is-closed e es h =
    let s = h.stands in
    let c = empty_from e.version.first in
    let left = files-left c es (omega arith) h.history in
    let files : length (files_of e.version.slots) ≡ length (end_of c es).files = ap length s.files ∙ length-map (end_of c es).files entry_of in
    record {
      journal = h;
      files = omega (arith, files, left);
      added = omega (arith, s.next_id, added_ids c es h.history);
      gone = omega (arith, s.dels, gone_dels c es h.history);
      replies = kinds es;
    }
