-- What stays true of a book when an entry was filed.
use Rattle.std.proofs.Common.{◌≡◌, ℕ, ◌+◌, ◌-◌, ◌<◌, ◌≤◌, Bool, true, false, List, [], ◌∷◌, ◌++◌, length, filter, take, Option, None, IsSome, cond, refl, sym, ap, ◌∙◌, subst, arith, length-append}
use Rattle.std.proofs.lemmas.Bool.{le-leb, lt-leb}
use Rattle.std.proofs.lemmas.List.{length-map, length-take}
use Rattle.gcl_model.specs.Collections.{Collection, empty_from, has_file, width_of, with_file, without_file}
use Rattle.gcl_model.specs.Limits.{address_end}
use Rattle.gcl_model.specs.Names.{is_name}
use Rattle.gcl_model.specs.Tokens.{tokens_of}
use Rattle.address_space.specs.Runs.{FileEntry}
use Rattle.live_version.specs.Changes.{file_with_id}
use Rattle.live_version.specs.Contents.{SlotContent, VersionContent, files_of}
use Rattle.live_version.specs.StandsFor.{StandsFor}
use Rattle.live_version.proofs.PartLaws.{has_files}
use Rattle.collection.specs.Changes.{IsAdd, DeletesFileFrom, EndsInOneSlot}
use Rattle.collection.specs.Engines.{EngineContent}
use Rattle.collection.specs.declared.engine.Added.{Added}
use Rattle.shared_edit.specs.declared.entry.Edit.{Edit}
use Rattle.shared_edit.specs.declared.entry.Edit.TheVariants.{Add, Del}
use Rattle.shared_edit.specs.declared.entry.EditReply.{EditReply}
use Rattle.shared_edit.specs.declared.entry.EditReply.TheVariants.{Added as WasAdded, Spent, Gone, NotLive}
use Rattle.shared_edit.specs.declared.entry.Entry.{Entry}
use Rattle.shared_edit.specs.Histories.{IsHistory, IsEdit, end_of, reply_to, after_edit, add_reply, del_reply, fits, count_of, is_added, is_gone, is_refused}
use Rattle.shared_edit.specs.Books.{BookContent, IsBook, IsJournalOf, book_content, added_entry, spent_entry, gone_entry, not_live_entry}
use Rattle.shared_edit.proofs.JournalLemmas.{history-snoc, end-snoc, count-snoc}

-- One entry more, where the engine then stands for what that edit leaves
pub journal-snoc : (e w : EngineContent) (es : List Entry) (x : Entry) → IsJournalOf e es → IsEdit x.edit → w.version.first ≡ e.version.first
    → x.reply ≡ reply_to x.edit (end_of (empty_from e.version.first) es) → StandsFor w.version (after_edit x.edit (end_of (empty_from e.version.first) es)) → IsJournalOf w (es ++ x ∷ [])
journal-snoc e w es x h edit first reply stands =
    subst (λ f. IsJournalOf w (es ++ x ∷ []) → IsJournalOf w (es ++ x ∷ [])) first (λ k. k)
    record {
      history = subst (λ f. IsHistory (empty_from f) (es ++ x ∷ [])) (sym first) (history-snoc (empty_from e.version.first) es x h.history edit reply);
      stands = subst (λ f. StandsFor w.version (end_of (empty_from f) (es ++ x ∷ []))) (sym first) (subst (StandsFor w.version) (sym (end-snoc (empty_from e.version.first) es x)) stands);
    }

add-reply : (b : Bool) (c : Collection) (bytes : List ℕ) (id first last : ℕ) → b ≡ true → id ≡ c.next_id → first ≡ c.next → last ≡ c.next + width_of (tokens_of bytes) - 1 → WasAdded id first last ≡ add_reply b c bytes
add-reply true c bytes id first last e i f l = cc (i, f, l)
add-reply false c bytes id first last e i f l = absurd (cc e)

spent-reply : (b : Bool) (c : Collection) (bytes : List ℕ) (next : ℕ) → b ≡ false → next ≡ c.next → Spent next (width_of (tokens_of bytes)) ≡ add_reply b c bytes
spent-reply true c bytes next e n = absurd (cc e)
spent-reply false c bytes next e n = cc n

taken : (b : Bool) (c d : Collection) → b ≡ true → d ≡ cond b d c
taken true c d e = refl
taken false c d e = absurd (cc e)

kept : (b : Bool) (c d : Collection) → b ≡ false → c ≡ cond b d c
kept true c d e = absurd (cc e)
kept false c d e = refl

pub journal-added : (e w : EngineContent) (es : List Entry) (n : ℕ) (name bytes : List ℕ) (added : Added) → IsJournalOf e es → is_name name ≡ true → IsAdd e w name (tokens_of bytes) added
    → IsJournalOf w (es ++ added_entry n name bytes added ∷ [])
journal-added e w es n name bytes added h named is =
    let c = end_of (empty_from e.version.first) es in
    let s = h.stands in
    let tokens = tokens_of bytes in
    let to = is.change.stands c s in
    let t : StandsFor w.version (with_file c name tokens) = to.1 in
    let fit : fits c bytes ≡ true = le-leb (c.next + width_of tokens) address_end to.0.fits in
    let next : e.version.next ≡ c.next = s.next in
    let last : added.last + 1 ≡ e.version.next + width_of tokens = is.last in
    journal-snoc e w es (added_entry n name bytes added) h named (t.first ∙ sym s.first)
    (add-reply (fits c bytes) c bytes added.id.0 added.first added.last fit (is.id ∙ s.next_id) (is.first ∙ next) (omega arith))
    (subst (StandsFor w.version) (taken (fits c bytes) c (with_file c name tokens) fit) t)

pub journal-spent : (e : EngineContent) (es : List Entry) (n : ℕ) (name bytes : List ℕ) → IsJournalOf e es → is_name name ≡ true → address_end < e.version.next + width_of (tokens_of bytes)
    → IsJournalOf e (es ++ spent_entry n name bytes e.version.next ∷ [])
journal-spent e es n name bytes h named past =
    let c = end_of (empty_from e.version.first) es in
    let s = h.stands in
    let tokens = tokens_of bytes in
    let next : e.version.next ≡ c.next = s.next in
    let fit : fits c bytes ≡ false = lt-leb (c.next + width_of tokens) address_end (omega arith) in
    journal-snoc e e es (spent_entry n name bytes e.version.next) h named refl
    (spent-reply (fits c bytes) c bytes e.version.next fit next)
    (subst (StandsFor e.version) (kept (fits c bytes) c (with_file c name tokens) fit) s)

-- the last slots made one, there is at most one slot more
one_more : (before after : List SlotContent) → EndsInOneSlot before after → length after ≤ length before + 1
one_more before after h =
    let n : length after ≡ length (take (length after - 1) before) + 1 = ap length h.slots ∙ length-append (take (length after - 1) before) (h.slot ∷ []) in
    omega (arith, n, length-take (length after - 1) before)

pub book-added : (b : BookContent) (w : EngineContent) (n : ℕ) (name bytes : List ℕ) (added : Added) → IsBook b → is_name name ≡ true → IsAdd b.engine w name (tokens_of bytes) added
    → IsBook (book_content w (b.journal ++ added_entry n name bytes added ∷ []) (b.added + 1) b.gone b.refused)
book-added b w n name bytes added h named is =
    let x = added_entry n name bytes added in
    let c = end_of (empty_from b.engine.version.first) b.journal in
    let s = h.journal.stands in
    let t : StandsFor w.version (with_file c name (tokens_of bytes)) = (is.change.stands c s).1 in
    let ids : b.engine.version.next_id ≡ c.next_id = s.next_id in
    let ids' : w.version.next_id ≡ c.next_id + 1 = t.next_id in
    let dels : b.engine.version.dels ≡ c.dels = s.dels in
    let dels' : w.version.dels ≡ c.dels = t.dels in
    let number : w.version.number ≡ b.engine.version.number + 1 = is.change.number in
    let slots = one_more b.engine.version.slots w.version.slots is.change.slots in
    let bound = h.numbers in
    record {
      journal = journal-added b.engine w b.journal n name bytes added h.journal named is;
      added = omega (arith, h.added, count-snoc is_added b.journal x true refl);
      gone = omega (arith, h.gone, count-snoc is_gone b.journal x false refl);
      refused = omega (arith, h.refused, count-snoc is_refused b.journal x false refl);
      numbers = omega arith;
    }

pub book-spent : (b : BookContent) (n : ℕ) (name bytes : List ℕ) → IsBook b → is_name name ≡ true → address_end < b.engine.version.next + width_of (tokens_of bytes)
    → IsBook (book_content b.engine (b.journal ++ spent_entry n name bytes b.engine.version.next ∷ []) b.added b.gone (b.refused + 1))
book-spent b n name bytes h named past =
    let x = spent_entry n name bytes b.engine.version.next in
    record {
      journal = journal-spent b.engine b.journal n name bytes h.journal named past;
      added = omega (arith, h.added, count-snoc is_added b.journal x false refl);
      gone = omega (arith, h.gone, count-snoc is_gone b.journal x false refl);
      refused = omega (arith, h.refused, count-snoc is_refused b.journal x true refl);
      numbers = h.numbers;
    }

gone-reply : (b : Bool) (id : ℕ) → b ≡ true → Gone ≡ del_reply b id
gone-reply true id e = refl
gone-reply false id e = absurd (cc e)

not_live-reply : (b : Bool) (id : ℕ) → b ≡ false → NotLive id ≡ del_reply b id
not_live-reply true id e = absurd (cc e)
not_live-reply false id e = refl

pub journal-gone : (e w : EngineContent) (es : List Entry) (n id : ℕ) → IsJournalOf e es → DeletesFileFrom e.version w.version id → IsJournalOf w (es ++ gone_entry n id ∷ [])
journal-gone e w es n id h is =
    let c = end_of (empty_from e.version.first) es in
    let s = h.stands in
    let to = is.stands c s in
    let t : StandsFor w.version (without_file c id) = to.1 in
    journal-snoc e w es (gone_entry n id) h tt (t.first ∙ sym s.first) (gone-reply (has_file c id) id to.0) (subst (StandsFor w.version) (taken (has_file c id) c (without_file c id) to.0) t)

-- no surviving file of the version, none of the collection
not_had : (v : VersionContent) (c : Collection) (id : ℕ) → StandsFor v c → file_with_id id (files_of v.slots) ≡ None → has_file c id ≡ false
not_had v c id s none = by_case (has_file c id) (has_files v c id s).1
  where
    by_case : (b : Bool) → (b ≡ true → IsSome (file_with_id id (files_of v.slots))) → b ≡ false
    by_case true some = absurd (cc (subst (λ (o : Option FileEntry). IsSome o) none (some refl)))
    by_case false some = refl

pub journal-not_live : (e : EngineContent) (es : List Entry) (n id : ℕ) → IsJournalOf e es → file_with_id id (files_of e.version.slots) ≡ None → IsJournalOf e (es ++ not_live_entry n id ∷ [])
journal-not_live e es n id h none =
    let c = end_of (empty_from e.version.first) es in
    let s = h.stands in
    let not = not_had e.version c id s none in
    journal-snoc e e es (not_live_entry n id) h tt refl (not_live-reply (has_file c id) id not) (subst (StandsFor e.version) (kept (has_file c id) c (without_file c id) not) s)

pub book-gone : (b : BookContent) (w : EngineContent) (n id : ℕ) → IsBook b → DeletesFileFrom b.engine.version w.version id
    → IsBook (book_content w (b.journal ++ gone_entry n id ∷ []) b.added (b.gone + 1) b.refused)
book-gone b w n id h is =
    let x = gone_entry n id in
    let c = end_of (empty_from b.engine.version.first) b.journal in
    let s = h.journal.stands in
    let t : StandsFor w.version (without_file c id) = (is.stands c s).1 in
    let ids : b.engine.version.next_id ≡ c.next_id = s.next_id in
    let ids' : w.version.next_id ≡ c.next_id = t.next_id in
    let dels : b.engine.version.dels ≡ c.dels = s.dels in
    let dels' : w.version.dels ≡ c.dels + 1 = t.dels in
    let number : w.version.number ≡ b.engine.version.number + 1 = is.number in
    let slots : length w.version.slots ≡ length b.engine.version.slots = sym (length-map w.version.slots (λ (slot : SlotContent). slot.range)) ∙ ap length is.ranges ∙ length-map b.engine.version.slots (λ (slot : SlotContent). slot.range) in
    let bound = h.numbers in
    record {
      journal = journal-gone b.engine w b.journal n id h.journal is;
      added = omega (arith, h.added, count-snoc is_added b.journal x false refl);
      gone = omega (arith, h.gone, count-snoc is_gone b.journal x true refl);
      refused = omega (arith, h.refused, count-snoc is_refused b.journal x false refl);
      numbers = omega arith;
    }

pub book-not_live : (b : BookContent) (n id : ℕ) → IsBook b → file_with_id id (files_of b.engine.version.slots) ≡ None
    → IsBook (book_content b.engine (b.journal ++ not_live_entry n id ∷ []) b.added b.gone (b.refused + 1))
book-not_live b n id h none =
    let x = not_live_entry n id in
    record {
      journal = journal-not_live b.engine b.journal n id h.journal none;
      added = omega (arith, h.added, count-snoc is_added b.journal x false refl);
      gone = omega (arith, h.gone, count-snoc is_gone b.journal x false refl);
      refused = omega (arith, h.refused, count-snoc is_refused b.journal x true refl);
      numbers = h.numbers;
    }

-- the same book, by its parts
pub book-same : (e e' : EngineContent) (es es' : List Entry) (a a' g g' s s' : ℕ) → e' ≡ e → es' ≡ es → a' ≡ a → g' ≡ g → s' ≡ s → IsBook (book_content e es a g s) → IsBook (book_content e' es' a' g' s')
book-same e e' es es' a a' g g' s s' pe pes pa pg ps h = subst IsBook (λ i. book_content (sym pe i) (sym pes i) (sym pa i) (sym pg i) (sym ps i)) h

add-ids : (b : Bool) (c d : Collection) (bytes : List ℕ) (x : Entry) → x.reply ≡ add_reply b c bytes → d.next_id ≡ c.next_id + 1 → (cond b d c).next_id ≡ c.next_id + count_of is_added (x ∷ [])
add-ids true c d bytes x e n = subst (λ r. d.next_id ≡ c.next_id + length (cond (is_added r) (x ∷ []) [])) (sym e) n
add-ids false c d bytes x e n = subst (λ r. c.next_id ≡ c.next_id + length (cond (is_added r) (x ∷ []) [])) (sym e) (omega arith)

add-dels : (b : Bool) (c d : Collection) (bytes : List ℕ) (x : Entry) → x.reply ≡ add_reply b c bytes → d.dels ≡ c.dels → (cond b d c).dels ≡ c.dels + count_of is_gone (x ∷ [])
add-dels true c d bytes x e n = subst (λ r. d.dels ≡ c.dels + length (cond (is_gone r) (x ∷ []) [])) (sym e) (omega arith)
add-dels false c d bytes x e n = subst (λ r. c.dels ≡ c.dels + length (cond (is_gone r) (x ∷ []) [])) (sym e) (omega arith)

del-ids : (b : Bool) (c d : Collection) (id : ℕ) (x : Entry) → x.reply ≡ del_reply b id → d.next_id ≡ c.next_id → (cond b d c).next_id ≡ c.next_id + count_of is_added (x ∷ [])
del-ids true c d id x e n = subst (λ r. d.next_id ≡ c.next_id + length (cond (is_added r) (x ∷ []) [])) (sym e) (omega arith)
del-ids false c d id x e n = subst (λ r. c.next_id ≡ c.next_id + length (cond (is_added r) (x ∷ []) [])) (sym e) (omega arith)

del-dels : (b : Bool) (c d : Collection) (id : ℕ) (x : Entry) → x.reply ≡ del_reply b id → d.dels ≡ c.dels + 1 → (cond b d c).dels ≡ c.dels + count_of is_gone (x ∷ [])
del-dels true c d id x e n = subst (λ r. d.dels ≡ c.dels + length (cond (is_gone r) (x ∷ []) [])) (sym e) n
del-dels false c d id x e n = subst (λ r. c.dels ≡ c.dels + length (cond (is_gone r) (x ∷ []) [])) (sym e) (omega arith)

-- what one edit makes of the numbers
one_ids : (edit : Edit) (c : Collection) (x : Entry) → x.reply ≡ reply_to edit c → (after_edit edit c).next_id ≡ c.next_id + count_of is_added (x ∷ [])
one_ids (Add name bytes) c x e = add-ids (fits c bytes) c (with_file c name (tokens_of bytes)) bytes x e refl
one_ids (Del id) c x e = del-ids (has_file c id) c (without_file c id) id x e refl

one_dels : (edit : Edit) (c : Collection) (x : Entry) → x.reply ≡ reply_to edit c → (after_edit edit c).dels ≡ c.dels + count_of is_gone (x ∷ [])
one_dels (Add name bytes) c x e = add-dels (fits c bytes) c (with_file c name (tokens_of bytes)) bytes x e refl
one_dels (Del id) c x e = del-dels (has_file c id) c (without_file c id) id x e refl

pub count-cons : (test : EditReply → Bool) (x : Entry) (es : List Entry) → count_of test (x ∷ es) ≡ count_of test (x ∷ []) + count_of test es
count-cons test x es = by_case (test x.reply)
  where
    by_case : (k : Bool) → length (cond k (x ∷ filter (λ f. test f.reply) es) (filter (λ f. test f.reply) es)) ≡ length (cond k (x ∷ []) []) + count_of test es
    by_case true = omega arith
    by_case false = omega arith

-- for each accepted add one id was given
pub added_ids : (c : Collection) (es : List Entry) → IsHistory c es → (end_of c es).next_id ≡ c.next_id + count_of is_added es
added_ids c [] h = omega arith
added_ids c (x ∷ es) h = omega (arith, added_ids (after_edit x.edit c) es h.2, one_ids x.edit c x h.1, count-cons is_added x es)

-- and for each accepted deletion one file was deleted
pub gone_dels : (c : Collection) (es : List Entry) → IsHistory c es → (end_of c es).dels ≡ c.dels + count_of is_gone es
gone_dels c [] h = omega arith
gone_dels c (x ∷ es) h = omega (arith, gone_dels (after_edit x.edit c) es h.2, one_dels x.edit c x h.1, count-cons is_gone x es)

-- the totals are numbers of the engine's version
pub total_ids : (b : BookContent) → IsBook b → b.engine.version.next_id ≡ b.added
total_ids b h = omega (arith, h.journal.stands.next_id, added_ids (empty_from b.engine.version.first) b.journal h.journal.history, h.added)

pub total_dels : (b : BookContent) → IsBook b → b.engine.version.dels ≡ b.gone
total_dels b h = omega (arith, h.journal.stands.dels, gone_dels (empty_from b.engine.version.first) b.journal h.journal.history, h.gone)
