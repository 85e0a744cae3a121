-- What a merge has made so far, and what is still to come, are together what there was.
use Rattle.std.proofs.Common.{◌≡◌, ℕ, ◌+◌, ◌<◌, true, false, List, [], ◌∷◌, ◌++◌, length, map, bytes_eq, inl, inr, refl, sym, ap, ◌∙◌, subst}
use Rattle.std.specs.List.{AllByRecursion, list_any}
use Rattle.std.specs.Option.{IfSome}
use Rattle.std.proofs.lemmas.Bool.{true≢false, cases_Bool}
use Rattle.std.proofs.lemmas.List.{append-nil}
use Rattle.std.proofs.lemmas.Slice.Eq.{bytes_eq-Decides}
use Rattle.gcl_model.specs.Slots.{SlotRange}
use Rattle.gcl_model.specs.Texts.{Word, places}
use Rattle.index_shard.specs.Tables.{RiseWithin, TermEntry, ComesBefore, AreApart, ArePostingsIn, last_entry, postings_of}
use Rattle.index_shard.proofs.TableLaws.{all_push, term_entry as entry}
use Rattle.slot_terms.specs.Parts.{PartContent, postings_left, IsPart, is_headed, past, IsNext}
use Rattle.shard_merge.specs.Merged.{AreWordsOf}
use Rattle.slot_terms.proofs.Passing.{AllPartsAfter, before_differs, past_after, after_none_left, past_others, past_tables, past_keeps_after, member_after}
use Rattle.index_shard.proofs.ShardWords.{rising_places, rising_apart}

-- the table has the first terms of what there was, and the parts have the rest
pub record IsMerging (start parts : List PartContent) (table : List TermEntry) : Type 0 where
  pub tables : AllByRecursion IsPart parts
  pub groups : AllByRecursion (λ e. e.addresses ≡ postings_left start e.term) table
  pub after : AllByRecursion (λ e. AllPartsAfter e.term parts) table
  pub together : (term : List ℕ) → postings_of table term ++ postings_left parts term ≡ postings_left start term

-- all entries come before the term
abbrev pub AllBefore : List ℕ → List TermEntry → Type 0
AllBefore term es = AllByRecursion (λ e. ComesBefore e.term term) es

-- what was made comes before a term that a part has next
pub all_before : (parts : List PartContent) (table : List TermEntry) (term : List ℕ) → list_any (λ part. is_headed part.left term) parts ≡ true →
    AllByRecursion (λ e. AllPartsAfter e.term parts) table → AllBefore term table
all_before parts [] term any all = tt
all_before parts (e ∷ es) term any all = (member_after parts term e.term any all.0, all_before parts es term any all.1)

-- a term that comes after all entries has no postings
pub before_missed : (es : List TermEntry) (term : List ℕ) → AllBefore term es → postings_of es term ≡ []
before_missed [] term all = refl
before_missed (e ∷ es) term all = rw (before_differs e.term term all.0) (before_missed es term all.1)

push_same : (es : List TermEntry) (e : TermEntry) → AllBefore e.term es → postings_of (es ++ e ∷ []) e.term ≡ e.addresses
push_same [] e all = rw ((bytes_eq-Decides e.term e.term).1 refl) refl
push_same (d ∷ ds) e all = rw (before_differs d.term e.term all.0) (push_same ds e all.1)

push_other : (es : List TermEntry) (e : TermEntry) (term : List ℕ) → bytes_eq e.term term ≡ false → postings_of (es ++ e ∷ []) term ≡ postings_of es term
push_other [] e term differs = rw differs refl
push_other (d ∷ ds) e term differs = elim (cases_Bool (bytes_eq d.term term)) [ inl h ↦ rw h refl | inr h ↦ rw h (push_other ds e term differs) ]

last_before : (es : List TermEntry) (term : List ℕ) → AllBefore term es → IfSome (last_entry es) (λ last. ComesBefore last.term term)
last_before [] term all = tt
last_before (e ∷ []) term all = all.0
last_before (e ∷ d ∷ ds) term all = last_before (d ∷ ds) term all.1

keep_after : (parts : List PartContent) (table : List TermEntry) (term : List ℕ) → AllByRecursion (λ e. AllPartsAfter e.term parts) table → AllByRecursion (λ e. AllPartsAfter e.term (map (past term) parts)) table
keep_after parts [] term all = tt
keep_after parts (e ∷ es) term all = (past_keeps_after parts term e.term all.0, keep_after parts es term all.1)

-- nothing of the term was made yet
whole_start : (start parts : List PartContent) (table : List TermEntry) (term addresses : List ℕ) → IsMerging start parts table → IsNext parts term addresses → addresses ≡ postings_left start term
whole_start start parts table term addresses m next =
    next.all ∙ ap (λ l. l ++ postings_left parts term) (sym (before_missed table term (all_before parts table term next.member m.after))) ∙ m.together term

-- a term with no live posting is left out
pub merging_skips : (start parts : List PartContent) (table : List TermEntry) (term : List ℕ) → IsMerging start parts table → IsNext parts term [] → IsMerging start (map (past term) parts) table
merging_skips start parts table term m next = record {
  tables = past_tables parts term m.tables;
  groups = m.groups;
  after = keep_after parts table term m.after;
  together = λ other. elim (cases_Bool (bytes_eq term other)) [
    | inl h ↦
        let none : postings_left (map (past term) parts) term ≡ postings_left parts term = after_none_left (map (past term) parts) term (past_after parts term m.tables next.least) ∙ next.all in
        subst (λ t. postings_of table t ++ postings_left (map (past term) parts) t ≡ postings_left start t) ((bytes_eq-Decides term other).0 h)
        (ap (λ l. postings_of table term ++ l) none ∙ m.together term)
    | inr h ↦ ap (λ l. postings_of table other ++ l) (past_others parts term other h) ∙ m.together other
  ];
}

-- a term with live postings goes after the others
pub merging_pushes : (start parts : List PartContent) (table : List TermEntry) (term addresses : List ℕ) → IsMerging start parts table → IsNext parts term addresses →
    IsMerging start (map (past term) parts) (table ++ entry term addresses ∷ [])
merging_pushes start parts table term addresses m next =
    let left = map (past term) parts in
    let before = all_before parts table term next.member m.after in
    let after = past_after parts term m.tables next.least in
    let made = whole_start start parts table term addresses m next in
    record {
      tables = past_tables parts term m.tables;
      groups = all_push (λ e. e.addresses ≡ postings_left start e.term) table (entry term addresses) m.groups made;
      after = all_push (λ e. AllPartsAfter e.term left) table (entry term addresses) (keep_after parts table term m.after) after;
      together = λ other. elim (cases_Bool (bytes_eq term other)) [
        | inl h ↦
            subst (λ t. postings_of (table ++ entry term addresses ∷ []) t ++ postings_left left t ≡ postings_left start t) ((bytes_eq-Decides term other).0 h)
            (ap (λ l. l ++ postings_left left term) (push_same table (entry term addresses) before)
            ∙ ap (λ l. addresses ++ l) (after_none_left left term after)
            ∙ append-nil addresses
            ∙ made)
        | inr h ↦
            ap (λ l. l ++ postings_left left other) (push_other table (entry term addresses) other h)
            ∙ ap (λ l. postings_of table other ++ l) (past_others parts term other h)
            ∙ m.together other
      ];
    }

-- what a maker asks of the next entry
pub record MayPush (range : SlotRange) (table : List TermEntry) (term addresses : List ℕ) : Type 0 where
  pub rising : IfSome (last_entry table) (λ last. ComesBefore last.term term)
  pub postings : ArePostingsIn range addresses
  pub apart : AllByRecursion (λ e. AreApart e.addresses addresses) table

all_apart : (range : SlotRange) (start : List PartContent) (words : List Word) (table : List TermEntry) (term : List ℕ) → AreWordsOf range start words →
    AllByRecursion (λ e. e.addresses ≡ postings_left start e.term) table → AllBefore term table → AllByRecursion (λ e. AreApart e.addresses (places words term)) table
all_apart range start words [] term of groups before = tt
all_apart range start words (e ∷ es) term of groups before =
    let differs : e.term ≡ term → ⊥ = λ same. true≢false (sym ((bytes_eq-Decides e.term term).1 same) ∙ before_differs e.term term before.0) in
    let mine : places words e.term ≡ e.addresses = sym (groups.0 ∙ of.places e.term) in
    (subst (λ l. AreApart l (places words term)) mine (rising_apart (range.last + 1) range.first words e.term term of.rising differs), all_apart range start words es term of groups.1 before.1)

pub may_push : (range : SlotRange) (start parts : List PartContent) (table : List TermEntry) (term addresses : List ℕ) → (words : List Word) × AreWordsOf range start words →
    IsMerging start parts table → IsNext parts term addresses → 0 < length addresses → MayPush range table term addresses
may_push range start parts table term addresses of m next some =
    let before = all_before parts table term next.member m.after in
    let mine : places of.0 term ≡ addresses = sym (whole_start start parts table term addresses m next ∙ of.1.places term) in
    record {
      rising = last_before table term before;
      postings = record { some = some; rising = subst (RiseWithin range.first (range.last + 1)) mine (rising_places (range.last + 1) range.first of.0 term of.1.rising) };
      apart = subst (λ l. AllByRecursion (λ e. AreApart e.addresses l) table) mine (all_apart range start of.0 table term of.1 m.groups before);
    }

-- the table has all, if nothing is left
pub merged_all : (start parts : List PartContent) (table : List TermEntry) → IsMerging start parts table → ((term : List ℕ) → postings_left parts term ≡ []) →
    (term : List ℕ) → postings_of table term ≡ postings_left start term
merged_all start parts table m none term = sym (append-nil (postings_of table term)) ∙ ap (λ l. postings_of table term ++ l) (sym (none term)) ∙ m.together term
