-- Histories of edits, computed on small examples.
use Rattle.std.proofs.Common.{◌≡◌, [], ◌∷◌, length, codes, refl}
use Rattle.gcl_model.specs.Collections.{empty_from}
use Rattle.shared_edit.specs.declared.entry.Edit.TheVariants.{Add, Del}
use Rattle.shared_edit.specs.declared.entry.EditReply.TheVariants.{Added, Gone, NotLive}
use Rattle.shared_edit.specs.declared.entry.Entry.{Entry}
use Rattle.shared_edit.specs.Histories.{count_of, end_of, is_refused, reply_to}

-- editor 1 adds a file of one word, editor 0 deletes it, and editor 1 comes too late
abbrev added : Entry
added = record { editor = 1; edit = Add (codes "a") (codes "be"); reply = Added 0 0 2 }

abbrev deleted : Entry
deleted = record { editor = 0; edit = Del 0; reply = Gone }

abbrev too_late : Entry
too_late = record { editor = 1; edit = Del 0; reply = NotLive 0 }

reply-added : reply_to added.edit (empty_from 0) ≡ added.reply
reply-added = refl

reply-deleted : reply_to deleted.edit (end_of (empty_from 0) (added ∷ [])) ≡ deleted.reply
reply-deleted = refl

reply-too_late : reply_to too_late.edit (end_of (empty_from 0) (added ∷ deleted ∷ [])) ≡ too_late.reply
reply-too_late = refl

files-left : length (end_of (empty_from 0) (added ∷ deleted ∷ too_late ∷ [])).files ≡ 0
files-left = refl

next-address : (end_of (empty_from 0) (added ∷ deleted ∷ too_late ∷ [])).next ≡ 3
next-address = refl

counts-refused : count_of is_refused (added ∷ deleted ∷ too_late ∷ []) ≡ 1
counts-refused = refl
