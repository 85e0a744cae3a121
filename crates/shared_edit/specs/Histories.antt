-- Histories of edits by several editors.
use Rattle.std.specs.Prelude.{◌≡◌, ℕ, ◌+◌, ◌-◌, Bool, true, false, nat_le, List, [], ◌∷◌, length, filter, if◌then◌else◌}
use Rattle.gcl_model.specs.Collections.{Collection, has_file, width_of, with_file, without_file}
use Rattle.gcl_model.specs.Limits.{address_end}
use Rattle.gcl_model.specs.Names.{is_name}
use Rattle.gcl_model.specs.Tokens.{tokens_of}
use Rattle.shared_edit.specs.declared.entry.Edit.{Edit}
use Rattle.shared_edit.specs.declared.entry.Edit.TheVariants.{Add, Del}
use Rattle.shared_edit.specs.declared.entry.EditReply.{EditReply}
use Rattle.shared_edit.specs.declared.entry.EditReply.TheVariants.{Added, Spent, Gone, NotLive}
use Rattle.shared_edit.specs.declared.entry.Entry.{Entry}

-- whether a file of these bytes fits between the collection's next address and the end of addresses
abbrev pub fits : Collection → List ℕ → Bool
fits c bytes = nat_le (c.next + width_of (tokens_of bytes)) address_end

-- the reply to an add
abbrev pub add_reply : Bool → Collection → List ℕ → EditReply
add_reply true c bytes = Added c.next_id c.next (c.next + width_of (tokens_of bytes) - 1)
add_reply false c bytes = Spent c.next (width_of (tokens_of bytes))

-- the reply to a deletion
abbrev pub del_reply : Bool → ℕ → EditReply
del_reply true id = Gone
del_reply false id = NotLive id

-- the reply to an edit of this collection
abbrev pub reply_to : Edit → Collection → EditReply
reply_to (Add name bytes) c = add_reply (fits c bytes) c bytes
reply_to (Del id) c = del_reply (has_file c id) id

-- this collection after the edit: unchanged if the edit is refused
abbrev pub after_edit : Edit → Collection → Collection
after_edit (Add name bytes) c = if fits c bytes then with_file c name (tokens_of bytes) else c
after_edit (Del id) c = if has_file c id then without_file c id else c

-- a name that is added is a valid name
abbrev pub IsEdit : Edit → Type 0
IsEdit (Add name bytes) = is_name name ≡ true
IsEdit (Del id) = Unit {0}

-- each reply is what its edit gets at that point
abbrev pub IsHistory : Collection → List Entry → Type 0
IsHistory c [] = Unit {0}
IsHistory c (e ∷ es) = IsEdit e.edit × (e.reply ≡ reply_to e.edit c) × IsHistory (after_edit e.edit c) es

-- the collection after all of these
abbrev pub end_of : Collection → List Entry → Collection
end_of c [] = c
end_of c (e ∷ es) = end_of (after_edit e.edit c) es

-- whether a file was added
abbrev pub is_added : EditReply → Bool
is_added (Added id first last) = true
is_added (Spent next need) = false
is_added Gone = false
is_added (NotLive id) = false

-- whether a file was deleted
abbrev pub is_gone : EditReply → Bool
is_gone (Added id first last) = false
is_gone (Spent next need) = false
is_gone Gone = true
is_gone (NotLive id) = false

-- whether the edit was refused
abbrev pub is_refused : EditReply → Bool
is_refused (Added id first last) = false
is_refused (Spent next need) = true
is_refused Gone = false
is_refused (NotLive id) = true

-- how many of the replies pass the test
abbrev pub count_of : (EditReply → Bool) → List Entry → ℕ
count_of test es = length (filter (λ e. test e.reply) es)
