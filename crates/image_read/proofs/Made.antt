-- The collection of some records and a table that has a term at each of their addresses.
use Rattle.std.proofs.Common.{◌≡◌, ℕ, zero, suc, ◌+◌, ◌-◌, ◌<◌, ◌≤◌, true, false, bytes_eq, List, [], ◌∷◌, ◌++◌, length, map, flat_map, Option, Some, None, inl, inr, refl, sym, ap, ◌∙◌, subst, arith}
use Rattle.std.specs.List.{AllByRecursion, range_with_len}
use Rattle.std.specs.Option.{option_map, option_to_list}
use Rattle.std.proofs.lemmas.Bool.{cases_Bool, or_left, or_right, lt-leb}
use Rattle.std.proofs.lemmas.Grind.{flat_map-append}
use Rattle.std.proofs.lemmas.Slice.Eq.{bytes_eq-Decides}
use Rattle.std.proofs.lemmas.Option.{same_Some}
use Rattle.gcl_model.specs.Texts.{Word}
use Rattle.gcl_model.specs.Collections.{Collection, File, AreFilesFrom, IsToken, file_start, file_end, with_boundaries, words_from, width_of}
use Rattle.address_space.specs.Runs.{FileEntry}
use Rattle.index_shard.specs.Tables.{TermEntry, has_address, term_at}
use Rattle.index_shard.proofs.ShardWords.{word, words_at}
use Rattle.live_version.specs.Contents.{is_of_file, is_of_files}
use Rattle.live_version.specs.StandsFor.{entry_of}
use Rattle.live_version.proofs.ChangeFiles.{is_of_file-inside, is_of_file-behind, is_of_file-bounds}
use Rattle.image_file.specs.declared.format.Format.{Format}
use Rattle.image_read.specs.declared.places.Role.TheVariants.{Start, Inner, End}
use Rattle.image_read.specs.Reading.{AreAllEntries, AreAllFiles, IsEntry, is_covered, role_in, role_of, role_of_file}
use Rattle.image_read.proofs.Candidates.{role_here, role_later, role-first, role-inner, role-last}
use Rattle.image_read.proofs.TermTracking.{member_all}

-- the token at an address, if the table has one
abbrev pub token_or : Option (List ℕ) → List ℕ
token_or None = []
token_or (Some t) = t

abbrev pub tokens_at : List TermEntry → ℕ → ℕ → List (List ℕ)
tokens_at table p zero = []
tokens_at table p (suc n) = token_or (term_at table p) ∷ tokens_at table (p + 1) n

abbrev pub made : List TermEntry → FileEntry → File
made table e = record { id = e.id; name = e.name; base = e.base; tokens = tokens_at table (e.base + 1) (e.len - 2) }

length-tokens_at : (table : List TermEntry) (p n : ℕ) → length (tokens_at table p n) ≡ n
length-tokens_at table p zero = refl
length-tokens_at table p (suc n) = let rest = length-tokens_at table (p + 1) n in omega arith

pub made-width : (table : List TermEntry) (e : FileEntry) → 2 ≤ e.len → width_of (made table e).tokens ≡ e.len
made-width table e two = let long = length-tokens_at table (e.base + 1) (e.len - 2) in omega arith

pub made-entry : (table : List TermEntry) (e : FileEntry) → 2 ≤ e.len → entry_of (made table e) ≡ e
made-entry table e two = ap (λ n. record { id = e.id; base = e.base; len = n; name = e.name }) (made-width table e two)

-- each word of the table is one that its address may hold, and each address of the files has one
pub record IsWordTable (table : List TermEntry) (files : List FileEntry) (at : ℕ) : Type 0 where
  pub role : (q : ℕ) (t : List ℕ) → at ≤ q → term_at table q ≡ Some t → role_in files q ≡ Some (role_of t)
  pub token : (q : ℕ) (t : List ℕ) → term_at table q ≡ Some t → role_of t ≡ Inner → IsToken t
  pub covered : (q : ℕ) → is_of_files files q ≡ true → (t : List ℕ) × (term_at table q ≡ Some t)

next_table : (table : List TermEntry) (e : FileEntry) (es : List FileEntry) (at : ℕ) → at ≤ e.base → IsWordTable table (e ∷ es) at → IsWordTable table es (e.base + e.len)
next_table table e es at le is = record {
  role = λ q t from has. sym (role_later q e es (is_of_file-behind q e from)) ∙ is.role q t (omega arith) has;
  token = is.token;
  covered = λ q of. is.covered q (or_right (is_of_file q e) (is_of_files es q) of);
}

-- the role of what is at an address of the first file
first_role : (table : List TermEntry) (e : FileEntry) (es : List FileEntry) (at q : ℕ) (t : List ℕ) → at ≤ e.base → IsWordTable table (e ∷ es) at → is_of_file q e ≡ true → term_at table q ≡ Some t → role_of t ≡ role_of_file q e
first_role table e es at q t le is of has =
    let lies = is_of_file-bounds q e of in
    let from : e.base ≤ q = lies.0 in
    same_Some (role_of t) (role_of_file q e) (sym (is.role q t (omega arith) has) ∙ role_here q e es of)

start_only : (t : List ℕ) → role_of t ≡ Start → t ≡ file_start
start_only t is = elim (cases_Bool (bytes_eq t file_start)) [
  | inl h ↦ (bytes_eq-Decides t file_start).0 h
  | inr h ↦ elim (cases_Bool (bytes_eq t file_end)) [
    | inl g ↦ let is = rw (h, g) at is in absurd cc
    | inr g ↦ let is = rw (h, g) at is in absurd cc
  ]
]

end_only : (t : List ℕ) → role_of t ≡ End → t ≡ file_end
end_only t is = elim (cases_Bool (bytes_eq t file_start)) [
  | inl h ↦ let is = rw h at is in absurd cc
  | inr h ↦ elim (cases_Bool (bytes_eq t file_end)) [
    | inl g ↦ (bytes_eq-Decides t file_end).0 g
    | inr g ↦ let is = rw (h, g) at is in absurd cc
  ]
]

-- a range in two parts
range-parts : (p m n : ℕ) → range_with_len p (m + n) ≡ range_with_len p m ++ range_with_len (p + m) n
range-parts p zero n = let a : zero + n ≡ n = omega arith in let b : p ≡ p + zero = omega arith in ap (range_with_len p) a ∙ ap (λ q. range_with_len q n) b
range-parts p (suc m) n =
    let a : suc m + n ≡ suc (m + n) = omega arith in
    let b : p + 1 + m ≡ p + suc m = omega arith in
    ap (range_with_len p) a ∙ ap (λ l. p ∷ l) (range-parts (p + 1) m n ∙ ap (λ q. range_with_len (p + 1) m ++ range_with_len q n) b)

abbrev pub words_between : List TermEntry → ℕ → ℕ → List Word
words_between table p n = flat_map (words_at table) (range_with_len p n)

words-parts : (table : List TermEntry) (p m n : ℕ) → words_between table p (m + n) ≡ words_between table p m ++ words_between table (p + m) n
words-parts table p m n = ap (flat_map (words_at table)) (range-parts p m n) ∙ flat_map-append (words_at table) (range_with_len p m) (range_with_len (p + m) n)

words-none : (table : List TermEntry) (p n : ℕ) → ((q : ℕ) → p ≤ q → q < p + n → term_at table q ≡ None) → words_between table p n ≡ []
words-none table p zero none = refl
words-none table p (suc n) none =
    let rest = words-none table (p + 1) n (λ q le lt. none q (omega arith) (omega arith)) in
    ap (λ o. option_to_list (option_map (word p) o) ++ words_between table (p + 1) n) (none p (omega arith) (omega arith)) ∙ rest

words-some : (table : List TermEntry) (p n : ℕ) → ((q : ℕ) → p ≤ q → q < p + n → (t : List ℕ) × (term_at table q ≡ Some t)) → words_between table p n ≡ words_from p (tokens_at table p n)
words-some table p zero some = refl
words-some table p (suc n) some =
    let here = some p (omega arith) (omega arith) in
    let rest = words-some table (p + 1) n (λ q le lt. some q (omega arith) (omega arith)) in
    ap (λ o. option_to_list (option_map (word p) o) ++ words_between table (p + 1) n) here.1
    ∙ ap (λ ws. word p here.0 ∷ ws) rest
    ∙ ap (λ o. word p (token_or o) ∷ words_from (p + 1) (tokens_at table (p + 1) n)) (sym here.1)

words_from-parts : (p : ℕ) (xs ys : List (List ℕ)) → words_from p (xs ++ ys) ≡ words_from p xs ++ words_from (p + length xs) ys
words_from-parts p [] ys = ap (λ q. words_from q ys) (let same : p ≡ p + 0 = omega arith in same)
words_from-parts p (x ∷ xs) ys =
    let next : p + 1 + length xs ≡ p + suc (length xs) = omega arith in
    ap (λ ws. word p x ∷ ws) (words_from-parts (p + 1) xs ys ∙ ap (λ q. words_from (p + 1) xs ++ words_from q ys) next)

one_word : (table : List TermEntry) (p : ℕ) (t : List ℕ) → term_at table p ≡ Some t → words_between table p 1 ≡ word p t ∷ []
one_word table p t has = ap (λ o. option_to_list (option_map (word p) o) ++ []) has

-- the words of the first file
file_words : (table : List TermEntry) (e : FileEntry) (es : List FileEntry) (at : ℕ) → at ≤ e.base → 2 ≤ e.len → IsWordTable table (e ∷ es) at →
    words_between table e.base e.len ≡ words_from e.base (with_boundaries (made table e).tokens)
file_words table e es at le two is =
    let n = e.len - 2 in
    let ts = tokens_at table (e.base + 1) n in
    let of : (q : ℕ) → e.base ≤ q → q < e.base + e.len → is_of_files (e ∷ es) q ≡ true = λ q from lt. or_left (is_of_file q e) (is_of_files es q) (is_of_file-inside q e from lt) in
    let first = is.covered e.base (of e.base (omega arith) (omega arith)) in
    let is_first : first.0 ≡ file_start = start_only first.0 (first_role table e es at e.base first.0 le is (is_of_file-inside e.base e (omega arith) (omega arith)) first.1 ∙ role-first e) in
    let q = e.base + 1 + n in
    let last = is.covered q (of q (omega arith) (omega arith)) in
    let is_last : last.0 ≡ file_end = end_only last.0 (first_role table e es at q last.0 le is (is_of_file-inside q e (omega arith) (omega arith)) last.1 ∙ role-last q e (λ same. omega arith) (omega arith)) in
    let whole : e.len ≡ 1 + (n + 1) = omega arith in
    let long = length-tokens_at table (e.base + 1) n in
    let next : e.base + 1 + n ≡ e.base + 1 + length ts = omega arith in
    ap (words_between table e.base) whole
    ∙ words-parts table e.base 1 (n + 1)
    ∙ ap (λ ws. ws ++ words_between table (e.base + 1) (n + 1)) (one_word table e.base first.0 first.1 ∙ ap (λ t. word e.base t ∷ []) is_first)
    ∙ ap (λ ws. word e.base file_start ∷ ws) (words-parts table (e.base + 1) n 1
    ∙ ap (λ ws. ws ++ words_between table q 1) (words-some table (e.base + 1) n (λ p from lt. is.covered p (of p (omega arith) (omega arith))))
    ∙ ap (λ ws. words_from (e.base + 1) ts ++ ws) (one_word table q last.0 last.1 ∙ ap (λ t. word q t ∷ []) is_last)
    ∙ ap (λ p. words_from (e.base + 1) ts ++ word p file_end ∷ []) next
    ∙ sym (words_from-parts (e.base + 1) ts (file_end ∷ [])))

-- before the next file there is no word
hole_none : (table : List TermEntry) (e : FileEntry) (es : List FileEntry) (next next_id id at q : ℕ) → IsWordTable table (e ∷ es) at → AreAllFiles next next_id id at (e ∷ es) → at ≤ q → q < e.base → term_at table q ≡ None
hole_none table e es next next_id id at q is all from lt = by_term (term_at table q) refl
  where
    before : (q : ℕ) (file : FileEntry) → q < file.base → is_of_file q file ≡ false
    before q file lt = rw (lt-leb file.base q lt) refl

    no_role : (id at : ℕ) (files : List FileEntry) → AreAllFiles next next_id id at files → q < at → role_in files q ≡ None
    no_role id at [] all lt = refl
    no_role id at (file ∷ files) all lt =
        let base : at ≤ file.base = all.0.base in
        role_later q file files (before q file (omega arith)) ∙ no_role (file.id + 1) (file.base + file.len) files all.1 (omega arith)

    by_term : (o : Option (List ℕ)) → term_at table q ≡ o → term_at table q ≡ None
    by_term None has = has
    by_term (Some t) has =
        let role = is.role q t from has in
        let none = role_later q e es (before q e lt) ∙ no_role (e.id + 1) (e.base + e.len) es all.1 (omega arith) in
        let no : Some (role_of t) ≡ None = sym role ∙ none in absurd cc

-- all files end before this address
abbrev pub EndsBy : List FileEntry → ℕ → Type 0
EndsBy files end = AllByRecursion (λ (e : FileEntry). e.base + e.len ≤ end) files

-- the words of all files, up to an end after them
pub files_words : (table : List TermEntry) (files : List FileEntry) (next next_id id at end : ℕ) → AreAllFiles next next_id id at files → IsWordTable table files at → at ≤ end → EndsBy files end →
    words_between table at (end - at) ≡ flat_map (λ (f : File). words_from f.base (with_boundaries f.tokens)) (map (made table) files)
files_words table [] next next_id id at end all is le ends = words-none table at (end - at) (λ q from lt. no_word q from)
  where
    no_word : (q : ℕ) → at ≤ q → term_at table q ≡ None
    no_word q from = by_term (term_at table q) refl
      where
        by_term : (o : Option (List ℕ)) → term_at table q ≡ o → term_at table q ≡ None
        by_term None has = has
        by_term (Some t) has = let no : None ≡ Some (role_of t) = is.role q t from has in absurd cc
files_words table (e ∷ es) next next_id id at end all is le ends =
    let base : at ≤ e.base = all.0.base in
    let two : 2 ≤ e.len = all.0.len in
    let last : e.base + e.len ≤ end = ends.0 in
    let cut : end - at ≡ (e.base - at) + (e.len + (end - (e.base + e.len))) = omega arith in
    let there : at + (e.base - at) ≡ e.base = omega arith in
    ap (words_between table at) cut
    ∙ words-parts table at (e.base - at) (e.len + (end - (e.base + e.len)))
    ∙ ap (λ ws. ws ++ words_between table (at + (e.base - at)) (e.len + (end - (e.base + e.len)))) (words-none table at (e.base - at) (λ q from lt. hole_none table e es next next_id id at q is all from (omega arith)))
    ∙ ap (λ p. words_between table p (e.len + (end - (e.base + e.len)))) there
    ∙ words-parts table e.base e.len (end - (e.base + e.len))
    ∙ ap (λ ws. ws ++ words_between table (e.base + e.len) (end - (e.base + e.len))) (file_words table e es at base two is)
    ∙ ap (λ ws. words_from e.base (with_boundaries (made table e).tokens) ++ ws)
    (files_words table es next next_id (e.id + 1) (e.base + e.len) end all.1 (next_table table e es at base is) last ends.1)

-- the tokens inside a file
inner_tokens : (table : List TermEntry) (e : FileEntry) (es : List FileEntry) (at p n : ℕ) → at ≤ e.base → IsWordTable table (e ∷ es) at → e.base < p → p + n + 1 ≤ e.base + e.len → AllByRecursion IsToken (tokens_at table p n)
inner_tokens table e es at p zero le is from until = tt
inner_tokens table e es at p (suc n) le is from until =
    let of = is_of_file-inside p e (omega arith) (omega arith) in
    let here = is.covered p (or_left (is_of_file p e) (is_of_files es p) of) in
    let role : role_of here.0 ≡ Inner = first_role table e es at p here.0 le is of here.1 ∙ role-inner p e (λ same. omega arith) (λ same. omega arith) in
    let token : IsToken here.0 = is.token p here.0 here.1 role in
    (subst (λ o. IsToken (token_or o)) (sym here.1) token, inner_tokens table e es at (p + 1) n le is (omega arith) (omega arith))

pub made_files : (table : List TermEntry) (c : Collection) (files : List FileEntry) (id at : ℕ) → AreAllFiles c.next c.next_id id at files → IsWordTable table files at → AreFilesFrom c at id (map (made table) files)
made_files table c [] id at all is = (all.0, all.1, all.2)
made_files table c (e ∷ es) id at all is =
    let base : at ≤ e.base = all.0.base in
    let two : 2 ≤ e.len = all.0.len in
    let width = made-width table e two in
    let rest = made_files table c es (e.id + 1) (e.base + e.len) all.1 (next_table table e es at base is) in (
      base,
      all.0.id,
      all.0.hole,
      all.0.named,
      inner_tokens table e es at (e.base + 1) (e.len - 2) base is (omega arith) (omega arith),
      subst (λ n. AreFilesFrom c (e.base + n) (e.id + 1) (map (made table) es)) (sym width) rest,
    )

pub made_entries : (table : List TermEntry) (next next_id id at : ℕ) (files : List FileEntry) → AreAllFiles next next_id id at files → map entry_of (map (made table) files) ≡ files
made_entries table next next_id id at [] all = refl
made_entries table next next_id id at (e ∷ es) all =
    ap (λ f. f ∷ map entry_of (map (made table) es)) (made-entry table e all.0.len) ∙ ap (λ fs. e ∷ fs) (made_entries table next next_id (e.id + 1) (e.base + e.len) es all.1)

-- a table that was read is one of such words

record IsFound (files : List FileEntry) (q : ℕ) (t : List ℕ) : Type 0 where
  pub role : role_in files q ≡ Some (role_of t)
  pub token : role_of t ≡ Inner → IsToken t

found : (format : Format) (first next : ℕ) (files : List FileEntry) (es : List TermEntry) (q : ℕ) (t : List ℕ) → AllByRecursion (IsEntry format first next files) es → term_at es q ≡ Some t → IsFound files q t
found format first next files [] q t each has = absurd cc
found format first next files (e ∷ es) q t each has = elim (cases_Bool (has_address e.addresses q)) [
  | inl h ↦
      let has = rw h at has in
      let same : e.term ≡ t = cc in
      subst (IsFound files q) same record { role = member_all (λ p. role_in files p ≡ Some (role_of e.term)) e.addresses q each.0.fills.roles h; token = each.0.token }
  | inr h ↦ found format first next files es q t each.1 (rw h at has)
]

covered_some : (es : List TermEntry) (q : ℕ) → is_covered es q ≡ true → (t : List ℕ) × (term_at es q ≡ Some t)
covered_some [] q is = absurd cc
covered_some (e ∷ es) q is = elim (cases_Bool (has_address e.addresses q)) [
  | inl h ↦ (e.term, rw h refl)
  | inr h ↦
      let rest : is_covered es q ≡ true = rw h at is in
      let later = covered_some es q rest in
      (later.0, rw h later.1)
]

pub word_table : (format : Format) (first next at : ℕ) (files : List FileEntry) (table : List TermEntry) → AreAllEntries format first next files table → IsWordTable table files at
word_table format first next at files table all = record {
  role = λ q t from has. (found format first next files table q t all.entries.each has).role;
  token = λ q t has. (found format first next files table q t all.entries.each has).token;
  covered = λ q of. covered_some table q (all.covered q of);
}
