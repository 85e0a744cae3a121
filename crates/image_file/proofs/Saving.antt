-- A collection that can be saved stays one.
use Rattle.std.proofs.Common.{◌≡◌, ℕ, ◌+◌, ◌^◌, ◌<◌, ◌≤◌, Bool, true, false, not, cond, eqb, List, [], ◌∷◌, ◌++◌, length, filter, flat_map, refl, sym, ap, ◌∙◌, subst, arith}
use Rattle.std.specs.List.{AllByRecursion}
use Rattle.std.proofs.lemmas.Grind.{flat_map-append}
use Rattle.std.proofs.lemmas.List.{append-nil}
use Rattle.gcl_model.specs.Texts.{Word}
use Rattle.gcl_model.specs.Limits.{address_end}
use Rattle.gcl_model.specs.Collections.{Collection, File, IsToken, width_of, empty_from, file_end, with_boundaries, with_file, without_file, words_from, words_of}
use Rattle.gcl_model.proofs.Lists.{all_append, all_left, all_right}
use Rattle.address_space.proofs.CollectionLemmas.{adding_keeps_soundness, deleting_keeps_soundness, start_is_sound}
use Rattle.live_version.specs.Changes.{HasTokens, empty_version}
use Rattle.gcl_model.specs.Names.{is_name}
use Rattle.address_space.specs.Runs.{FileEntry}
use Rattle.index_shard.specs.Tables.{ShardContent}
use Rattle.live_version.specs.Contents.{VersionContent}
use Rattle.live_version.specs.StandsFor.{AddsFile, DeletesFile}
use Rattle.image_file.specs.Images.{CanBeSaved, HasShortTokens}

pub start_saves : (first : ℕ) → first ≤ address_end → CanBeSaved (empty_version first)
start_saves first le = (
  empty_from first,
  record {
    stands = record { first = refl; next = refl; next_id = refl; dels = refl; files = refl; words = refl };
    sound = start_is_sound first le;
    short = tt;
  },
)

abbrev file_words : File → List Word
file_words file = words_from file.base (with_boundaries file.tokens)

tokens_short : (p : ℕ) (tokens : List (List ℕ)) → AllByRecursion (λ (t : List ℕ). length t < 2 ^ 56) tokens → AllByRecursion (λ (w : Word). length w.token < 2 ^ 56) (words_from p (tokens ++ file_end ∷ []))
tokens_short p [] all = (omega arith, tt)
tokens_short p (t ∷ ts) all = (all.0, tokens_short (p + 1) ts all.1)

pub added_short : (c : Collection) (name : List ℕ) (tokens : List (List ℕ)) → HasShortTokens c → AllByRecursion (λ (t : List ℕ). length t < 2 ^ 56) tokens → HasShortTokens (with_file c name tokens)
added_short c name tokens short all =
    let file : File = record { id = c.next_id; name = name; base = c.next; tokens = tokens } in
    let words : words_of (with_file c name tokens) ≡ words_of c ++ file_words file = flat_map-append file_words c.files (file ∷ []) ∙ ap (λ ws. words_of c ++ ws) (append-nil (file_words file)) in
    subst (AllByRecursion (λ (w : Word). length w.token < 2 ^ 56)) (sym words)
    (all_append (λ (w : Word). length w.token < 2 ^ 56) (words_of c) (file_words file) short (omega arith, tokens_short (c.next + 1) tokens all))

files_short : (id : ℕ) (files : List File) → AllByRecursion (λ (w : Word). length w.token < 2 ^ 56) (flat_map file_words files)
    → AllByRecursion (λ (w : Word). length w.token < 2 ^ 56) (flat_map file_words (filter (λ file. not (eqb file.id id)) files))
files_short id [] all = tt
files_short id (file ∷ files) all = by_test (eqb file.id id) (files_short id files (all_right (λ (w : Word). length w.token < 2 ^ 56) (file_words file) (flat_map file_words files) all))
  where
    by_test : (t : Bool) → AllByRecursion (λ (w : Word). length w.token < 2 ^ 56) (flat_map file_words (filter (λ other. not (eqb other.id id)) files))
        → AllByRecursion (λ (w : Word). length w.token < 2 ^ 56) (flat_map file_words (cond (not t) (file ∷ filter (λ other. not (eqb other.id id)) files) (filter (λ other. not (eqb other.id id)) files)))
    by_test true rest = rest
    by_test false rest =
        all_append (λ (w : Word). length w.token < 2 ^ 56) (file_words file) (flat_map file_words (filter (λ other. not (eqb other.id id)) files))
        (all_left (λ (w : Word). length w.token < 2 ^ 56) (file_words file) (flat_map file_words files) all) rest

pub deleted_saves : (v w : VersionContent) (id : ℕ) → CanBeSaved v → DeletesFile v id w → CanBeSaved w
deleted_saves v w id can deletes = (
  without_file can.0 id,
  record {
    stands = deletes can.0 can.1.stands;
    sound = deleting_keeps_soundness can.0 id can.1.sound;
    short = files_short id can.0.files can.1.short;
  },
)

-- with one file more
pub added_saves : (v w : VersionContent) (file : FileEntry) (shard : ShardContent) (tokens : List (List ℕ)) → CanBeSaved v → AddsFile v file shard w → HasTokens file shard tokens → v.next + width_of tokens ≤ address_end →
    is_name file.name ≡ true → AllByRecursion IsToken tokens → AllByRecursion (λ (t : List ℕ). length t < 2 ^ 56) tokens → CanBeSaved w
added_saves v w file shard tokens can adds has fits named are short = (
  with_file can.0 file.name tokens,
  record {
    stands = adds can.0 tokens can.1.stands has;
    sound = adding_keeps_soundness can.0 file.name tokens can.1.sound record { fits = subst (λ p. p + width_of tokens ≤ address_end) can.1.stands.next fits; named = named; are_tokens = are };
    short = added_short can.0 file.name tokens can.1.short short;
  },
)
