-- The index of a text, made at 0 and placed elsewhere.
use Rattle.std.proofs.Common.{◌≡◌, ℕ, ◌+◌, ◌-◌, ◌≤◌, List, [], ◌∷◌, length, map, take, drop, refl, sym, ap, ◌∙◌, subst, arith}
use Rattle.std.specs.List.{AllByRecursion}
use Rattle.std.proofs.Math.Seq.{take-append_seam}
use Rattle.std.proofs.lemmas.List.{length-append}
use Rattle.gcl_model.specs.Collections.{IsToken, file_end, width_of, with_boundaries, words_from}
use Rattle.gcl_model.specs.Limits.{address_end}
use Rattle.gcl_model.specs.Slots.{SlotRange, slot_range}
use Rattle.gcl_model.specs.Texts.{Word}
use Rattle.index_shard.specs.Moved.{moved_shard, moved_words}
use Rattle.index_shard.specs.Tables.{ShardContent, words_of}
use Rattle.shard_build.specs.Ahead.{IsAhead, tokens_between}

tokens_from : (p : ℕ) (tokens : List (List ℕ)) → map (λ (w : Word). w.token) (words_from p tokens) ≡ tokens
tokens_from p [] = refl
tokens_from p (t ∷ ts) = ap (λ us. t ∷ us) (tokens_from (p + 1) ts)

words_long : (p : ℕ) (tokens : List (List ℕ)) → length (words_from p tokens) ≡ length tokens
words_long p [] = refl
words_long p (t ∷ ts) = let rest = words_long (p + 1) ts in omega (arith, rest)

-- the tokens of a file's words are those of the file
pub between_boundaries : (p : ℕ) (tokens : List (List ℕ)) → tokens_between (words_from p (with_boundaries tokens)) ≡ tokens
between_boundaries p tokens =
    let words = words_from p (with_boundaries tokens) in
    let long = words_long p (with_boundaries tokens) in
    let ended = length-append tokens (file_end ∷ []) in
    let size : length words - 2 ≡ length tokens = omega (arith, long, ended) in
    ap (λ n. take n (drop 1 (map (λ (w : Word). w.token) words))) size
    ∙ ap (λ ts. take (length tokens) (drop 1 ts)) (tokens_from p (with_boundaries tokens))
    ∙ take-append_seam tokens (file_end ∷ [])

-- a shard of a text at 0
pub is_ahead : (shard : ShardContent) (tokens : List (List ℕ)) → words_of shard ≡ words_from 0 (with_boundaries tokens) → shard.range ≡ slot_range 0 (0 + width_of tokens - 1) → width_of tokens ≤ address_end → AllByRecursion IsToken tokens →
    (tokens_between (words_of shard) ≡ tokens) × IsAhead shard
is_ahead shard tokens words range small are =
    let same : tokens_between (words_of shard) ≡ tokens = ap tokens_between words ∙ between_boundaries 0 tokens in
    let last : 0 + width_of tokens - 1 ≡ width_of tokens - 1 = omega arith in (
      same,
      record {
        words = words ∙ ap (λ ts. words_from 0 (with_boundaries ts)) (sym same);
        range = range ∙ ap (slot_range 0) last ∙ ap (λ ts. slot_range 0 (width_of ts - 1)) (sym same);
        small = subst (λ ts. width_of ts ≤ address_end) (sym same) small;
        tokens = subst (AllByRecursion IsToken) (sym same) are;
      },
    )

words_from_moved : (by p : ℕ) (tokens : List (List ℕ)) → moved_words by (words_from p tokens) ≡ words_from (p + by) tokens
words_from_moved by p [] = refl
words_from_moved by p (t ∷ ts) =
    let next : p + 1 + by ≡ p + by + 1 = omega arith in
    ap (λ ws. record { address = p + by; token = t } ∷ ws) (words_from_moved by (p + 1) ts ∙ ap (λ q. words_from q ts) next)

-- how wide it is
pub ahead_width : (shard : ShardContent) (tokens : List (List ℕ)) → IsAhead shard → tokens_between (words_of shard) ≡ tokens → shard.range.last + 1 ≡ width_of tokens
ahead_width shard tokens is same =
    let last : shard.range.last ≡ width_of (tokens_between (words_of shard)) - 1 = ap (λ (r : SlotRange). r.last) is.range in
    let size = ap width_of same in
    omega (arith, last, size)

-- and the same shard elsewhere
pub ahead_placed : (shard moved : ShardContent) (tokens : List (List ℕ)) (base : ℕ) → IsAhead shard → tokens_between (words_of shard) ≡ tokens → moved ≡ moved_shard base shard → words_of moved ≡ moved_words base (words_of shard) →
    (words_of moved ≡ words_from base (with_boundaries tokens)) × (moved.range ≡ slot_range base (base + width_of tokens - 1))
ahead_placed shard moved tokens base is same value words =
    let zero_first : 0 + base ≡ base = omega arith in
    let width = ahead_width shard tokens is same in
    let last : shard.range.last + base ≡ base + width_of tokens - 1 = omega (arith, width) in
    let first : shard.range.first + base ≡ base = let e = ap (λ (r : SlotRange). r.first) is.range in omega (arith, e) in (
      words
          ∙ ap (moved_words base) (is.words ∙ ap (λ ts. words_from 0 (with_boundaries ts)) same)
          ∙ words_from_moved base 0 (with_boundaries tokens)
          ∙ ap (λ p. words_from p (with_boundaries tokens)) zero_first,
      ap (λ (s : ShardContent). s.range) value ∙ ap (λ f. slot_range f (shard.range.last + base)) first ∙ ap (slot_range base) last,
    )
