-- Made files: their names and contents.
use Rattle.std.specs.Prelude.{◌≡◌, ℕ, zero, suc, ◌+◌, ◌*◌, ◌%◌, ◌^◌, nat_lt, List, [], ◌∷◌, ◌++◌, codes, decimal, bytes_eq, find, unwrap_or, Option, Some, if◌then◌else◌}
use Rattle.std.specs.List.{join_with_byte, range_with_len}
use Rattle.std.specs.Option.{option_map, option_or}
use Rattle.outside.specs.Contents.{Contents, content_of}
use Rattle.made_corpus.specs.Draws.{next_state, draw}

-- a text whose parts were drawn, and the state after it
pub record Drawn : Type 0 where
  pub text : List ℕ
  pub state : ℕ

-- the text was appended, and this is the state after it
pub record HasDrawn (drawn : Drawn) (old new : List ℕ) (after : ℕ) : Type 0 where
  pub text : new ≡ old ++ drawn.text
  pub state : after ≡ drawn.state

-- a word: `w` and the product of a number below 50 and one below 20
abbrev pub word_from : ℕ → Drawn
word_from state = record {
  text = codes "w" ++ decimal (draw state 50 * draw (next_state state) 20);
  state = next_state (next_state state);
}

-- by a number below 100 what opens, what closes, or a word
abbrev pub item_by : ℕ → ℕ → Drawn
item_by kind state = if nat_lt kind 10 then record { text = codes "<s>"; state = state }
    else (if nat_lt kind 20 then record { text = codes "</s>"; state = state } else word_from state)

-- the next item: of a hundred ten open a part, ten close one, and the others are words
abbrev pub item_from : ℕ → Drawn
item_from state = item_by (draw state 100) (next_state state)

-- the texts of the next n items
abbrev pub items_from : ℕ → ℕ → List (List ℕ)
items_from zero state = []
items_from (suc n) state = (item_from state).text ∷ items_from n (item_from state).state

-- 20 to 219 items, with a space between each two
abbrev pub content_from : ℕ → List ℕ
content_from state = join_with_byte 32 (items_from (20 + draw state 200) (next_state state))

-- the content of file i
abbrev pub content : ℕ → ℕ → List ℕ
content start i = content_from ((start + i) % 2 ^ 64)

-- the name of file i: of file 7 it is `m7`
abbrev pub name_of : ℕ → List ℕ
name_of i = codes "m" ++ decimal i

-- which of `count` files has the name: `m07` is the name of none
abbrev pub file_named : ℕ → List ℕ → Option ℕ
file_named count name = find (λ i. bytes_eq name (name_of i)) (range_with_len 0 count)

-- what is under each name: a made file, or no bytes
abbrev pub made_files : ℕ → ℕ → Contents
made_files start count name = Some (unwrap_or (option_map (content start) (file_named count name)) [])

-- the same once these were kept: of two entries of one name the first counts, and each other name has what it had
abbrev pub kept_over : List (List ℕ × List ℕ) → Contents → Contents
kept_over kept contents name = option_or (content_of kept name) (contents name)
