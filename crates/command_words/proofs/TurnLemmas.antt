-- What clap makes of one word of the command line.
use Rattle.std.proofs.Common.{not, ◌≡◌, ◌∙◌, ◌∷◌, ◌++◌, ◌||◌, ◌&&◌, ◌⊎◌, inl, inr, ℕ, Bool, true, false, zero, suc, List, [], map, drop, length, Option, Some, None, is_some, refl, sym, ap, ap₂, subst, bytes_eq, true≢false, cond, append-nil, fold}
use Rattle.std.specs.Prelude.{slice_get}
use Rattle.std.specs.Str.{chars}
use Rattle.std.proofs.lemmas.List.{map-append}
use Rattle.std.proofs.lemmas.Bool.{and_parts}
use Rattle.clap.specs.Lexer.{long_of, short_of}
use Rattle.clap.specs.Kinds.{Kinds, or_else}
use Rattle.clap.specs.Simple.{Shape}
use Rattle.clap.specs.Walk.{Held, Row, Step, Text, Waiting, Walk, after_step, at_row, bundle_met, has_row, idle, long_or_other, more_values, reacted, option, plain_word, settled, short_or_plain, subcommand_met, used, walked, without, plain}
use Rattle.clap.specs.Faults.{flag_word_fault, flags_fault, settle_fault, step_fault, turn_fault, use_fault, walk_fault}
use Rattle.clap.specs.declared.builder.value_parser.Reading.TheVariants as reading
use Rattle.clap.specs.declared.parser.matches.ValueSource.TheVariants.{CommandLine}
use Rattle.clap.specs.declared.error.kind.ErrorKind.{ErrorKind}
use Rattle.clap.specs.declared.error.kind.ErrorKind.TheVariants as kind
use Rattle.command_words.specs.Grammar.{Given, is_option_name, is_given, are_options}
use Rattle.command_words.proofs.PairLemmas.{bytes_eq-refl, each_name}
use Rattle.command_words.proofs.ProgramLemmas.{IsProgram, rule}

-- ---- faults

-- a step failed
abbrev pub HasFault : Kinds → Type 0
HasFault kinds = kinds ≡ [] → ⊥

abbrev is_nil : Kinds → Bool
is_nil [] = true
is_nil (k ∷ ks) = false

-- a list with a kind is a fault
pub fails : (k : ErrorKind) (ks : Kinds) → HasFault (k ∷ ks)
fails k ks e = true≢false (sym (ap is_nil e))

-- what fails first fails both
pub sooner : (a b : Kinds) → HasFault a → HasFault (or_else a b)
sooner [] b fault = absurd (fault refl)
sooner (k ∷ ks) b fault = fault

-- and so does what fails next
pub later : (a b : Kinds) → HasFault b → HasFault (or_else a b)
later [] b fault = fault
later (k ∷ ks) b fault = fails k ks

-- ---- rows

-- what was found for an option
abbrev pub row : Given → Row
row given = record { id = drop 2 given.0; values = given.1 ∷ []; count = None; source = Some CommandLine; reading = reading.AsWritten }

-- an option has a row if it is given
pub has_row-given : (all : List Given) (name : Text) → are_options all ≡ true → has_row name (map row all) ≡ is_given (45 ∷ 45 ∷ name) all
has_row-given [] name options = refl
has_row-given (given ∷ rest) name options =
    ap₂ (λ a b. a || b) (each_name (λ full. bytes_eq (drop 2 full) name ≡ bytes_eq full (45 ∷ 45 ∷ name)) refl refl refl refl given.0
    (and_parts (is_option_name given.0) (not (is_given given.0 rest)) (and_parts (is_option_name given.0 && not (is_given given.0 rest)) (are_options rest) options).0).0)
    (has_row-given rest name (and_parts (is_option_name given.0 && not (is_given given.0 rest)) (are_options rest) options).1)

-- if no row has this id, the rows get what represents a missing one
at_row-missing : (id : Text) (change : Row → List Row) (missing rows : List Row) → has_row id rows ≡ false → at_row id change missing rows ≡ rows ++ missing
at_row-missing id change missing [] none = refl
at_row-missing id change missing (r ∷ rs) none = go (bytes_eq r.id id) refl none (at_row-missing id change missing rs)
  where
    go : (b : Bool) → bytes_eq r.id id ≡ b → (b || has_row id rs) ≡ false → (has_row id rs ≡ false → at_row id change missing rs ≡ rs ++ missing)
        → at_row id change missing (r ∷ rs) ≡ r ∷ rs ++ missing
    go true same none below = absurd (true≢false none)
    go false other none below = rw other (ap (λ xs. r ∷ xs) (below none))

-- the first use of an option puts its row at the end
pub used-new : (name value : Text) (all : List Given) → has_row name (map row all) ≡ false
    → used (rule name) (value ∷ []) (map row all) ≡ map row (all ++ (45 ∷ 45 ∷ name, value) ∷ [])
used-new name value all new =
    let same : without name (map row all) ≡ map row all = at_row-missing name (λ r. []) [] (map row all) new ∙ append-nil (map row all) in
    ap (λ rows. at_row name (more_values CommandLine (value ∷ [])) (row (45 ∷ 45 ∷ name, value) ∷ []) rows) same
    ∙ at_row-missing name (more_values CommandLine (value ∷ [])) (row (45 ∷ 45 ∷ name, value) ∷ []) (map row all) new
    ∙ sym (map-append row all ((45 ∷ 45 ∷ name, value) ∷ []))

-- the first use passes
pub use-new : (name value : Text) (rows : List Row) → has_row name rows ≡ false → use_fault false (rule name) (value ∷ []) rows ≡ []
use-new name value rows new = rw new refl

-- a second one does not
pub use-repeat : (name value : Text) (rows : List Row) → has_row name rows ≡ true → HasFault (use_fault false (rule name) (value ∷ []) rows)
use-repeat name value rows twice =
    let is : use_fault false (rule name) (value ∷ []) rows ≡ kind.ArgumentConflict ∷ [] = rw twice refl in
    subst HasFault (sym is) (fails kind.ArgumentConflict [])

-- ---- one word

abbrev pub hold : List Row → Option (Text × List Text) → Held
hold rows pending = record { rows = rows; pending = pending; skip = 0 }

abbrev pub stand : Waiting → Held → Walk
stand waiting held = record { held = held; waiting = waiting; position = 1; is_trailing = false; stopped = None }

-- the faults of the words from where the walk is, up to the use of what is pending at their end
abbrev pub faults : Shape → Walk → List Text → Kinds
faults s w words = or_else (walk_fault s [] w words) (settle_fault s.rules s.args_override_self (fold (walked s.rules []) w words).held)

-- the rows at the end of the words
abbrev pub last_rows : Shape → Walk → List Text → List Row
last_rows s w words = (settled s.rules (fold (walked s.rules []) w words).held).rows

module _ (s : Shape) (w : Walk) (word : Text) (rest : List Text) where
  -- a word that fails
  pub faults-here : HasFault (turn_fault s [] w word) → HasFault (faults s w (word ∷ rest))
  unfolding walk_fault
  faults-here fault = sooner _ _ (sooner (turn_fault s [] w word) (walk_fault s [] (walked s.rules [] w word) rest) fault)

  -- a word that passes
  pub faults-next : (after : Walk) → turn_fault s [] w word ≡ [] → walked s.rules [] w word ≡ after → faults s w (word ∷ rest) ≡ faults s after rest
  unfolding walk_fault
  faults-next after passed is =
      ap (λ k. or_else (or_else k (walk_fault s [] (walked s.rules [] w word) rest)) (settle_fault s.rules s.args_override_self (fold (walked s.rules []) (walked s.rules [] w word) rest).held)) passed
      ∙ ap (λ v. faults s v rest) is

  pub last_rows-next : (after : Walk) → walked s.rules [] w word ≡ after → last_rows s w (word ∷ rest) ≡ last_rows s after rest
  last_rows-next after is = ap (λ v. last_rows s v rest) is

module _ (s : Shape) (is : IsProgram s) where
  -- a word of which no argument is a subcommand, and which is not `--`, by what is read of it
  module _ (waiting : Waiting) (word : Text) (held : Held) (read : Option (Text × Option Text)) (none : subcommand_met [] waiting word ≡ None)
      (other : bytes_eq word (45 ∷ 45 ∷ []) ≡ false) (long : long_of word ≡ read) where
    abbrev met : Held × Step
    met = long_or_other s.rules waiting word read held

    pub turn-read : turn_fault s [] (stand waiting held) word ≡ or_else (flag_word_fault s.rules false read word held) (step_fault s 1 met.0 met.1)
    turn-read = rw (none, other, long, is.again) refl

    pub walked-read : walked s.rules [] (stand waiting held) word ≡ after_step s.rules word (stand waiting held) met.0 met.1
    unfolding walked
    walked-read = rw (none, other, long) refl

  module _ (waiting : Waiting) (word : Text) (none : subcommand_met [] waiting word ≡ None) (other : bytes_eq word (45 ∷ 45 ∷ []) ≡ false) where
    -- `--name=value`
    module _ (held : Held) (name value : Text) (long : long_of word ≡ Some (name, Some value)) (known : is_option_name (45 ∷ 45 ∷ name) ≡ true) where
      pub turn-joined : turn_fault s [] (stand waiting held) word
          ≡ or_else (or_else (settle_fault s.rules false held) (use_fault false (rule name) (value ∷ []) (settled s.rules held).rows)) []
      turn-joined = turn-read waiting word held (Some (name, Some value)) none other long ∙ rw (is.by_long name known) refl

      pub walked-joined : walked s.rules [] (stand waiting held) word ≡ stand idle (reacted s.rules (rule name) (value ∷ []) held)
      walked-joined = walked-read waiting word held (Some (name, Some value)) none other long ∙ rw (is.by_long name known) refl

    -- `--name`
    module _ (held : Held) (name : Text) (long : long_of word ≡ Some (name, None)) (known : is_option_name (45 ∷ 45 ∷ name) ≡ true) where
      pub turn-spaced : turn_fault s [] (stand waiting held) word ≡ or_else (settle_fault s.rules false held) []
      turn-spaced = turn-read waiting word held (Some (name, None)) none other long ∙ rw (is.by_long name known) refl

      pub walked-spaced : walked s.rules [] (stand waiting held) word ≡ stand (option name) (record (settled s.rules held) { pending = Some (name, []) })
      walked-spaced = walked-read waiting word held (Some (name, None)) none other long ∙ rw (is.by_long name known) refl

    -- a long word whose name no option has
    pub turn-unknown : (held : Held) (name : Text) (value : Option Text) → long_of word ≡ Some (name, value) → is_option_name (45 ∷ 45 ∷ name) ≡ false
        → HasFault (turn_fault s [] (stand waiting held) word)
    turn-unknown held name value long unknown =
        subst HasFault (sym (turn-read waiting word held (Some (name, value)) none other long))
        (sooner _ (step_fault s 1 (met waiting word held (Some (name, value)) none other long).0 (met waiting word held (Some (name, value)) none other long).1) fault)
      where
        fault : HasFault (flag_word_fault s.rules false (Some (name, value)) word held)
        fault =
            let none_such : flag_word_fault s.rules false (Some (name, value)) word held ≡ kind.UnknownArgument ∷ [] = rw (is.by_no_long name unknown) refl in
            subst HasFault (sym none_such) (fails kind.UnknownArgument [])

  -- the characters after one hyphen name no option
  bundle-read : (k : ℕ) (flags : Text) (held : Held) → HasFault (flags_fault s.rules false k flags 0 held)
      ⊎ ((flags_fault s.rules false k flags 0 held ≡ []) × (bundle_met s.rules k flags 0 plain held ≡ (held, plain)))
  unfolding flags_fault bundle_met
  bundle-read zero flags held = inr (refl, refl)
  bundle-read (suc k) flags held = go (slice_get (chars flags) 0) refl
    where
      go : (o : Option ℕ) → slice_get (chars flags) 0 ≡ o → HasFault (flags_fault s.rules false (suc k) flags 0 held)
          ⊎ ((flags_fault s.rules false (suc k) flags 0 held ≡ []) × (bundle_met s.rules (suc k) flags 0 plain held ≡ (held, plain)))
      go None first = inr (rw first refl, rw first refl)
      go (Some x) first =
          let fault : flags_fault s.rules false (suc k) flags 0 held ≡ kind.UnknownArgument ∷ [] = rw (first, is.by_short x) refl in
          inl (subst HasFault (sym fault) (fails kind.UnknownArgument []))

  -- a word that is not long is a short one that fails, or plain
  module _ (waiting : Waiting) (word : Text) (none : subcommand_met [] waiting word ≡ None) (other : bytes_eq word (45 ∷ 45 ∷ []) ≡ false)
      (rows : List Row) (pending : Option (Text × List Text)) (long : long_of word ≡ None) where
    abbrev taken : Held × Step
    taken = plain_word s.rules waiting word (hold rows pending)

    pub data PlainTurn : Type 0 where
      fails_short : HasFault (turn_fault s [] (stand waiting (hold rows pending)) word) → is_some (short_of word) ≡ true → PlainTurn
      takes : turn_fault s [] (stand waiting (hold rows pending)) word ≡ step_fault s 1 taken.0 taken.1
          → walked s.rules [] (stand waiting (hold rows pending)) word ≡ after_step s.rules word (stand waiting (hold rows pending)) taken.0 taken.1 → PlainTurn

    pub plain_turn : PlainTurn
    plain_turn = go (short_of word) refl
      where
        turn : turn_fault s [] (stand waiting (hold rows pending)) word
            ≡ or_else (flag_word_fault s.rules false None word (hold rows pending))
            (step_fault s 1 (short_or_plain s.rules waiting word (short_of word) (hold rows pending)).0 (short_or_plain s.rules waiting word (short_of word) (hold rows pending)).1)
        turn = turn-read waiting word (hold rows pending) None none other long

        walk : walked s.rules [] (stand waiting (hold rows pending)) word
            ≡ after_step s.rules word (stand waiting (hold rows pending)) (short_or_plain s.rules waiting word (short_of word) (hold rows pending)).0
            (short_or_plain s.rules waiting word (short_of word) (hold rows pending)).1
        walk = walked-read waiting word (hold rows pending) None none other long

        bundled : (flags : Text) → short_of word ≡ Some flags → HasFault (flags_fault s.rules false (length flags) flags 0 (hold rows pending))
            ⊎ ((flags_fault s.rules false (length flags) flags 0 (hold rows pending) ≡ [])
            × (bundle_met s.rules (length flags) flags 0 plain (hold rows pending) ≡ (hold rows pending, plain))) → PlainTurn
        bundled flags short (inl fault) =
            let same : flag_word_fault s.rules false None word (hold rows pending) ≡ flags_fault s.rules false (length flags) flags 0 (hold rows pending) = rw short refl in
            fails_short (subst HasFault (sym turn) (sooner _ (step_fault s 1 (short_or_plain s.rules waiting word (short_of word) (hold rows pending)).0
            (short_or_plain s.rules waiting word (short_of word) (hold rows pending)).1) (subst HasFault (sym same) fault)))
            (ap is_some short)
        bundled flags short (inr read) =
            let clear : flags_fault s.rules false (length flags) flags 0 (hold rows pending) ≡ [] = read.0 in
            let met : bundle_met s.rules (length flags) flags 0 plain (hold rows pending) ≡ (hold rows pending, plain) = read.1 in
            takes (turn ∙ rw (short, clear, met) refl) (walk ∙ rw (short, met) refl)

        go : (o : Option Text) → short_of word ≡ o → PlainTurn
        go None short = takes (turn ∙ rw short refl) (walk ∙ rw short refl)
        go (Some flags) short = bundled flags short (bundle-read (length flags) flags (hold rows pending))

  -- a word that no option waits for, and that is not long, fails
  pub stray-fails : (word : Text) → bytes_eq word (45 ∷ 45 ∷ []) ≡ false → (rows : List Row) (pending : Option (Text × List Text)) → long_of word ≡ None
      → HasFault (turn_fault s [] (stand idle (hold rows pending)) word)
  stray-fails word other rows pending long = go (plain_turn idle word refl other rows pending long)
    where
      stray : (b : Bool) → HasFault (cond b (kind.UnknownArgument ∷ []) (kind.UnknownArgument ∷ kind.InvalidSubcommand ∷ []))
      stray true = fails kind.UnknownArgument []
      stray false = fails kind.UnknownArgument (kind.InvalidSubcommand ∷ [])

      go : PlainTurn idle word refl other rows pending long → HasFault (turn_fault s [] (stand idle (hold rows pending)) word)
      go (fails_short fault short) = fault
      go (takes turn walk) =
          let is_stray : turn_fault s [] (stand idle (hold rows pending)) word ≡ cond s.is_leaf (kind.UnknownArgument ∷ []) (kind.UnknownArgument ∷ kind.InvalidSubcommand ∷ [])
          = turn ∙ rw is.by_index refl in
          subst HasFault (sym is_stray) (stray s.is_leaf)

  -- a word that an option waits for, and that is not long: a short word that fails, or the option's value
  module _ (name word : Text) (known : is_option_name (45 ∷ 45 ∷ name) ≡ true) (other : bytes_eq word (45 ∷ 45 ∷ []) ≡ false) (rows : List Row)
      (long : long_of word ≡ None) where
    pub data ValueTurn : Type 0 where
      fails_value : HasFault (turn_fault s [] (stand (option name) (hold rows (Some (name, [])))) word) → is_some (short_of word) ≡ true → ValueTurn
      takes_value : turn_fault s [] (stand (option name) (hold rows (Some (name, [])))) word ≡ []
          → walked s.rules [] (stand (option name) (hold rows (Some (name, [])))) word ≡ stand idle (hold rows (Some (name, word ∷ []))) → ValueTurn

    pub value_turn : ValueTurn
    value_turn = go (plain_turn (option name) word refl other rows (Some (name, [])) long)
      where
        go : PlainTurn (option name) word refl other rows (Some (name, [])) long → ValueTurn
        go (fails_short fault short) = fails_value fault short
        go (takes turn walk) = takes_value turn (walk ∙ rw (is.by_id name known, bytes_eq-refl name) refl)
