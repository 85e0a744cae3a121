-- What clap makes of the words of the command line, by the grammar.
use Rattle.std.proofs.Common.{◌≡◌, ◌∙◌, ◌∷◌, ◌++◌, not, Bool, true, false, List, [], map, Option, Some, None, option_map, refl, sym, ap, ap₂, subst, bytes_eq, append_assoc, append-nil, unwrap_or}
use Rattle.std.specs.List.{list_all}
use Rattle.clap.specs.Lexer.{long_of}
use Rattle.clap.specs.Kinds.{Kinds, or_else}
use Rattle.clap.specs.Simple.{Shape}
use Rattle.clap.specs.Walk.{Row, Text, Waiting, Walk, idle, option, subcommand_met, settled_rows, has_row, used, walked}
use Rattle.clap.specs.Faults.{settle_fault, turn_fault, use_fault, walk_fault}
use Rattle.clap.specs.declared.error.kind.ErrorKind.TheVariants as kind
use Rattle.command_words.specs.Grammar.{Given, is_joined, is_option_name, are_options, options_in, pairs_of, parted}
use Rattle.script_lang.specs.Numbers.{is_number}
use Rattle.std.proofs.lemmas.Bool.{not-true, and_parts}
use Rattle.std.proofs.lemmas.Option.{none-some}
use Rattle.command_words.proofs.PairLemmas.{bad_name, bad_repeat, bad_value, one_more, pairs_of-joined, pairs_of-last, pairs_of-spaced}
use Rattle.command_words.proofs.ProgramLemmas.{IsProgram, rule}
use Rattle.command_words.proofs.TurnLemmas.{HasFault, ValueTurn, fails, fails_value, faults, faults-here, faults-next, has_row-given, hold, last_rows, last_rows-next, later, row, sooner, stand, stray-fails, takes_value, turn-joined, turn-spaced, turn-unknown, use-new, use-repeat, used-new, value_turn, walked-joined, walked-spaced}
use Rattle.command_words.proofs.WordLemmas.{LongWord, joined, long_no_number, long_word, name_apart, no_joined_name, no_name, short_no_number, spaced}

-- the word is not `--`
abbrev pub is_no_end : Text → Bool
is_no_end word = not (bytes_eq word (45 ∷ 45 ∷ []))

-- clap takes the words: they are pairs that make options with those before, and these are the rows
pub record Takes (all : List Given) (spelled : List Text) (kinds : Kinds) (rows : List Row) : Type 0 where
  pub pairs : List Given
  pub parts : pairs_of spelled ≡ Some pairs
  pub options : are_options (all ++ pairs) ≡ true
  pub clear : kinds ≡ []
  pub ends : rows ≡ map row (all ++ pairs)

-- clap refuses the words, and the grammar does
pub record Refuses (all : List Given) (spelled : List Text) (kinds : Kinds) : Type 0 where
  pub fault : HasFault kinds
  pub none : (pairs : List Given) → pairs_of spelled ≡ Some pairs → options_in (all ++ pairs) ≡ None

pub data Reads (all : List Given) (spelled : List Text) (kinds : Kinds) (rows : List Row) : Type 0 where
  taken : Takes all spelled kinds rows → Reads all spelled kinds rows
  refused : Refuses all spelled kinds → Reads all spelled kinds rows

-- ---- pairs at the front

-- if a pair is put in front, what comes out begins with it
pub is_cons : (given : Given) (o : Option (List Given)) (pairs : List Given) → option_map (λ rest. given ∷ rest) o ≡ Some pairs
    → (rest : List Given) × (o ≡ Some rest) × (pairs ≡ given ∷ rest)
is_cons given None pairs is = absurd (none-some pairs is)
is_cons given (Some rest) pairs is = (rest, refl, ap (λ o. unwrap_or o pairs) (sym is))

-- a pair at the front whose options come to nothing
bad_front : (all : List Given) (given : Given) (spelled rest : List Text) → pairs_of spelled ≡ option_map (λ pairs. given ∷ pairs) (pairs_of rest)
    → ((pairs : List Given) → options_in (all ++ given ∷ pairs) ≡ None) → (pairs : List Given) → pairs_of spelled ≡ Some pairs → options_in (all ++ pairs) ≡ None
bad_front all given spelled rest parts bad pairs is =
    let cut = is_cons given (pairs_of rest) pairs (sym parts ∙ is) in
    ap (λ xs. options_in (all ++ xs)) cut.2 ∙ bad cut.0

-- what is read after a pair is read with it
with_front : (all : List Given) (given : Given) (spelled rest : List Text) (kinds kinds' : Kinds) (rows rows' : List Row)
    → pairs_of spelled ≡ option_map (λ pairs. given ∷ pairs) (pairs_of rest) → kinds ≡ kinds' → rows ≡ rows'
    → Reads (all ++ given ∷ []) rest kinds' rows' → Reads all spelled kinds rows
with_front all given spelled rest kinds kinds' rows rows' parts same_kinds same_rows (taken reads) =
    let whole : all ++ given ∷ [] ++ reads.pairs ≡ all ++ (given ∷ reads.pairs) = append_assoc all (given ∷ []) reads.pairs in
    taken (record {
      pairs = given ∷ reads.pairs;
      parts = parts ∙ ap (option_map (λ (pairs : List Given). given ∷ pairs)) reads.parts;
      options = sym (ap are_options whole) ∙ reads.options;
      clear = same_kinds ∙ reads.clear;
      ends = same_rows ∙ reads.ends ∙ ap (map row) whole;
    })
with_front all given spelled rest kinds kinds' rows rows' parts same_kinds same_rows (refused reads) =
    refused (record {
      fault = λ clear. reads.fault (sym same_kinds ∙ clear);
      none = λ pairs is. let cut = is_cons given (pairs_of rest) pairs (sym parts ∙ is) in
          ap (λ xs. options_in (all ++ xs)) cut.2 ∙ sym (ap options_in (append_assoc all (given ∷ []) cut.0)) ∙ reads.none cut.0 cut.1;
    })

-- the same outcome, said of equal things
carried : (all : List Given) (spelled spelled' : List Text) (kinds kinds' : Kinds) (rows rows' : List Row) → spelled' ≡ spelled → kinds ≡ kinds' → rows ≡ rows'
    → Reads all spelled' kinds' rows' → Reads all spelled kinds rows
carried all spelled spelled' kinds kinds' rows rows' words same_kinds same_rows reads =
    subst (λ (r : List Row). Reads all spelled kinds r) (sym same_rows)
    (subst (λ (k : Kinds). Reads all spelled k rows') (sym same_kinds) (subst (λ (w : List Text). Reads all w kinds' rows') words reads))

-- a word of no option's name, with the next word as its value, comes to nothing
bad_spaced : (all : List Given) (word : Text) (rest : List Text) → is_joined word ≡ false → is_option_name word ≡ false → (pairs : List Given)
    → pairs_of (word ∷ rest) ≡ Some pairs → options_in (all ++ pairs) ≡ None
bad_spaced all word [] lacks unknown pairs is = absurd (none-some pairs (sym (pairs_of-last word lacks) ∙ is))
bad_spaced all word (next ∷ rest) lacks unknown pairs is =
    bad_front all (word, next) (word ∷ next ∷ rest) rest (pairs_of-spaced word next rest lacks) (λ ps. bad_name all (word, next) ps unknown) pairs is

-- nor does one with a value joined to it
bad_joined : (all : List Given) (word : Text) (rest : List Text) → is_joined word ≡ true → is_option_name (parted word).0 ≡ false → (pairs : List Given)
    → pairs_of (word ∷ rest) ≡ Some pairs → options_in (all ++ pairs) ≡ None
bad_joined all word rest has unknown = bad_front all (parted word) (word ∷ rest) rest (pairs_of-joined word rest has) (λ ps. bad_name all (parted word) ps unknown)

-- ---- the words one after the other

-- the first word is not `--`
no_end-first : (word : Text) (rest : List Text) → list_all is_no_end (word ∷ rest) ≡ true → bytes_eq word (45 ∷ 45 ∷ []) ≡ false
no_end-first word rest plain = not-true (bytes_eq word (45 ∷ 45 ∷ [])) (and_parts (is_no_end word) (list_all is_no_end rest) plain).0

-- nor is another one
no_end-rest : (word : Text) (rest : List Text) → list_all is_no_end (word ∷ rest) ≡ true → list_all is_no_end rest ≡ true
no_end-rest word rest plain = (and_parts (is_no_end word) (list_all is_no_end rest) plain).1

module _ (s : Shape) (is : IsProgram s) where
  -- what is pending fails as the use of its option does
  settle-pending : (name value : Text) (rows : List Row) → is_option_name (45 ∷ 45 ∷ name) ≡ true
      → settle_fault s.rules false (hold rows (Some (name, value ∷ []))) ≡ use_fault false (rule name) (value ∷ []) rows
  settle-pending name value rows known = rw (is.by_id name known) refl

  -- no use replaces an earlier one
  settle-again : (w : Walk) → settle_fault s.rules s.args_override_self w.held ≡ settle_fault s.rules false w.held
  settle-again w = ap (λ b. settle_fault s.rules b w.held) is.again

  -- at the end of the words what is pending is used
  faults-end : (w : Walk) → faults s w [] ≡ settle_fault s.rules false w.held
  unfolding walk_fault
  faults-end w = settle-again w

  -- a long word fails if what is pending does
  long_fails : (waiting : Waiting) (word : Text) → subcommand_met [] waiting word ≡ None → bytes_eq word (45 ∷ 45 ∷ []) ≡ false → (rows : List Row)
      (pending : Option (Text × List Text)) → HasFault (settle_fault s.rules false (hold rows pending)) → (name : Text) (value : Option Text)
      → long_of word ≡ Some (name, value) → HasFault (turn_fault s [] (stand waiting (hold rows pending)) word)
  long_fails waiting word none other rows pending fault name value long = go value long (is_option_name (45 ∷ 45 ∷ name)) refl
    where
      go : (value : Option Text) → long_of word ≡ Some (name, value) → (b : Bool) → is_option_name (45 ∷ 45 ∷ name) ≡ b
          → HasFault (turn_fault s [] (stand waiting (hold rows pending)) word)
      go value long false unknown = turn-unknown s is waiting word none other (hold rows pending) name value long unknown
      go (Some value) long true known =
          subst HasFault (sym (turn-joined s is waiting word none other (hold rows pending) name value long known)) (sooner _ [] (sooner _ _ fault))
      go None long true known = subst HasFault (sym (turn-spaced s is waiting word none other (hold rows pending) name long known)) (sooner _ [] fault)

  -- a walk whose pending argument fails fails with any words
  stale : (rows : List Row) (pending : Option (Text × List Text)) → HasFault (settle_fault s.rules false (hold rows pending)) → (words : List Text)
      → list_all is_no_end words ≡ true → HasFault (faults s (stand idle (hold rows pending)) words)
  stale rows pending fault [] plain = subst HasFault (sym (faults-end (stand idle (hold rows pending)))) fault
  stale rows pending fault (word ∷ rest) plain = faults-here s (stand idle (hold rows pending)) word rest (go (long_of word) refl)
    where
      other : bytes_eq word (45 ∷ 45 ∷ []) ≡ false
      other = no_end-first word rest plain

      go : (o : Option (Text × Option Text)) → long_of word ≡ o → HasFault (turn_fault s [] (stand idle (hold rows pending)) word)
      go None long = stray-fails s is word other rows pending long
      go (Some p) long = long_fails idle word refl other rows pending fault p.0 p.1 long

  -- the rows of the options so far, if what is pending passes
  pub record Holds (all : List Given) (rows : List Row) (pending : Option (Text × List Text)) : Type 0 where
    pub options : are_options all ≡ true
    pub clear : settle_fault s.rules false (hold rows pending) ≡ []
    pub ends : settled_rows s.rules pending rows ≡ map row all

  abbrev ReadsIdle : List Given → List Row → Option (Text × List Text) → List Text → Type 0
  ReadsIdle all rows pending words = Reads all words (faults s (stand idle (hold rows pending)) words) (last_rows s (stand idle (hold rows pending)) words)

  abbrev ReadsValue : List Given → Text → List Row → List Text → Type 0
  ReadsValue all name rows words = Reads all ((45 ∷ 45 ∷ name) ∷ words) (faults s (stand (option name) (hold rows (Some (name, [])))) words)
      (last_rows s (stand (option name) (hold rows (Some (name, [])))) words)

  -- what follows a name of an option, before the words after its value
  module _ (all : List Given) (name : Text) (known : is_option_name (45 ∷ 45 ∷ name) ≡ true) (options : are_options all ≡ true) (rows : List Row)
      (ends : rows ≡ map row all) where
    abbrev waits : Walk
    waits = stand (option name) (hold rows (Some (name, [])))

    unfilled : HasFault (settle_fault s.rules false (hold rows (Some (name, []))))
    unfilled =
        let fault : settle_fault s.rules false (hold rows (Some (name, []))) ≡ kind.InvalidValue ∷ [] = rw (is.by_id name known) refl in
        subst HasFault (sym fault) (fails kind.InvalidValue [])

    apart : is_joined (45 ∷ 45 ∷ name) ≡ false
    apart = name_apart (45 ∷ 45 ∷ name) known

    pub value_missing : ReadsValue all name rows []
    value_missing = refused (record {
      fault = subst HasFault (sym (faults-end waits)) unfilled;
      none = λ pairs parts. absurd (none-some pairs (sym (pairs_of-last (45 ∷ 45 ∷ name) apart) ∙ parts));
    })

    module _ (word : Text) (rest : List Text) (other : bytes_eq word (45 ∷ 45 ∷ []) ≡ false) (plain : list_all is_no_end rest ≡ true)
        (idle_after : (now : List Given) (left : List Row) (pending : Option (Text × List Text)) → Holds now left pending → ReadsIdle now left pending rest) where
      abbrev given : Given
      given = (45 ∷ 45 ∷ name, word)

      parts : pairs_of ((45 ∷ 45 ∷ name) ∷ word ∷ rest) ≡ option_map (λ pairs. given ∷ pairs) (pairs_of rest)
      parts = pairs_of-spaced (45 ∷ 45 ∷ name) word rest apart

      no_value : is_number word ≡ false → HasFault (turn_fault s [] waits word) → ReadsValue all name rows (word ∷ rest)
      no_value bad fault = refused (record {
        fault = faults-here s waits word rest fault;
        none = bad_front all given ((45 ∷ 45 ∷ name) ∷ word ∷ rest) rest parts (λ ps. bad_value all given ps bad);
      })

      filled : turn_fault s [] waits word ≡ [] → walked s.rules [] waits word ≡ stand idle (hold rows (Some (name, word ∷ []))) → (b : Bool) → has_row name rows ≡ b
          → ReadsValue all name rows (word ∷ rest)
      filled turn walk true twice = refused (record {
        fault = subst HasFault (sym (faults-next s waits word rest (stand idle (hold rows (Some (name, word ∷ [])))) turn walk))
            (stale rows (Some (name, word ∷ [])) (subst HasFault (sym (settle-pending name word rows known)) (use-repeat name word rows twice)) rest plain);
        none = bad_front all given ((45 ∷ 45 ∷ name) ∷ word ∷ rest) rest parts
            (λ ps. bad_repeat all given ps (sym (has_row-given all name options) ∙ sym (ap (has_row name) ends) ∙ twice));
      })
      filled turn walk false new =
          let fresh : has_row name (map row all) ≡ false = sym (ap (has_row name) ends) ∙ new in
          let used_up : settled_rows s.rules (Some (name, word ∷ [])) rows ≡ used (rule name) (word ∷ []) rows = rw (is.by_id name known) refl in
          with_front all given ((45 ∷ 45 ∷ name) ∷ word ∷ rest) rest _ _ _ _ parts
          (faults-next s waits word rest (stand idle (hold rows (Some (name, word ∷ [])))) turn walk)
          (last_rows-next s waits word rest (stand idle (hold rows (Some (name, word ∷ [])))) walk)
          (idle_after (all ++ given ∷ []) rows (Some (name, word ∷ [])) (record {
            options = one_more all given options known (sym (has_row-given all name options) ∙ fresh);
            clear = settle-pending name word rows known ∙ use-new name word rows new;
            ends = used_up ∙ ap (used (rule name) (word ∷ [])) ends ∙ used-new name word all fresh;
          }))

      pub value_read : ReadsValue all name rows (word ∷ rest)
      value_read = go (long_of word) refl
        where
          plain_value : (long : long_of word ≡ None) → ValueTurn s is name word known other rows long → ReadsValue all name rows (word ∷ rest)
          plain_value long (fails_value fault short) = no_value (short_no_number word short) fault
          plain_value long (takes_value turn walk) = filled turn walk (has_row name rows) refl

          go : (o : Option (Text × Option Text)) → long_of word ≡ o → ReadsValue all name rows (word ∷ rest)
          go None long = plain_value long (value_turn s is name word known other rows long)
          go (Some p) long =
              no_value (long_no_number word p.0 p.1 long) (long_fails (option name) word refl other rows (Some (name, [])) unfilled p.0 p.1 long)

  -- a word if no option waits for a value
  module _ (all : List Given) (rows : List Row) (pending : Option (Text × List Text)) (holds : Holds all rows pending) (word : Text) (rest : List Text)
      (other : bytes_eq word (45 ∷ 45 ∷ []) ≡ false)
      (idle_after : (now : List Given) (left : List Row) (next : Option (Text × List Text)) → Holds now left next → ReadsIdle now left next rest)
      (value_after : (name : Text) → is_option_name (45 ∷ 45 ∷ name) ≡ true → (left : List Row) → left ≡ map row all → ReadsValue all name left rest) where
    abbrev here : Walk
    here = stand idle (hold rows pending)

    stray_word : long_of word ≡ None → ReadsIdle all rows pending (word ∷ rest)
    stray_word long = refused (record {
      fault = faults-here s here word rest (stray-fails s is word other rows pending long);
      none = go (is_joined word) refl;
    })
      where
        go : (b : Bool) → is_joined word ≡ b → (pairs : List Given) → pairs_of (word ∷ rest) ≡ Some pairs → options_in (all ++ pairs) ≡ None
        go true has = bad_joined all word rest has (no_joined_name word has long)
        go false lacks = bad_spaced all word rest lacks (no_name word long)

    unknown_word : (name : Text) (value : Option Text) → long_of word ≡ Some (name, value) → is_option_name (45 ∷ 45 ∷ name) ≡ false → ReadsIdle all rows pending (word ∷ rest)
    unknown_word name value long unknown = refused (record {
      fault = faults-here s here word rest (turn-unknown s is idle word refl other (hold rows pending) name value long unknown);
      none = go (long_word word name value long);
    })
      where
        go : LongWord word name value → (pairs : List Given) → pairs_of (word ∷ rest) ≡ Some pairs → options_in (all ++ pairs) ≡ None
        go (joined text is_text has parts) = bad_joined all word rest has (ap (λ (p : Given). is_option_name p.0) parts ∙ unknown)
        go (spaced is_none lacks whole) = bad_spaced all word rest lacks (ap is_option_name whole ∙ unknown)

    module _ (name : Text) (known : is_option_name (45 ∷ 45 ∷ name) ≡ true) where
      joined_word : (text : Text) → long_of word ≡ Some (name, Some text) → is_joined word ≡ true → parted word ≡ (45 ∷ 45 ∷ name, text) → (b : Bool)
          → has_row name (map row all) ≡ b → ReadsIdle all rows pending (word ∷ rest)
      joined_word text long has two true twice = refused (record {
        fault = faults-here s here word rest (subst HasFault (sym (turn-joined s is idle word refl other (hold rows pending) name text long known))
            (sooner _ [] (later (settle_fault s.rules false (hold rows pending)) _ (use-repeat name text (settled_rows s.rules pending rows) (ap (has_row name) holds.ends ∙ twice)))));
        none = bad_front all (45 ∷ 45 ∷ name, text) (word ∷ rest) rest
            (pairs_of-joined word rest has ∙ ap (λ (g : Given). option_map (λ (pairs : List Given). g ∷ pairs) (pairs_of rest)) two)
            (λ ps. bad_repeat all (45 ∷ 45 ∷ name, text) ps (sym (has_row-given all name holds.options) ∙ twice));
      })
      joined_word text long has two false new =
          let clear : use_fault false (rule name) (text ∷ []) (settled_rows s.rules pending rows) ≡ [] =
          use-new name text (settled_rows s.rules pending rows) (ap (has_row name) holds.ends ∙ new) in
          let turn : turn_fault s [] here word ≡ [] = turn-joined s is idle word refl other (hold rows pending) name text long known
          ∙ ap₂ (λ (a b : Kinds). or_else (or_else a b) []) holds.clear clear in
          let walk = walked-joined s is idle word refl other (hold rows pending) name text long known in
          with_front all (45 ∷ 45 ∷ name, text) (word ∷ rest) rest _ _ _ _
          (pairs_of-joined word rest has ∙ ap (λ (g : Given). option_map (λ (pairs : List Given). g ∷ pairs) (pairs_of rest)) two)
          (faults-next s here word rest (stand idle (hold (used (rule name) (text ∷ []) (settled_rows s.rules pending rows)) None)) turn walk)
          (last_rows-next s here word rest (stand idle (hold (used (rule name) (text ∷ []) (settled_rows s.rules pending rows)) None)) walk)
          (idle_after (all ++ (45 ∷ 45 ∷ name, text) ∷ []) (used (rule name) (text ∷ []) (settled_rows s.rules pending rows)) None (record {
            options = one_more all (45 ∷ 45 ∷ name, text) holds.options known (sym (has_row-given all name holds.options) ∙ new);
            clear = refl;
            ends = ap (used (rule name) (text ∷ [])) holds.ends ∙ used-new name text all new;
          }))

      spaced_word : long_of word ≡ Some (name, None) → word ≡ 45 ∷ 45 ∷ name → ReadsIdle all rows pending (word ∷ rest)
      spaced_word long whole =
          let turn : turn_fault s [] here word ≡ [] = turn-spaced s is idle word refl other (hold rows pending) name long known
          ∙ ap (λ (a : Kinds). or_else a []) holds.clear in
          let walk = walked-spaced s is idle word refl other (hold rows pending) name long known in
          carried all (word ∷ rest) ((45 ∷ 45 ∷ name) ∷ rest) _ _ _ _ (ap (λ (w : Text). w ∷ rest) (sym whole))
          (faults-next s here word rest (stand (option name) (hold (settled_rows s.rules pending rows) (Some (name, [])))) turn walk)
          (last_rows-next s here word rest (stand (option name) (hold (settled_rows s.rules pending rows) (Some (name, [])))) walk)
          (value_after name known (settled_rows s.rules pending rows) holds.ends)

    pub idle_read : ReadsIdle all rows pending (word ∷ rest)
    idle_read = go (long_of word) refl
      where
        known_word : (name : Text) (value : Option Text) → long_of word ≡ Some (name, value) → is_option_name (45 ∷ 45 ∷ name) ≡ true → LongWord word name value
            → ReadsIdle all rows pending (word ∷ rest)
        known_word name value long known (joined text is_text has parts) =
            joined_word name known text (long ∙ ap (λ (v : Option Text). Some (name, v)) is_text) has parts (has_row name (map row all)) refl
        known_word name value long known (spaced is_none lacks whole) = spaced_word name known (long ∙ ap (λ (v : Option Text). Some (name, v)) is_none) whole

        long_read : (name : Text) (value : Option Text) → long_of word ≡ Some (name, value) → (b : Bool) → is_option_name (45 ∷ 45 ∷ name) ≡ b
            → ReadsIdle all rows pending (word ∷ rest)
        long_read name value long false unknown = unknown_word name value long unknown
        long_read name value long true known = known_word name value long known (long_word word name value long)

        go : (o : Option (Text × Option Text)) → long_of word ≡ o → ReadsIdle all rows pending (word ∷ rest)
        go None long = stray_word long
        go (Some p) long = long_read p.0 p.1 long (is_option_name (45 ∷ 45 ∷ p.0)) refl

  -- what is read of the words, if no option waits for a value and if one does
  pub record ReadsFrom (words : List Text) : Type 0 where
    pub unwaited : (all : List Given) (rows : List Row) (pending : Option (Text × List Text)) → Holds all rows pending → ReadsIdle all rows pending words
    pub awaited : (all : List Given) (name : Text) → is_option_name (45 ∷ 45 ∷ name) ≡ true → are_options all ≡ true → (rows : List Row) → rows ≡ map row all
        → ReadsValue all name rows words

  pub reads_from : (words : List Text) → list_all is_no_end words ≡ true → ReadsFrom words
  reads_from [] plain = record {
    unwaited = λ all rows pending holds. taken (record {
      pairs = [];
      parts = refl;
      options = ap are_options (append-nil all) ∙ holds.options;
      clear = faults-end (stand idle (hold rows pending)) ∙ holds.clear;
      ends = holds.ends ∙ sym (ap (map row) (append-nil all));
    });
    awaited = λ all name known options rows ends. value_missing all name known options rows ends;
  }
  reads_from (word ∷ rest) plain =
      let below = reads_from rest (no_end-rest word rest plain) in
      let other = no_end-first word rest plain in
      record {
        unwaited = λ all rows pending holds. idle_read all rows pending holds word rest other below.unwaited
            (λ name known left ends. below.awaited all name known holds.options left ends);
        awaited = λ all name known options rows ends. value_read all name known options rows ends word rest other (no_end-rest word rest plain) below.unwaited;
      }
